use Rattle.std.proofs.Common.{◌≡◌, arith, length, subst, sym, true}
use Rattle.cluster_core.specs.Kept.{KeepsRecent, KnowsKeys, KnowsWrites, KnowsWriters, PutsEach, has_place, rise_between}
use Rattle.cluster_core.proofs.Recent.{from_some, from_whole, recent_ranges}
use Rattle.cluster_core.proofs.Rising.{rise_weaker}
use Rattle.cluster_core.proofs.Waiting.{all_ordered, put_some, put_whole}
use Rattle.cluster_core.proofs.kept.Writers.put_in_order.Goals as goal

pub put_each-requires-clause-rising : goal.put_each-requires-clause-rising
put_each-requires-clause-rising c =
    let rising = subst (λ w. rise_between w.ranges.ordered c.args.upto w.ranges.pending ≡ true) (sym c.self.view_is) c.requires.in_order in
    subst (λ ps. rise_between 0 (length c.args.requests.now.all) ps ≡ true) (sym c.as_slice.ensures.value)
    (rise_weaker c.self.inside.ordered 0 c.args.upto (length c.args.requests.now.all) c.self.inside.pending.items (omega arith) c.requires.asks.inside rising)

pub returns-in_err-put_each-clause-kept : goal.returns-in_err-put_each-clause-kept
returns-in_err-put_each-clause-kept c =
    let puts = subst (λ ps. PutsEach c.args.requests.now.all ps c.self.inside.segments c.put_each.new.segments) c.as_slice.ensures.value c.put_each.ensures.puts in
    record {
      knows = λ start from low was.
          let all = subst (KnowsWriters c.args.part.now start c.args.requests.now.all from c.args.upto) (sym c.self.view_is) was in
          record { ranges = put_some _ _ _ _ _ _ _ _ _ all.ranges puts; points = all.points };
      recent = λ window next was.
          let all = subst (KeepsRecent window next) (sym c.self.view_is) was in
          recent_ranges window next _ _ (from_some c.self.inside.dropped c.self.inside.ordered c.self.inside.pending.items c.self.inside.segments c.args.requests.now.all c.put_each.new.segments puts all.ranges) all;
    }

pub returns-clause-kept : goal.returns-clause-kept
returns-clause-kept c =
    let puts = subst (λ ps. PutsEach c.args.requests.now.all ps c.self.inside.segments c.put_each.new.segments) c.as_slice.ensures.value c.put_each.ensures.puts in
    record {
      knows = λ start from low was.
          let all = subst (KnowsWriters c.args.part.now start c.args.requests.now.all from c.args.upto) (sym c.self.view_is) was in
          let keys : KnowsKeys c.args.part.now start c.args.requests.now.all from c.args.upto c.args.upto c.put_each.new.segments =
          put_whole _ _ _ _ _ _ _ _ _ all.ranges puts
          (λ key place after has own wrote. c.in_ok-put_each.ensures.covered key place (omega (arith, low, after)) (subst (λ ps. has_place ps place ≡ true) (sym c.as_slice.ensures.value) has) own wrote) in
          record {
            ranges = subst (λ ps. KnowsWrites c.args.part.now start c.args.requests.now.all from c.args.upto (record { segments = c.put_each.new.segments; ordered = c.args.upto; pending = ps })) (sym c.clear.ensures.items)
                (all_ordered _ _ _ _ _ _ keys);
            points = all.points;
          };
      recent = λ window next was.
          let all = subst (KeepsRecent window next) (sym c.self.view_is) was in
          subst (λ ps. KeepsRecent window next (record {
            ranges = record { segments = c.put_each.new.segments; ordered = c.args.upto; pending = ps };
            points = record { segments = c.self.inside.points.segments; ordered = c.self.inside.noted; pending = c.self.inside.unnoted.items };
            whole_from = c.self.inside.points.whole_from;
            dropped = c.self.inside.dropped;
          })) (sym c.clear.ensures.items)
          (recent_ranges window next _ _
          (from_whole c.self.inside.dropped c.self.inside.ordered c.self.inside.pending.items c.self.inside.segments c.args.requests.now.all c.put_each.new.segments puts all.ranges c.args.upto) all);
    }
