use Rattle.std.proofs.Common.{◌≡◌, arith, length, max, subst, sym, true}
use Rattle.cluster_core.specs.Kept.{KeepsRecent, KnowsWrites, KnowsWriters, PutsEach, has_place, rise_between}
use Rattle.cluster_core.proofs.Noting.{note_some, note_whole}
use Rattle.cluster_core.proofs.Recent.{from_some, from_whole, recent_points}
use Rattle.cluster_core.proofs.Rising.{rise_weaker}
use Rattle.cluster_core.proofs.kept.Writers.note.Goals as goal

pub note_each-requires-clause-rising : goal.note_each-requires-clause-rising
note_each-requires-clause-rising c =
    let rising = subst (λ w. rise_between w.points.ordered c.args.upto w.points.pending ≡ true) (sym c.self.view_is) c.requires.in_order in
    subst (λ ps. rise_between 0 (length c.args.requests.now.all) ps ≡ true) (sym c.as_slice.ensures.value)
    (rise_weaker c.self.inside.noted 0 c.args.upto (length c.args.requests.now.all) c.self.inside.unnoted.items (omega arith) c.requires.asks.inside rising)

pub returns-in_err-note_each-clause-kept : goal.returns-in_err-note_each-clause-kept
returns-in_err-note_each-clause-kept c =
    let puts = subst (λ ps. PutsEach c.args.requests.now.all ps c.self.inside.points.segments c.note_each.new.self.segments) c.as_slice.ensures.value c.note_each.ensures.puts in
    record {
      knows = λ start from low was.
          let all = subst (KnowsWriters c.args.part.now start c.args.requests.now.all from c.args.upto) (sym c.self.view_is) was in
          record { ranges = all.ranges; points = note_some c.args.part.now start c.args.requests.now.all from c.args.upto c.self.inside.noted c.self.inside.unnoted.items c.self.inside.points c.note_each.new.self all.points puts c.note_each.ensures.whole };
      recent = λ window next was.
          let all = subst (KeepsRecent window next) (sym c.self.view_is) was in
          recent_points window next c.note_each.new.self.whole_from _ _
          (from_some c.self.inside.dropped c.self.inside.noted c.self.inside.unnoted.items c.self.inside.points.segments c.args.requests.now.all c.note_each.new.self.segments puts all.points) all;
    }

pub returns-clause-kept : goal.returns-clause-kept
returns-clause-kept c =
    let puts = subst (λ ps. PutsEach c.args.requests.now.all ps c.self.inside.points.segments c.note_each.new.self.segments) c.as_slice.ensures.value c.note_each.ensures.puts in
    record {
      knows = λ start from low was.
          let all = subst (KnowsWriters c.args.part.now start c.args.requests.now.all from c.args.upto) (sym c.self.view_is) was in
          record {
            ranges = all.ranges;
            points = subst (λ ps. KnowsWrites c.args.part.now start c.args.requests.now.all (max from c.note_each.new.self.whole_from) c.args.upto
                (record { segments = c.note_each.new.self.segments; ordered = c.args.upto; pending = ps })) (sym c.clear.ensures.items)
                (note_whole c.args.part.now start c.args.requests.now.all from c.args.upto c.self.inside.noted c.self.inside.unnoted.items c.self.inside.points c.note_each.new.self all.points puts
                c.note_each.ensures.whole
                (λ key place after told has own wrote. c.in_ok-note_each.ensures.covered key place (omega (arith, low, after)) told (subst (λ ps. has_place ps place ≡ true) (sym c.as_slice.ensures.value) has) own wrote));
          };
      recent = λ window next was.
          let all = subst (KeepsRecent window next) (sym c.self.view_is) was in
          subst (λ ps. KeepsRecent window next (record {
            ranges = record { segments = c.self.inside.segments; ordered = c.self.inside.ordered; pending = c.self.inside.pending.items };
            points = record { segments = c.note_each.new.self.segments; ordered = c.args.upto; pending = ps };
            whole_from = c.note_each.new.self.whole_from;
            dropped = c.self.inside.dropped;
          })) (sym c.clear.ensures.items)
          (recent_points window next c.note_each.new.self.whole_from _ _
          (from_whole c.self.inside.dropped c.self.inside.noted c.self.inside.unnoted.items c.self.inside.points.segments c.args.requests.now.all c.note_each.new.self.segments puts all.points c.args.upto) all);
    }
