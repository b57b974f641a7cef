use Rattle.std.proofs.Common.{rules, ◌≡◌, arith, max, nat_le, subst, sym}
use Rattle.std.proofs.lemmas.Fn.{filter_same}
use Rattle.std.specs.List.{filter}
use Rattle.cluster_core.specs.Kept.{KeepsFrom, KnowsWrites, KnowsWriters}
use Rattle.cluster_core.proofs.Recent.{from_dropped, recent_dropped}
use Rattle.cluster_core.proofs.Waiting.{forgotten}
use Rattle.cluster_core.proofs.kept.Writers.forget.Goals as goal

pub returns-clause-kept : goal.returns-clause-kept
returns-clause-kept c = λ owner start requests upto was.
    let unnoted : c.retain.new.self.items ≡ filter (nat_le c.args.least) c.self.inside.unnoted.items =
    filter_same _ (nat_le c.args.least) _ (λ x b f t. search rules) _ _ c.retain.ensures.filtered in
    let pending : c.retain-2.new.self.items ≡ filter (nat_le c.args.least) c.self.inside.pending.items =
    filter_same _ (nat_le c.args.least) _ (λ x b f t. search rules) _ _ c.retain-2.ensures.filtered in
    let all = subst (KnowsWriters owner start requests c.args.least upto) (sym c.self.view_is) was in
    record {
      ranges = subst (λ ps. KnowsWrites owner start requests c.args.least upto (record { segments = c.drop_before-2.new.self; ordered = c.self.inside.ordered; pending = ps })) (sym pending)
          (forgotten _ _ _ _ _ _ _ _ _ all.ranges c.args.least (omega arith) c.drop_before-2.ensures.holds c.drop_before-2.ensures.kept);
      points = subst (λ n. KnowsWrites owner start requests (max c.args.least n) upto (record { segments = c.drop_before.new.self.segments; ordered = c.self.inside.noted; pending = c.retain.new.self.items })) (sym c.drop_before.ensures.whole)
          (subst (λ ps. KnowsWrites owner start requests (max c.args.least c.self.inside.points.whole_from) upto (record { segments = c.drop_before.new.self.segments; ordered = c.self.inside.noted; pending = ps })) (sym unnoted)
          (forgotten _ _ _ _ _ _ _ _ _ all.points c.args.least (omega arith) c.drop_before.ensures.holds c.drop_before.ensures.kept));
    }

pub returns-clause-recent : goal.returns-clause-recent
returns-clause-recent c = λ upto next is low high was.
    let unnoted : c.retain.new.self.items ≡ filter (nat_le c.args.least) c.self.inside.unnoted.items =
    filter_same _ (nat_le c.args.least) _ (λ x b f t. search rules) _ _ c.retain.ensures.filtered in
    let pending : c.retain-2.new.self.items ≡ filter (nat_le c.args.least) c.self.inside.pending.items =
    filter_same _ (nat_le c.args.least) _ (λ x b f t. search rules) _ _ c.retain-2.ensures.filtered in
    recent_dropped c.args.window upto next c.args.least _ _ _ is low high
    (subst (λ ps. KeepsFrom c.args.least (record { segments = c.drop_before-2.new.self; ordered = c.self.inside.ordered; pending = ps })) (sym pending)
    (from_dropped c.args.least c.self.inside.ordered c.self.inside.pending.items c.drop_before-2.new.self c.drop_before-2.ensures.recent))
    (subst (λ ps. KeepsFrom c.args.least (record { segments = c.drop_before.new.self.segments; ordered = c.self.inside.noted; pending = ps })) (sym unnoted)
    (from_dropped c.args.least c.self.inside.noted c.self.inside.unnoted.items c.drop_before.new.self.segments c.drop_before.ensures.recent))
