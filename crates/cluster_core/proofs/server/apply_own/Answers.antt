use Rattle.std.proofs.Common.{◌≡◌, ◌+◌, ◌∙◌, ap, sym, subst, drop}
use Rattle.cluster_core.specs.Chains.{Writes, shown}
use Rattle.cluster_core.specs.declared.chains.Chains.{Chains}
use Rattle.cluster_core.specs.Tier.{part}
use Rattle.cluster_core.proofs.OwnMaps.{applied-own, applied-rest, skipped-rest}
use Rattle.cluster_core.proofs.Places.{drop_item}
use Rattle.cluster_core.proofs.Written.{Writes-trans, below_after}
use Rattle.cluster_core.proofs.server.apply_own.Goals as goal
use Rattle.cluster_core.proofs.server.apply_own.Goals.{then-writes_own+in_ok-apply, else-writes_own}

pub apply-requires : goal.apply-requires
apply-requires c =
    let first = c.args.chains.now in
    let old = c.loop-mutation.chains in
    below_after c.args.version first.written.items old.written.items first.chains old.chains c.requires.below c.loop-mutation.invariant.writes

pub loop-mutation-preserved : goal.loop-mutation-preserved
loop-mutation-preserved c =
    let owner = c.args.owner.now in
    let first = c.args.chains.now in
    let old = c.loop-mutation.chains in
    let before = shown old.chains.entries c.args.version in
    let next = shown c.if-writes_own.chains.chains.entries c.args.version in
    let more = drop (c.loop-mutation.mutation-index + 1) c.args.mutations.now in
    let split = drop_item c.args.mutations.now c.loop-mutation.mutation-index c.mutation-item.result c.loop-mutation-test.true c.mutation-item.is in
    elim c.if-writes_own.branch [
      | then-writes_own+in_ok-apply w ↦
          let done = ap (λ (t : Chains). shown t.chains.entries c.args.version) w.chains-is ∙ w.in_ok-apply.ensures.ok in record {
            own = subst (λ m. part owner m ≡ m) (sym done) (applied-own owner c.mutation-item.result before c.loop-mutation.invariant.own (sym c.writes_own.ensures ∙ w.if-writes_own.true));
            rest = applied-rest owner c.mutation-item.result more _ before next _ split done c.loop-mutation.invariant.rest;
            writes = subst (λ (t : Chains). Writes c.args.version first.written.items first.chains t.written.items t.chains) (sym w.chains-is)
                (Writes-trans c.args.version first.written.items old.written.items w.apply.new.self.written.items first.chains old.chains w.apply.new.self.chains c.loop-mutation.invariant.writes
                w.in_ok-apply.ensures.writes);
          }
      | else-writes_own w ↦
          let same = ap (λ (t : Chains). shown t.chains.entries c.args.version) w.chains-is in record {
            own = subst (λ m. part owner m ≡ m) (sym same) c.loop-mutation.invariant.own;
            rest = skipped-rest owner c.mutation-item.result more _ before next _ c.loop-mutation.invariant.own (sym c.writes_own.ensures ∙ w.if-writes_own.false) split same c.loop-mutation.invariant.rest;
            writes = subst (λ (t : Chains). Writes c.args.version first.written.items first.chains t.written.items t.chains) (sym w.chains-is) c.loop-mutation.invariant.writes;
          }
    ]
