use Rattle.std.proofs.Common.{◌≡◌, ℕ, ◌+◌, List, arith, subst₂, sym, take}
use Rattle.std.specs.Prelude.{suc}
use Rattle.metadata.specs.declared.index.State.{State}
use Rattle.txn.proofs.Exits.{exit_with}
use Rattle.record_store.specs.Reading.{AreStates, HaveNoStates}
use Rattle.record_store.proofs.StateSteps.{bad_state_among, states_more}
use Rattle.record_store.proofs.found_states.states_found.Goals as goal

pub loop-pair-preserved : goal.loop-pair-preserved
loop-pair-preserved c =
    let next : suc c.loop-pair.pair-index ≡ c.loop-pair.pair-index + 1 = omega arith in
    subst₂ (λ (n : ℕ) (states : List (ℕ × State)). AreStates c.args.prefix.now c.args.indexes.now (take n c.args.pairs.now) states) next (sym c.in_ok-push.ensures.items)
    (states_more c.args.prefix.now c.loop-pair.pair-index c.args.indexes.now c.args.pairs.now c.pair-item.result c.loop-pair.states.items c.in_ok-found.found
    c.loop-pair-test.true c.pair-item.is c.loop-pair.invariant c.in_ok-found.ensures.found)

pub returns-in_err-found-clause-refused : goal.returns-in_err-found-clause-refused
returns-in_err-found-clause-refused c =
    exit_with c.from_residual-in_err-found.result c.in_err-found.field-0.0 (HaveNoStates c.args.prefix.now c.args.indexes.now c.args.pairs.now) c.from_residual-in_err-found.ensures
    (bad_state_among c.args.prefix.now c.loop-pair.pair-index c.args.indexes.now c.args.pairs.now c.pair-item.result c.loop-pair.states.items c.in_err-found.field-0.0
    c.loop-pair-test.true c.pair-item.is c.loop-pair.invariant c.in_err-found.ensures.refused)
