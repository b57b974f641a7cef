use Rattle.std.proofs.Common.{subst, sym}
use Rattle.txn.proofs.Exits.{exit_with}
use Rattle.record_store.specs.Layout.{states_range}
use Rattle.record_store.specs.Steps.{of_read}
use Rattle.record_store.proofs.Stopping.{read_failed}
use Rattle.record_store.proofs.opening.read_states.Goals as goal

pub returns-in_err-states-clause-refused : goal.returns-in_err-states-clause-refused
returns-in_err-states-clause-refused g c =
    exit_with c.from_residual-in_err-states.result (of_read c.in_err-states.field-0.0) _ c.from_residual-in_err-states.ensures
    (read_failed c.in_ok-range.range (states_range c.args.prefix.now) c.in_err-states.field-0.0 c.in_ok-range.ensures c.in_err-states.ensures.kept c.in_err-states.ensures.refused)

pub returns-clause-allowed : goal.returns-clause-allowed
returns-clause-allowed g c = λ must.
    c.in_ok-states.ensures.allowed (subst (λ r. g.S.Snapshot.must_refuse c.args.db.now r c.args.tx.now.read_version) (sym c.in_ok-range.ensures) must)
