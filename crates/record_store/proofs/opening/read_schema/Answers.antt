use Rattle.std.proofs.Common.{ap, subst, sym}
use Rattle.kv_core.specs.Range.{point}
use Rattle.txn.proofs.Exits.{exit_with}
use Rattle.record_store.specs.Layout.{schema_key}
use Rattle.record_store.specs.Steps.{of_read}
use Rattle.record_store.proofs.Stopping.{read_failed}
use Rattle.record_store.proofs.opening.read_schema.Goals as goal

pub returns-in_err-written-clause-refused : goal.returns-in_err-written-clause-refused
returns-in_err-written-clause-refused g c =
    exit_with c.from_residual-in_err-written.result (of_read c.in_err-written.field-0.0) _ c.from_residual-in_err-written.ensures
    (read_failed (point c.in_ok-key.key) (point (schema_key c.args.prefix.now)) c.in_err-written.field-0.0 (ap point c.in_ok-key.ensures.key) c.in_err-written.ensures.kept c.in_err-written.ensures.refused)

pub returns-clause-allowed : goal.returns-clause-allowed
returns-clause-allowed g c = λ must.
    c.in_ok-written.ensures.allowed (subst (λ k. g.S.Snapshot.must_refuse c.args.db.now (point k) c.args.tx.now.read_version) (sym c.in_ok-key.ensures.key) must)
