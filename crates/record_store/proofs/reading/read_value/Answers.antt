use Rattle.std.proofs.Common.{refl}
use Rattle.kv_core.specs.Range.{point}
use Rattle.txn.proofs.Exits.{exit_with}
use Rattle.record_store.specs.Steps.{of_read}
use Rattle.record_store.proofs.Stopping.{read_failed}
use Rattle.record_store.proofs.reading.read_value.Goals as goal

pub returns-in_err-value-clause-refused : goal.returns-in_err-value-clause-refused
returns-in_err-value-clause-refused g c =
    exit_with c.from_residual.result (of_read c.in_err-value.field-0.0) _ c.from_residual.ensures
    (read_failed (point c.args.key.now) (point c.args.key.now) c.in_err-value.field-0.0 refl c.in_err-value.ensures.kept c.in_err-value.ensures.refused)
