use Rattle.std.proofs.Common.{Some, refl}
use Rattle.txn.proofs.Exits.{exit_with}
use Rattle.plan_exec.proofs.FetchedOne.{row_given, row_not}
use Rattle.plan_exec.proofs.fetch_streams.fetch_packed.Goals as goal

pub returns-in_err-pair-clause-stopped : goal.returns-in_err-pair-clause-stopped
returns-in_err-pair-clause-stopped g c =
    exit_with c.from_residual.result c.in_err-pair.field-0.0 _ c.from_residual.ensures c.in_err-pair.ensures.stopped

pub returns-in_err-push_record-clause-stopped : goal.returns-in_err-push_record-clause-stopped
returns-in_err-push_record-clause-stopped g c =
    exit_with c.from_residual-in_err-push_record.result c.in_err-push_record.field-0.0 _ c.from_residual-in_err-push_record.ensures
    (row_not c.args.records.now.store.now.prefix c.args.records.now.definition.value c.args.entry.now c.in_ok-pair.pair.0 c.in_ok-pair.ensures.key c.in_ok-pair.pair.1 c.in_ok-pair.ensures.gone
    c.in_err-push_record.field-0.0 c.in_err-push_record.ensures.damaged)

pub returns-clause-packed : goal.returns-clause-packed
returns-clause-packed g c =
    let told = c.in_ok-push_record.ensures.found in record {
      found = Some told.0;
      gave = row_given c.args.records.now.store.now.prefix c.args.records.now.definition.value c.args.entry.now c.in_ok-pair.pair.0 c.in_ok-pair.ensures.key c.in_ok-pair.pair.1 c.in_ok-pair.ensures.gone
          told.0 told.1;
      tells = refl;
      rows = told.2;
    }
