use Rattle.txn.proofs.Exits.{exit_with}
use Rattle.plan_exec.proofs.FetchedOne.{row_given, row_not}
use Rattle.plan_exec.proofs.fetch_streams.fetch_record.Goals as goal

pub returns-in_err-pair-clause-stopped : goal.returns-in_err-pair-clause-stopped
returns-in_err-pair-clause-stopped g c =
    exit_with c.from_residual.result c.in_err-pair.field-0.0 _ c.from_residual.ensures c.in_err-pair.ensures.stopped

pub returns-in_err-row-clause-stopped : goal.returns-in_err-row-clause-stopped
returns-in_err-row-clause-stopped g c =
    exit_with c.from_residual-in_err-row.result c.in_err-row.field-0.0 _ c.from_residual-in_err-row.ensures
    (row_not c.args.records.now.store.now.prefix c.args.records.now.definition.value c.args.entry.now c.in_ok-pair.pair.0 c.in_ok-pair.ensures.key c.in_ok-pair.pair.1 c.in_ok-pair.ensures.gone
    c.in_err-row.field-0.0 c.in_err-row.ensures.damaged)

pub returns-clause-given : goal.returns-clause-given
returns-clause-given g c =
    row_given c.args.records.now.store.now.prefix c.args.records.now.definition.value c.args.entry.now c.in_ok-pair.pair.0 c.in_ok-pair.ensures.key c.in_ok-pair.pair.1 c.in_ok-pair.ensures.gone
    c.in_ok-row.row c.in_ok-row.ensures.found
