use Rattle.std.proofs.Common.{◌∙◌, subst, sym, refl}
use Rattle.txn.proofs.Exits.{exit_with}
use Rattle.plan_exec.specs.Course.{record_course, record_there}
use Rattle.plan_exec.specs.Errors.{exec_memory, exec_read}
use Rattle.plan_exec.specs.Streams.{HasNotGiven, HasOnlyRead}
use Rattle.plan_exec.specs.declared.error.ExecError.TheVariants.{Corrupt}
use Rattle.plan_exec.proofs.FetchedOne.{none_not, value_gone, value_not}
use Rattle.plan_exec.proofs.Streaming.{gone_memory, not_memory}
use Rattle.plan_exec.proofs.fetch_streams.record_pair.Goals as goal

pub returns-in_err-key-clause-stopped : goal.returns-in_err-key-clause-stopped
returns-in_err-key-clause-stopped g c =
    exit_with c.from_residual.result exec_memory _ c.from_residual.ensures
    (not_memory (λ pairs. record_course c.args.records.now.store.now.prefix pairs c.args.records.now.definition.value c.args.entry.now) refl)

pub returns-in_err-value-clause-stopped : goal.returns-in_err-value-clause-stopped
returns-in_err-value-clause-stopped g c =
    exit_with c.from_residual-in_err-value.result (exec_read c.in_err-value.field-0.0) _ c.from_residual-in_err-value.ensures
    (value_not c.args.records.now.store.now.prefix c.args.records.now.definition.value c.args.entry.now c.in_ok-key.key c.in_ok-key.ensures.key c.in_err-value.field-0.0 c.in_err-value.ensures.kept c.in_err-value.ensures.refused)

pub returns-in-Some-clause-gone : goal.returns-in-Some-clause-gone
returns-in-Some-clause-gone g c =
    let prefix = c.args.records.now.store.now.prefix in
    let t = c.args.records.now.definition.value in
    let gone = value_gone {maps = g.S.Snapshot.map_at c.args.db.now} prefix t c.args.entry.now c.in_ok-key.key c.in_ok-key.ensures.key c.in_ok-value.field-0 c.in_ok-value.ensures.reads c.in_ok-value.ensures.answer in
    subst (λ o. HasOnlyRead (g.S.Snapshot.map_at c.args.db.now) (λ pairs. record_course prefix pairs t c.args.entry.now) (λ pairs. record_there prefix pairs t c.args.entry.now o) c.args.tx.now c.get.new.self) c.in-Some.is gone

pub returns-in_err-copy-in-None-clause-stopped : goal.returns-in_err-copy-in-None-clause-stopped
returns-in_err-copy-in-None-clause-stopped g c =
    let prefix = c.args.records.now.store.now.prefix in
    let t = c.args.records.now.definition.value in
    let gone = value_gone {maps = g.S.Snapshot.map_at c.args.db.now} prefix t c.args.entry.now c.in_ok-key.key c.in_ok-key.ensures.key c.in_ok-value.field-0 c.in_ok-value.ensures.reads c.in_ok-value.ensures.answer in
    exit_with c.from_residual-in_err-copy-in-None.result exec_memory _ c.from_residual-in_err-copy-in-None.ensures (gone_memory gone)

pub returns-in_ok-copy-in-None-clause-stopped : goal.returns-in_ok-copy-in-None-clause-stopped
returns-in_ok-copy-in-None-clause-stopped g c =
    let prefix = c.args.records.now.store.now.prefix in
    let t = c.args.records.now.definition.value in
    let gone = value_gone {maps = g.S.Snapshot.map_at c.args.db.now} prefix t c.args.entry.now c.in_ok-key.key c.in_ok-key.ensures.key c.in_ok-value.field-0 c.in_ok-value.ensures.reads c.in_ok-value.ensures.answer in
    let copied = c.in_ok-copy-in-None.ensures ∙ c.key.ensures in
    subst (λ key. HasNotGiven (g.S.Snapshot.map_at c.args.db.now) (g.S.Snapshot.may_refuse c.args.db.now) (λ pairs. record_course prefix pairs t c.args.entry.now) (Corrupt key) c.args.tx.now c.get.new.self) (sym copied)
    (none_not prefix t c.args.entry.now
    (subst (λ o. HasOnlyRead (g.S.Snapshot.map_at c.args.db.now) (λ pairs. record_course prefix pairs t c.args.entry.now) (λ pairs. record_there prefix pairs t c.args.entry.now o) c.args.tx.now c.get.new.self) c.in-None.is gone))
