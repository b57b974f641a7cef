use Rattle.std.proofs.Common.{IfOk, subst, sym}
use Rattle.schedule.specs.Performed.{IsPerformed}
use Rattle.schedule.proofs.performing.answer.Goals as goal

pub returns-in-Create-clause-performed : goal.returns-in-Create-clause-performed
returns-in-Create-clause-performed g c =
    subst (λ command. IfOk c.create.result (λ answer. IsPerformed c.args.number (g.S.Snapshot.map_at c.args.db.now) (λ range. g.S.Snapshot.may_refuse c.args.db.now range c.args.tx.now.read_version) command answer c.args.tx.now c.create.new.tx))
    (sym c.in-Create.is) c.create.ensures.performed

pub returns-in-Type-clause-performed : goal.returns-in-Type-clause-performed
returns-in-Type-clause-performed g c =
    subst (λ command. IfOk c.add_type.result (λ answer. IsPerformed c.args.number (g.S.Snapshot.map_at c.args.db.now) (λ range. g.S.Snapshot.may_refuse c.args.db.now range c.args.tx.now.read_version) command answer c.args.tx.now c.add_type.new.tx))
    (sym c.in-Type.is) c.add_type.ensures.performed

pub returns-in-Field-clause-performed : goal.returns-in-Field-clause-performed
returns-in-Field-clause-performed g c =
    subst (λ command. IfOk c.add_field.result (λ answer. IsPerformed c.args.number (g.S.Snapshot.map_at c.args.db.now) (λ range. g.S.Snapshot.may_refuse c.args.db.now range c.args.tx.now.read_version) command answer c.args.tx.now c.add_field.new.tx))
    (sym c.in-Field.is) c.add_field.ensures.performed

pub returns-in-Save-clause-performed : goal.returns-in-Save-clause-performed
returns-in-Save-clause-performed g c =
    subst (λ command. IfOk c.save.result (λ answer. IsPerformed c.args.number (g.S.Snapshot.map_at c.args.db.now) (λ range. g.S.Snapshot.may_refuse c.args.db.now range c.args.tx.now.read_version) command answer c.args.tx.now c.save.new.tx))
    (sym c.in-Save.is) c.save.ensures.performed

pub returns-in-Load-clause-performed : goal.returns-in-Load-clause-performed
returns-in-Load-clause-performed g c =
    subst (λ command. IfOk c.load.result (λ answer. IsPerformed c.args.number (g.S.Snapshot.map_at c.args.db.now) (λ range. g.S.Snapshot.may_refuse c.args.db.now range c.args.tx.now.read_version) command answer c.args.tx.now c.load.new.tx))
    (sym c.in-Load.is) c.load.ensures.performed

pub returns-in-Remove-clause-performed : goal.returns-in-Remove-clause-performed
returns-in-Remove-clause-performed g c =
    subst (λ command. IfOk c.remove.result (λ answer. IsPerformed c.args.number (g.S.Snapshot.map_at c.args.db.now) (λ range. g.S.Snapshot.may_refuse c.args.db.now range c.args.tx.now.read_version) command answer c.args.tx.now c.remove.new.tx))
    (sym c.in-Remove.is) c.remove.ensures.performed

pub returns-in-Query-clause-performed : goal.returns-in-Query-clause-performed
returns-in-Query-clause-performed g c =
    subst (λ command. IfOk c.query.result (λ answer. IsPerformed c.args.number (g.S.Snapshot.map_at c.args.db.now) (λ range. g.S.Snapshot.may_refuse c.args.db.now range c.args.tx.now.read_version) command answer c.args.tx.now c.query.new.tx))
    (sym c.in-Query.is) c.query.ensures.performed

pub returns-in-State-clause-performed : goal.returns-in-State-clause-performed
returns-in-State-clause-performed g c =
    subst (λ command. IfOk c.index_state.result (λ answer. IsPerformed c.args.number (g.S.Snapshot.map_at c.args.db.now) (λ range. g.S.Snapshot.may_refuse c.args.db.now range c.args.tx.now.read_version) command answer c.args.tx.now c.index_state.new.tx))
    (sym c.in-State.is) c.index_state.ensures.performed

pub returns-in-Index-clause-performed : goal.returns-in-Index-clause-performed
returns-in-Index-clause-performed g c =
    subst (λ command. IfOk c.add_index.result (λ answer. IsPerformed c.args.number (g.S.Snapshot.map_at c.args.db.now) (λ range. g.S.Snapshot.may_refuse c.args.db.now range c.args.tx.now.read_version) command answer c.args.tx.now c.add_index.new.tx))
    (sym c.in-Index.is) c.add_index.ensures.performed

pub returns-in-Drop-clause-performed : goal.returns-in-Drop-clause-performed
returns-in-Drop-clause-performed g c =
    subst (λ command. IfOk c.drop_index.result (λ answer. IsPerformed c.args.number (g.S.Snapshot.map_at c.args.db.now) (λ range. g.S.Snapshot.may_refuse c.args.db.now range c.args.tx.now.read_version) command answer c.args.tx.now c.drop_index.new.tx))
    (sym c.in-Drop.is) c.drop_index.ensures.performed

pub returns-in-Disable-clause-performed : goal.returns-in-Disable-clause-performed
returns-in-Disable-clause-performed g c =
    subst (λ command. IfOk c.disable_index.result (λ answer. IsPerformed c.args.number (g.S.Snapshot.map_at c.args.db.now) (λ range. g.S.Snapshot.may_refuse c.args.db.now range c.args.tx.now.read_version) command answer c.args.tx.now c.disable_index.new.tx))
    (sym c.in-Disable.is) c.disable_index.ensures.performed

pub returns-in-WriteOnly-clause-performed : goal.returns-in-WriteOnly-clause-performed
returns-in-WriteOnly-clause-performed g c =
    subst (λ command. IfOk c.mark_write_only.result (λ answer. IsPerformed c.args.number (g.S.Snapshot.map_at c.args.db.now) (λ range. g.S.Snapshot.may_refuse c.args.db.now range c.args.tx.now.read_version) command answer c.args.tx.now c.mark_write_only.new.tx))
    (sym c.in-WriteOnly.is) c.mark_write_only.ensures.performed

pub returns-in-Readable-clause-performed : goal.returns-in-Readable-clause-performed
returns-in-Readable-clause-performed g c =
    subst (λ command. IfOk c.mark_readable.result (λ answer. IsPerformed c.args.number (g.S.Snapshot.map_at c.args.db.now) (λ range. g.S.Snapshot.may_refuse c.args.db.now range c.args.tx.now.read_version) command answer c.args.tx.now c.mark_readable.new.tx))
    (sym c.in-Readable.is) c.mark_readable.ensures.performed

pub returns-in-Build-clause-performed : goal.returns-in-Build-clause-performed
returns-in-Build-clause-performed g c =
    subst (λ command. IfOk c.build.result (λ answer. IsPerformed c.args.number (g.S.Snapshot.map_at c.args.db.now) (λ range. g.S.Snapshot.may_refuse c.args.db.now range c.args.tx.now.read_version) command answer c.args.tx.now c.build.new.tx))
    (sym c.in-Build.is) c.build.ensures.performed

pub returns-in-Plan-clause-performed : goal.returns-in-Plan-clause-performed
returns-in-Plan-clause-performed g c =
    subst (λ command. IfOk c.plan.result (λ answer. IsPerformed c.args.number (g.S.Snapshot.map_at c.args.db.now) (λ range. g.S.Snapshot.may_refuse c.args.db.now range c.args.tx.now.read_version) command answer c.args.tx.now c.plan.new.tx))
    (sym c.in-Plan.is) c.plan.ensures.performed

pub returns-in-Execute-clause-performed : goal.returns-in-Execute-clause-performed
returns-in-Execute-clause-performed g c =
    subst (λ command. IfOk c.execute.result (λ answer. IsPerformed c.args.number (g.S.Snapshot.map_at c.args.db.now) (λ range. g.S.Snapshot.may_refuse c.args.db.now range c.args.tx.now.read_version) command answer c.args.tx.now c.execute.new.tx))
    (sym c.in-Execute.is) c.execute.ensures.performed

pub returns-in-Aggregate-clause-performed : goal.returns-in-Aggregate-clause-performed
returns-in-Aggregate-clause-performed g c =
    subst (λ command. IfOk c.aggregate.result (λ answer. IsPerformed c.args.number (g.S.Snapshot.map_at c.args.db.now) (λ range. g.S.Snapshot.may_refuse c.args.db.now range c.args.tx.now.read_version) command answer c.args.tx.now c.aggregate.new.tx))
    (sym c.in-Aggregate.is) c.aggregate.ensures.performed
