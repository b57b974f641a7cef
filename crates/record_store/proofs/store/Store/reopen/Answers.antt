use Rattle.std.proofs.Common.{◌∙◌, ap, subst, sym}
use Rattle.kv_core.specs.Range.{point}
use Rattle.txn.proofs.Exits.{exit_with}
use Rattle.record_store.specs.Call.{Opened}
use Rattle.record_store.specs.Layout.{schema_key, states_range}
use Rattle.record_store.specs.Steps.{of_read}
use Rattle.record_store.proofs.Reopening.{opened_again, schema_read_refused, schema_refused, states_read_refused, states_refused}
use Rattle.record_store.proofs.store.Store.reopen.Goals as goal

pub returns-in_err-check-clause-refused : goal.returns-in_err-check-clause-refused
returns-in_err-check-clause-refused g c =
    exit_with c.from_residual.result (of_read c.in_err-check.field-0.0) _ c.from_residual.ensures
    (schema_refused (g.S.Snapshot.map_at c.args.db.now) c.args.self.now c.args.tx.now c.requires (g.S.Snapshot.may_refuse c.args.db.now) c.in_err-check.field-0.0
    (subst (λ range. g.S.Snapshot.may_refuse c.args.db.now range c.args.tx.now.read_version c.in_err-check.field-0.0)
    (c.self.invariant.2.0 ∙ ap (λ (opened : Opened). point (schema_key opened.prefix)) c.self.view_is) c.in_err-check.ensures.refused))

pub returns-in_err-check-2-clause-refused : goal.returns-in_err-check-2-clause-refused
returns-in_err-check-2-clause-refused g c =
    exit_with c.from_residual-in_err-check-2.result (of_read c.in_err-check-2.field-0.0) _ c.from_residual-in_err-check-2.ensures
    (states_refused (g.S.Snapshot.map_at c.args.db.now) c.args.self.now c.args.tx.now c.requires (g.S.Snapshot.may_refuse c.args.db.now) c.in_err-check-2.field-0.0
    (subst (λ range. g.S.Snapshot.may_refuse c.args.db.now range c.args.tx.now.read_version c.in_err-check-2.field-0.0)
    (c.self.invariant.2.1 ∙ ap (λ (opened : Opened). states_range opened.prefix) c.self.view_is) c.in_err-check-2.ensures.refused))

pub returns-in_err-check-clause-only : goal.returns-in_err-check-clause-only
returns-in_err-check-clause-only g c =
    exit_with c.from_residual.result (of_read c.in_err-check.field-0.0) _ c.from_residual.ensures
    (schema_read_refused c.args.self.now.prefix (λ range. g.S.Snapshot.may_refuse c.args.db.now range c.args.tx.now.read_version) c.in_err-check.field-0.0
    (subst (λ range. g.S.Snapshot.may_refuse c.args.db.now range c.args.tx.now.read_version c.in_err-check.field-0.0)
    (c.self.invariant.2.0 ∙ ap (λ (opened : Opened). point (schema_key opened.prefix)) c.self.view_is) c.in_err-check.ensures.refused))

pub returns-in_err-check-2-clause-only : goal.returns-in_err-check-2-clause-only
returns-in_err-check-2-clause-only g c =
    exit_with c.from_residual-in_err-check-2.result (of_read c.in_err-check-2.field-0.0) _ c.from_residual-in_err-check-2.ensures
    (states_read_refused c.args.self.now.prefix (λ range. g.S.Snapshot.may_refuse c.args.db.now range c.args.tx.now.read_version) c.in_err-check-2.field-0.0
    (subst (λ range. g.S.Snapshot.may_refuse c.args.db.now range c.args.tx.now.read_version c.in_err-check-2.field-0.0)
    (c.self.invariant.2.1 ∙ ap (λ (opened : Opened). states_range opened.prefix) c.self.view_is) c.in_err-check-2.ensures.refused))

pub returns-clause-opened : goal.returns-clause-opened
returns-clause-opened g c = opened_again (g.S.Snapshot.map_at c.args.db.now) c.args.self.now c.args.tx.now c.requires

pub returns-clause-allowed : goal.returns-clause-allowed
returns-clause-allowed g c = (
  λ must. c.in_ok-check.ensures.allowed
      (subst (λ range. g.S.Snapshot.must_refuse c.args.db.now range c.args.tx.now.read_version)
      (sym (c.self.invariant.2.0 ∙ ap (λ (opened : Opened). point (schema_key opened.prefix)) c.self.view_is)) must),
  (
    λ must. c.in_ok-check-2.ensures.allowed
        (subst (λ range. g.S.Snapshot.must_refuse c.args.db.now range c.args.tx.now.read_version)
        (sym (c.self.invariant.2.1 ∙ ap (λ (opened : Opened). states_range opened.prefix) c.self.view_is)) must),
    tt,
  ),
)
