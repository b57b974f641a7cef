use Rattle.std.proofs.Common.{◌∙◌, ◌∷◌, [], ap, refl, rules, subst, sym}
use Rattle.std.proofs.lemmas.Int.{to_z-of_z}
use mir.Val.{SFits}
use Rattle.std.specs.Int.{w64}
use Rattle.kv_core.specs.Range.{point}
use Rattle.index_maint.specs.Totals.{group_key}
use Rattle.txn.proofs.Exits.{exit_with}
use Rattle.record_store.specs.Call.{whole}
use Rattle.record_store.specs.Reading.{IsTotalFound}
use Rattle.record_store.specs.Steps.{of_read}
use Rattle.record_store.proofs.Aggregates.{group_fits, total_read, total_unread}
use Rattle.record_store.proofs.Stopping.{unread_failed}
use Rattle.record_store.proofs.store.Store.read_total.Goals as goal

pub returns-in_err-value-clause-refused : goal.returns-in_err-value-clause-refused
returns-in_err-value-clause-refused g c =
    exit_with c.from_residual-in_err-value.result (of_read c.in_err-value.field-0.0) _ c.from_residual-in_err-value.ensures
    (unread_failed c.args.self.now (whole (point (group_key c.args.self.now.prefix c.args.index.now.number c.args.group.now) ∷ [])) (point c.in_ok-key.key)
    (point (group_key c.args.self.now.prefix c.args.index.now.number c.args.group.now)) c.in_err-value.field-0.0
    (ap point (c.in_ok-key.ensures.key ∙ ap (λ p. group_key p c.args.index.now.number c.args.group.now) c.prefix.ensures.prefix)) (λ m. refl) c.in_err-value.ensures.kept c.in_err-value.ensures.refused)

pub returns-in_err-total-clause-refused : goal.returns-in_err-total-clause-refused
returns-in_err-total-clause-refused g c =
    exit_with c.from_residual-in_err-total.result c.in_err-total.field-0.0 _ c.from_residual-in_err-total.ensures
    (total_unread c.args.self.now c.args.index.now c.args.group.now c.requires.index (group_fits c.args.self.now.schema c.args.index.now c.args.group.now c.requires.group c.in_ok-key.ensures.cells)
    c.in_ok-key.key c.in_ok-value.value c.in_err-total.field-0.0
    (c.in_ok-key.ensures.key ∙ ap (λ p. group_key p c.args.index.now.number c.args.group.now) c.prefix.ensures.prefix)
    c.in_ok-value.ensures.reads c.in_ok-value.ensures.answer c.in_err-total.ensures.refused)

pub returns-clause-found : goal.returns-clause-found
returns-clause-found g c =
    total_read c.args.self.now c.args.index.now c.args.group.now c.requires.index (group_fits c.args.self.now.schema c.args.index.now c.args.group.now c.requires.group c.in_ok-key.ensures.cells)
    c.in_ok-key.key c.in_ok-value.value _
    (c.in_ok-key.ensures.key ∙ ap (λ p. group_key p c.args.index.now.number c.args.group.now) c.prefix.ensures.prefix)
    c.in_ok-value.ensures.reads c.in_ok-value.ensures.answer (subst (IsTotalFound c.in_ok-value.value) (sym (to_z-of_z w64 c.in_ok-total.total fits)) c.in_ok-total.ensures.found)
  where
    fits : SFits w64 c.in_ok-total.total
    fits = search rules
