use Rattle.std.proofs.Common.{◌≡◌, ◌∙◌, ap, subst, sym}
use Rattle.range_set.specs.Calls.{IsPositionTold, IsUntold}
use Rattle.index_maint.specs.Layout.{built_place}
use Rattle.txn.proofs.Exits.{exit_with}
use Rattle.record_store.specs.BuiltReading.{position_in}
use Rattle.record_store.specs.Steps.{of_set}
use Rattle.record_store.proofs.Followed.{told_asked, untold_asked}
use Rattle.record_store.proofs.store.Store.is_built.Goals as goal

pub returns-in_err-told-clause-refused : goal.returns-in_err-told-clause-refused
returns-in_err-told-clause-refused c =
    exit_with c.from_residual-in_err-told.result (of_set c.in_err-told.field-0.0) _ c.from_residual-in_err-told.ensures
    (untold_asked c.args.self.now c.prefix-prefix.ensures.lawful c.args.number (position_in c.args.self.now.prefix c.args.number c.args.key.now) c.args.index.now c.requires c.args.found.now c.in_err-told.field-0.0 (sym c.asks.ensures ∙ c.if-not-asks.false)
    (subst (λ at. IsUntold (built_place c.args.self.now.prefix c.args.index.now.number) at c.args.found.now c.in_err-told.field-0.0) at_is
    (subst (λ p. IsUntold p c.in_ok-position.position.now c.args.found.now c.in_err-told.field-0.0) place_is c.in_err-told.ensures.refused)))
  where
    place_is : c.as_slice.result.now ≡ built_place c.args.self.now.prefix c.args.index.now.number
    place_is = c.as_slice.ensures.value ∙ c.in_ok-place.ensures.place ∙ ap (λ p. built_place p c.args.index.now.number) c.prefix-prefix.ensures.prefix

    at_is : c.in_ok-position.position.now ≡ position_in c.args.self.now.prefix c.args.number c.args.key.now
    at_is = c.in_ok-position.ensures ∙ ap (λ p. position_in p c.args.number c.args.key.now) c.prefix-prefix.ensures.prefix

pub returns-clause-told : goal.returns-clause-told
returns-clause-told c =
    told_asked c.args.self.now c.prefix-prefix.ensures.lawful c.args.number (position_in c.args.self.now.prefix c.args.number c.args.key.now) c.args.index.now c.requires c.args.found.now c.in_ok-told.told (sym c.asks.ensures ∙ c.if-not-asks.false)
    (subst (λ at. IsPositionTold (built_place c.args.self.now.prefix c.args.index.now.number) at c.args.found.now c.in_ok-told.told) at_is
    (subst (λ p. IsPositionTold p c.in_ok-position.position.now c.args.found.now c.in_ok-told.told) place_is c.in_ok-told.ensures.told))
  where
    place_is : c.as_slice.result.now ≡ built_place c.args.self.now.prefix c.args.index.now.number
    place_is = c.as_slice.ensures.value ∙ c.in_ok-place.ensures.place ∙ ap (λ p. built_place p c.args.index.now.number) c.prefix-prefix.ensures.prefix

    at_is : c.in_ok-position.position.now ≡ position_in c.args.self.now.prefix c.args.number c.args.key.now
    at_is = c.in_ok-position.ensures ∙ ap (λ p. position_in p c.args.number c.args.key.now) c.prefix-prefix.ensures.prefix
