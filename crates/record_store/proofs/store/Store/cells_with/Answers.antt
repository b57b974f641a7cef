use Rattle.std.proofs.Common.{◌≡◌, ◌∙◌, List, Option, Some, None, ap, refl, subst}
use Rattle.std.specs.Option.{IfNone}
use Rattle.metadata.specs.declared.cells.Cell.{Cell}
use Rattle.metadata.specs.Stored.{IsOfNoRecord}
use Rattle.record_store.specs.Layout.{packed_in}
use Rattle.record_store.proofs.store.Store.cells_with.Goals as goal

pub returns-in_default-clause-refused : goal.returns-in_default-clause-refused
returns-in_default-clause-refused c = (
  c.in_ok-copy.ensures,
  subst (IsOfNoRecord c.args.definition.now (packed_in c.args.self.now.prefix c.args.key.now)) c.as_slice.ensures
      (subst (λ k. IsOfNoRecord c.args.definition.now k c.as_slice.result.now) (c.packed_in-packed.ensures ∙ ap (λ p. packed_in p c.args.key.now) c.prefix.ensures.prefix)
      (subst (λ o. IfNone o (IsOfNoRecord c.args.definition.now c.packed_in-packed.result.now c.as_slice.result.now)) (none_of c.in_ok-cells.field-0 c.in_default.not-Some) c.in_ok-cells.ensures.none)),
)
  where
    none_of : (o : Option (List Cell)) → ((cells : List Cell) → o ≡ Some cells → ⊥) → o ≡ None
    none_of None none = refl
    none_of (Some cells) none = absurd (none cells refl)
