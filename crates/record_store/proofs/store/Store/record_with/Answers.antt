use Rattle.std.proofs.Common.{◌∙◌, ap, subst}
use Rattle.std.specs.Option.{IfNone}
use Rattle.metadata.specs.Stored.{IsOfNoRecord}
use Rattle.record_store.specs.Layout.{packed_in}
use Rattle.record_store.proofs.store.Store.record_with.Goals as goal

pub returns-in_ok-copy-in-None-clause-refused : goal.returns-in_ok-copy-in-None-clause-refused
returns-in_ok-copy-in-None-clause-refused c = (
  c.in_ok-copy-in-None.ensures,
  subst (IsOfNoRecord c.args.definition.now (packed_in c.args.self.now.prefix c.args.key.now)) c.as_slice.ensures
      (subst (λ k. IsOfNoRecord c.args.definition.now k c.as_slice.result.now) (c.packed_in-packed.ensures ∙ ap (λ p. packed_in p c.args.key.now) c.prefix.ensures.prefix)
      (subst (λ o. IfNone o (IsOfNoRecord c.args.definition.now c.packed_in-packed.result.now c.as_slice.result.now)) c.in-None.is c.in_ok-found.ensures.none)),
)
