use Rattle.std.proofs.Common.{◌≡◌, ◌∙◌, List, [], ◌∷◌, Some, Vec, Global, ap, map, subst}
use Rattle.kv_core.specs.declared.bytes.Bytes.{Bytes}
use Rattle.kv_core.specs.declared.change.Mutation.TheVariants.{Set}
use Rattle.metadata.specs.Record.{primary_key}
use Rattle.txn.proofs.Exits.{exit_with}
use Rattle.record_store.specs.BuiltReading.{position_in}
use Rattle.record_store.specs.Layout.{record_key, record_value}
use Rattle.record_store.specs.Reading.{HaveFollowed, HaveNotFollowed}
use Rattle.record_store.specs.Steps.{of_write}
use Rattle.record_store.proofs.Saves.{save_answered, save_built_refused, save_follow_refused, save_key_refused, save_limit_refused, save_record_refused}
use Rattle.record_store.proofs.store.Store.put.Goals as goal

pub returns-in_err-value-clause-refused : goal.returns-in_err-value-clause-refused
returns-in_err-value-clause-refused g c =
    exit_with c.from_residual-in_err-value.result c.in_err-value.field-0.0 _ c.from_residual-in_err-value.ensures
    (save_key_refused c.args.self.now c.args.new.now c.requires c.prefix.ensures.lawful c.in_ok-key.ensures.is_tuple c.in_ok-key.key key_is c.definition-definition.result.now c.definition-definition.ensures.definition c.in_err-value.field-0.0 c.in_err-value.ensures.refused)
  where
    key_is : c.in_ok-key.key ≡ record_key c.args.self.now.prefix (primary_key c.args.new.now)
    key_is = c.in_ok-key.ensures.key ∙ ap (λ p. record_key p (primary_key c.args.new.now)) c.prefix.ensures.prefix

pub returns-in_err-found-clause-refused : goal.returns-in_err-found-clause-refused
returns-in_err-found-clause-refused g c =
    exit_with c.from_residual-in_err-found.result c.in_err-found.field-0.0 _ c.from_residual-in_err-found.ensures
    (save_built_refused c.args.self.now c.args.new.now c.requires c.prefix.ensures.lawful c.in_ok-key.ensures.is_tuple c.in_ok-key.key key_is c.definition-definition.result.now c.definition-definition.ensures.definition c.in_ok-value.value c.in_err-found.field-0.0 c.in_ok-value.ensures.read c.in_err-found.ensures.refused)
  where
    key_is : c.in_ok-key.key ≡ record_key c.args.self.now.prefix (primary_key c.args.new.now)
    key_is = c.in_ok-key.ensures.key ∙ ap (λ p. record_key p (primary_key c.args.new.now)) c.prefix.ensures.prefix

pub returns-in_err-old-clause-refused : goal.returns-in_err-old-clause-refused
returns-in_err-old-clause-refused g c =
    exit_with c.from_residual-in_err-old.result c.in_err-old.field-0.0 _ c.from_residual-in_err-old.ensures
    (save_record_refused c.args.self.now c.args.new.now c.requires c.prefix.ensures.lawful c.in_ok-key.ensures.is_tuple c.in_ok-key.key key_is c.definition-definition.result.now c.definition-definition.ensures.definition (map (λ pairs. pairs.items) c.in_ok-found.found.items) c.in_ok-value.value (g.S.Snapshot.may_refuse c.args.db.now) c.in_ok-value.ensures.read c.in_ok-found.ensures.read c.in_err-old.field-0.0 c.in_err-old.ensures.refused)
  where
    key_is : c.in_ok-key.key ≡ record_key c.args.self.now.prefix (primary_key c.args.new.now)
    key_is = c.in_ok-key.ensures.key ∙ ap (λ p. record_key p (primary_key c.args.new.now)) c.prefix.ensures.prefix

pub returns-in_err-mutations-clause-refused : goal.returns-in_err-mutations-clause-refused
returns-in_err-mutations-clause-refused g c =
    exit_with c.from_residual-in_err-mutations.result c.in_err-mutations.field-0.0 _ c.from_residual-in_err-mutations.ensures
    (save_follow_refused c.args.self.now c.args.new.now c.requires c.prefix.ensures.lawful c.in_ok-key.ensures.is_tuple c.in_ok-key.key key_is c.definition-definition.result.now c.definition-definition.ensures.definition (map (λ pairs. pairs.items) c.in_ok-found.found.items) c.in_ok-value.value (g.S.Snapshot.may_refuse c.args.db.now) c.in_ok-value.ensures.read c.in_ok-found.ensures.read c.in_ok-old.old c.in_ok-old.ensures.found c.in_err-mutations.field-0.0
    (subst (λ (fs : List (Vec (Bytes × Bytes) Global)). HaveNotFollowed c.args.self.now c.args.new.now.definition.number (position_in c.args.self.now.prefix c.args.new.now.definition.number c.in_ok-key.key) (map (λ pairs. pairs.items) fs) c.in_err-mutations.field-0.0) c.as_slice-found.ensures.value c.in_err-mutations.ensures.refused))
  where
    key_is : c.in_ok-key.key ≡ record_key c.args.self.now.prefix (primary_key c.args.new.now)
    key_is = c.in_ok-key.ensures.key ∙ ap (λ p. record_key p (primary_key c.args.new.now)) c.prefix.ensures.prefix

pub returns-in_err-write_all-clause-refused : goal.returns-in_err-write_all-clause-refused
returns-in_err-write_all-clause-refused g c =
    exit_with c.from_residual-in_err-write_all.result (of_write c.in_err-write_all.field-0.0) _ c.from_residual-in_err-write_all.ensures
    (save_limit_refused c.args.self.now c.args.new.now c.requires c.prefix.ensures.lawful c.in_ok-key.ensures.is_tuple c.in_ok-key.key key_is c.definition-definition.result.now c.definition-definition.ensures.definition (map (λ pairs. pairs.items) c.in_ok-found.found.items) c.in_ok-value.value (g.S.Snapshot.may_refuse c.args.db.now) c.in_ok-value.ensures.read c.in_ok-found.ensures.read c.in_ok-old.old c.in_ok-old.ensures.found c.in_ok-mutations.mutations.items followed
    c.in_err-write_all.field-0.0 c.in_err-write_all.ensures.kept c.in_err-write_all.ensures.refused)
  where
    key_is : c.in_ok-key.key ≡ record_key c.args.self.now.prefix (primary_key c.args.new.now)
    key_is = c.in_ok-key.ensures.key ∙ ap (λ p. record_key p (primary_key c.args.new.now)) c.prefix.ensures.prefix

    followed : HaveFollowed c.args.self.now c.args.new.now.definition.number (position_in c.args.self.now.prefix c.args.new.now.definition.number c.in_ok-key.key) c.in_ok-old.old (Some c.args.new.now) (map (λ pairs. pairs.items) c.in_ok-found.found.items) c.args.self.now.schema.indexes
        (Set c.in_ok-key.key (record_value c.args.new.now.cells) ∷ []) c.in_ok-mutations.mutations.items
    followed =
        subst (λ (fs : List (Vec (Bytes × Bytes) Global)). HaveFollowed c.args.self.now c.args.new.now.definition.number (position_in c.args.self.now.prefix c.args.new.now.definition.number c.in_ok-key.key) c.in_ok-old.old (Some c.args.new.now) (map (λ pairs. pairs.items) fs) c.args.self.now.schema.indexes
        (Set c.in_ok-key.key (record_value c.args.new.now.cells) ∷ []) c.in_ok-mutations.mutations.items) c.as_slice-found.ensures.value
        (subst (λ o. HaveFollowed c.args.self.now c.args.new.now.definition.number (position_in c.args.self.now.prefix c.args.new.now.definition.number c.in_ok-key.key) o (Some c.args.new.now) (map (λ pairs. pairs.items) c.as_slice-found.result.now) c.args.self.now.schema.indexes
        (Set c.in_ok-key.key (record_value c.args.new.now.cells) ∷ []) c.in_ok-mutations.mutations.items) c.as_ref.ensures.value c.in_ok-mutations.ensures.mutations)

pub returns-clause-saved : goal.returns-clause-saved
returns-clause-saved g c =
    save_answered c.args.self.now c.args.new.now c.requires c.prefix.ensures.lawful c.in_ok-key.ensures.is_tuple c.in_ok-key.key key_is c.definition-definition.result.now c.definition-definition.ensures.definition (map (λ pairs. pairs.items) c.in_ok-found.found.items) c.in_ok-value.value (g.S.Snapshot.may_refuse c.args.db.now) c.in_ok-value.ensures.read c.in_ok-found.ensures.read c.in_ok-old.old c.in_ok-old.ensures.found c.in_ok-mutations.mutations.items followed
    c.definition-definition.ensures.made c.in_ok-mutations.ensures.cells c.in_ok-write_all.ensures.ok c.in_ok-write_all.ensures.allowed
  where
    key_is : c.in_ok-key.key ≡ record_key c.args.self.now.prefix (primary_key c.args.new.now)
    key_is = c.in_ok-key.ensures.key ∙ ap (λ p. record_key p (primary_key c.args.new.now)) c.prefix.ensures.prefix

    followed : HaveFollowed c.args.self.now c.args.new.now.definition.number (position_in c.args.self.now.prefix c.args.new.now.definition.number c.in_ok-key.key) c.in_ok-old.old (Some c.args.new.now) (map (λ pairs. pairs.items) c.in_ok-found.found.items) c.args.self.now.schema.indexes
        (Set c.in_ok-key.key (record_value c.args.new.now.cells) ∷ []) c.in_ok-mutations.mutations.items
    followed =
        subst (λ (fs : List (Vec (Bytes × Bytes) Global)). HaveFollowed c.args.self.now c.args.new.now.definition.number (position_in c.args.self.now.prefix c.args.new.now.definition.number c.in_ok-key.key) c.in_ok-old.old (Some c.args.new.now) (map (λ pairs. pairs.items) fs) c.args.self.now.schema.indexes
        (Set c.in_ok-key.key (record_value c.args.new.now.cells) ∷ []) c.in_ok-mutations.mutations.items) c.as_slice-found.ensures.value
        (subst (λ o. HaveFollowed c.args.self.now c.args.new.now.definition.number (position_in c.args.self.now.prefix c.args.new.now.definition.number c.in_ok-key.key) o (Some c.args.new.now) (map (λ pairs. pairs.items) c.as_slice-found.result.now) c.args.self.now.schema.indexes
        (Set c.in_ok-key.key (record_value c.args.new.now.cells) ∷ []) c.in_ok-mutations.mutations.items) c.as_ref.ensures.value c.in_ok-mutations.ensures.mutations)
