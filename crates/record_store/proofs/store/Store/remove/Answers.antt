use Rattle.std.proofs.Common.{◌≡◌, ◌∙◌, ℕ, List, [], ◌∷◌, Option, Some, None, Vec, Global, ap, map, refl, subst, sym}
use Rattle.std.specs.FinMap.{get}
use Rattle.kv_core.specs.Range.{point}
use Rattle.kv_core.specs.declared.bytes.Bytes.{Bytes}
use Rattle.kv_core.specs.declared.change.Mutation.TheVariants.{ClearRange}
use Rattle.metadata.specs.Answers.{IsRefusedAs}
use Rattle.metadata.specs.Record.{key_items, key_of}
use Rattle.txn.proofs.Exits.{exit_with}
use Rattle.record_store.specs.BuiltReading.{position_in}
use Rattle.record_store.specs.Calls.{remove_footprint}
use Rattle.record_store.specs.Meaning.{remove_meaning}
use Rattle.record_store.specs.Layout.{record_key}
use Rattle.record_store.specs.Reading.{HaveFollowed, HaveNotFollowed}
use Rattle.record_store.specs.Steps.{DidRead, of_metadata, of_write}
use Rattle.record_store.proofs.Answered.{key_in_type, refused_own}
use Rattle.record_store.proofs.Removes.{remove_absent, remove_answered, remove_built_refused, remove_follow_refused, remove_key_refused, remove_limit_refused, remove_record_refused}
use Rattle.record_store.proofs.store.Store.remove.Goals as goal

pub returns-in_err-at-clause-refused : goal.returns-in_err-at-clause-refused
returns-in_err-at-clause-refused g c =
    exit_with c.from_residual-in_err-at.result (of_metadata c.in_err-at.field-0.0) _ c.from_residual-in_err-at.ensures
    (refused_own (g.S.Snapshot.map_at c.args.db.now) (g.S.Snapshot.may_refuse c.args.db.now) c.args.self.now remove_meaning (remove_footprint c.args.self.now) (key_of c.args.self.now.schema c.args.type_name.now c.args.key.now) c.in_err-at.field-0.0
    (subst (IsRefusedAs c.in_err-at.field-0.0) (sym (key_in_type c.args.self.now.schema c.args.type_name.now c.args.key.now c.in_ok-definition.definition.now c.in_ok-definition.ensures.found)) c.in_err-at.ensures.refused) refl)

pub returns-in_err-value-clause-refused : goal.returns-in_err-value-clause-refused
returns-in_err-value-clause-refused g c =
    exit_with c.from_residual-in_err-value.result c.in_err-value.field-0.0 _ c.from_residual-in_err-value.ensures
    (remove_key_refused c.args.self.now c.args.type_name.now c.args.key.now c.in_ok-definition.definition.now c.prefix.ensures.lawful c.in_ok-definition.ensures.found c.in_ok-definition.ensures.own c.in_ok-at.ensures.made c.in_ok-at.ensures.is_tuple c.in_ok-at.at at_is c.in_err-value.field-0.0 c.in_err-value.ensures.refused)
  where
    at_is : c.in_ok-at.at ≡ record_key c.args.self.now.prefix (key_items c.in_ok-definition.definition.now.number c.args.key.now)
    at_is = c.in_ok-at.ensures.key ∙ ap (λ p. record_key p (key_items c.in_ok-definition.definition.now.number c.args.key.now)) c.prefix.ensures.prefix

pub returns-in_default-clause-removed : goal.returns-in_default-clause-removed
returns-in_default-clause-removed g c =
    remove_absent c.args.self.now c.args.type_name.now c.args.key.now c.in_ok-definition.definition.now c.prefix.ensures.lawful c.in_ok-definition.ensures.found c.in_ok-definition.ensures.own c.in_ok-at.ensures.made c.in_ok-at.ensures.is_tuple c.in_ok-at.at at_is
    (subst (λ o. DidRead (g.S.Snapshot.map_at c.args.db.now) (point c.in_ok-at.at ∷ []) c.args.tx.now c.read_value.new.tx (λ m. o ≡ get m c.in_ok-at.at))
    (none_of c.in_ok-value.field-0 c.in_default.not-Some) c.in_ok-value.ensures.read)
  where
    at_is : c.in_ok-at.at ≡ record_key c.args.self.now.prefix (key_items c.in_ok-definition.definition.now.number c.args.key.now)
    at_is = c.in_ok-at.ensures.key ∙ ap (λ p. record_key p (key_items c.in_ok-definition.definition.now.number c.args.key.now)) c.prefix.ensures.prefix

    none_of : (o : Option (List ℕ)) → ((value : List ℕ) → o ≡ Some value → ⊥) → o ≡ None
    none_of None none = refl
    none_of (Some value) none = absurd (none value refl)

pub returns-in_err-found-clause-refused : goal.returns-in_err-found-clause-refused
returns-in_err-found-clause-refused g c =
    exit_with c.from_residual-in_err-found.result c.in_err-found.field-0.0 _ c.from_residual-in_err-found.ensures
    (remove_built_refused c.args.self.now c.args.type_name.now c.args.key.now c.in_ok-definition.definition.now c.prefix.ensures.lawful c.in_ok-definition.ensures.found c.in_ok-definition.ensures.own c.in_ok-at.ensures.made c.in_ok-at.ensures.is_tuple c.in_ok-at.at at_is c.in-Some.value (g.S.Snapshot.may_refuse c.args.db.now) read c.in_err-found.field-0.0 c.in_err-found.ensures.refused)
  where
    at_is : c.in_ok-at.at ≡ record_key c.args.self.now.prefix (key_items c.in_ok-definition.definition.now.number c.args.key.now)
    at_is = c.in_ok-at.ensures.key ∙ ap (λ p. record_key p (key_items c.in_ok-definition.definition.now.number c.args.key.now)) c.prefix.ensures.prefix

    read : DidRead (g.S.Snapshot.map_at c.args.db.now) (point c.in_ok-at.at ∷ []) c.args.tx.now c.read_value.new.tx (λ m. Some c.in-Some.value ≡ get m c.in_ok-at.at)
    read = subst (λ o. DidRead (g.S.Snapshot.map_at c.args.db.now) (point c.in_ok-at.at ∷ []) c.args.tx.now c.read_value.new.tx (λ m. o ≡ get m c.in_ok-at.at)) c.in-Some.is c.in_ok-value.ensures.read

pub returns-in_err-old-clause-refused : goal.returns-in_err-old-clause-refused
returns-in_err-old-clause-refused g c =
    exit_with c.from_residual-in_err-old.result c.in_err-old.field-0.0 _ c.from_residual-in_err-old.ensures
    (remove_record_refused c.args.self.now c.args.type_name.now c.args.key.now c.in_ok-definition.definition.now c.prefix.ensures.lawful c.in_ok-definition.ensures.found c.in_ok-definition.ensures.own c.in_ok-at.ensures.made c.in_ok-at.ensures.is_tuple c.in_ok-at.at at_is c.in-Some.value (g.S.Snapshot.may_refuse c.args.db.now) read (map (λ pairs. pairs.items) c.in_ok-found.found.items) c.in_ok-found.ensures.read c.in_err-old.field-0.0 c.in_err-old.ensures.refused)
  where
    at_is : c.in_ok-at.at ≡ record_key c.args.self.now.prefix (key_items c.in_ok-definition.definition.now.number c.args.key.now)
    at_is = c.in_ok-at.ensures.key ∙ ap (λ p. record_key p (key_items c.in_ok-definition.definition.now.number c.args.key.now)) c.prefix.ensures.prefix

    read : DidRead (g.S.Snapshot.map_at c.args.db.now) (point c.in_ok-at.at ∷ []) c.args.tx.now c.read_value.new.tx (λ m. Some c.in-Some.value ≡ get m c.in_ok-at.at)
    read = subst (λ o. DidRead (g.S.Snapshot.map_at c.args.db.now) (point c.in_ok-at.at ∷ []) c.args.tx.now c.read_value.new.tx (λ m. o ≡ get m c.in_ok-at.at)) c.in-Some.is c.in_ok-value.ensures.read

pub returns-in_err-mutations-clause-refused : goal.returns-in_err-mutations-clause-refused
returns-in_err-mutations-clause-refused g c =
    exit_with c.from_residual-in_err-mutations.result c.in_err-mutations.field-0.0 _ c.from_residual-in_err-mutations.ensures
    (remove_follow_refused c.args.self.now c.args.type_name.now c.args.key.now c.in_ok-definition.definition.now c.prefix.ensures.lawful c.in_ok-definition.ensures.found c.in_ok-definition.ensures.own c.in_ok-at.ensures.made c.in_ok-at.ensures.is_tuple c.in_ok-at.at at_is c.in-Some.value (g.S.Snapshot.may_refuse c.args.db.now) read (map (λ pairs. pairs.items) c.in_ok-found.found.items) c.in_ok-found.ensures.read c.in_ok-old.old c.in_ok-old.ensures.found c.in_err-mutations.field-0.0
    (subst (λ (fs : List (Vec (Bytes × Bytes) Global)). HaveNotFollowed c.args.self.now c.in_ok-definition.definition.now.number (position_in c.args.self.now.prefix c.in_ok-definition.definition.now.number c.in_ok-at.at) (map (λ pairs. pairs.items) fs) c.in_err-mutations.field-0.0) c.as_slice-found.ensures.value c.in_err-mutations.ensures.refused))
  where
    at_is : c.in_ok-at.at ≡ record_key c.args.self.now.prefix (key_items c.in_ok-definition.definition.now.number c.args.key.now)
    at_is = c.in_ok-at.ensures.key ∙ ap (λ p. record_key p (key_items c.in_ok-definition.definition.now.number c.args.key.now)) c.prefix.ensures.prefix

    read : DidRead (g.S.Snapshot.map_at c.args.db.now) (point c.in_ok-at.at ∷ []) c.args.tx.now c.read_value.new.tx (λ m. Some c.in-Some.value ≡ get m c.in_ok-at.at)
    read = subst (λ o. DidRead (g.S.Snapshot.map_at c.args.db.now) (point c.in_ok-at.at ∷ []) c.args.tx.now c.read_value.new.tx (λ m. o ≡ get m c.in_ok-at.at)) c.in-Some.is c.in_ok-value.ensures.read

pub returns-in_err-write_all-clause-refused : goal.returns-in_err-write_all-clause-refused
returns-in_err-write_all-clause-refused g c =
    exit_with c.from_residual-in_err-write_all.result (of_write c.in_err-write_all.field-0.0) _ c.from_residual-in_err-write_all.ensures
    (remove_limit_refused c.args.self.now c.args.type_name.now c.args.key.now c.in_ok-definition.definition.now c.prefix.ensures.lawful c.in_ok-definition.ensures.found c.in_ok-definition.ensures.own c.in_ok-at.ensures.made c.in_ok-at.ensures.is_tuple c.in_ok-at.at at_is c.in-Some.value (g.S.Snapshot.may_refuse c.args.db.now) read (map (λ pairs. pairs.items) c.in_ok-found.found.items) c.in_ok-found.ensures.read c.in_ok-old.old c.in_ok-old.ensures.found c.in_ok-mutations.mutations.items followed
    c.in_err-write_all.field-0.0 c.in_err-write_all.ensures.kept c.in_err-write_all.ensures.refused)
  where
    at_is : c.in_ok-at.at ≡ record_key c.args.self.now.prefix (key_items c.in_ok-definition.definition.now.number c.args.key.now)
    at_is = c.in_ok-at.ensures.key ∙ ap (λ p. record_key p (key_items c.in_ok-definition.definition.now.number c.args.key.now)) c.prefix.ensures.prefix

    read : DidRead (g.S.Snapshot.map_at c.args.db.now) (point c.in_ok-at.at ∷ []) c.args.tx.now c.read_value.new.tx (λ m. Some c.in-Some.value ≡ get m c.in_ok-at.at)
    read = subst (λ o. DidRead (g.S.Snapshot.map_at c.args.db.now) (point c.in_ok-at.at ∷ []) c.args.tx.now c.read_value.new.tx (λ m. o ≡ get m c.in_ok-at.at)) c.in-Some.is c.in_ok-value.ensures.read

    followed : HaveFollowed c.args.self.now c.in_ok-definition.definition.now.number (position_in c.args.self.now.prefix c.in_ok-definition.definition.now.number c.in_ok-at.at) (Some c.in_ok-old.old) None (map (λ pairs. pairs.items) c.in_ok-found.found.items) c.args.self.now.schema.indexes
        (ClearRange (point c.in_ok-at.at) ∷ []) c.in_ok-mutations.mutations.items
    followed =
        subst (λ (fs : List (Vec (Bytes × Bytes) Global)). HaveFollowed c.args.self.now c.in_ok-definition.definition.now.number (position_in c.args.self.now.prefix c.in_ok-definition.definition.now.number c.in_ok-at.at) (Some c.in_ok-old.old) None (map (λ pairs. pairs.items) fs) c.args.self.now.schema.indexes
        (ClearRange (point c.in_ok-at.at) ∷ []) c.in_ok-mutations.mutations.items) c.as_slice-found.ensures.value c.in_ok-mutations.ensures.mutations

pub returns-clause-removed : goal.returns-clause-removed
returns-clause-removed g c =
    remove_answered c.args.self.now c.args.type_name.now c.args.key.now c.in_ok-definition.definition.now c.prefix.ensures.lawful c.in_ok-definition.ensures.found c.in_ok-definition.ensures.own c.in_ok-at.ensures.made c.in_ok-at.ensures.is_tuple c.in_ok-at.at at_is c.in-Some.value (g.S.Snapshot.may_refuse c.args.db.now) read (map (λ pairs. pairs.items) c.in_ok-found.found.items) c.in_ok-found.ensures.read c.in_ok-old.old c.in_ok-old.ensures.found c.in_ok-mutations.mutations.items followed
    c.in_ok-write_all.ensures.ok c.in_ok-write_all.ensures.allowed
  where
    at_is : c.in_ok-at.at ≡ record_key c.args.self.now.prefix (key_items c.in_ok-definition.definition.now.number c.args.key.now)
    at_is = c.in_ok-at.ensures.key ∙ ap (λ p. record_key p (key_items c.in_ok-definition.definition.now.number c.args.key.now)) c.prefix.ensures.prefix

    read : DidRead (g.S.Snapshot.map_at c.args.db.now) (point c.in_ok-at.at ∷ []) c.args.tx.now c.read_value.new.tx (λ m. Some c.in-Some.value ≡ get m c.in_ok-at.at)
    read = subst (λ o. DidRead (g.S.Snapshot.map_at c.args.db.now) (point c.in_ok-at.at ∷ []) c.args.tx.now c.read_value.new.tx (λ m. o ≡ get m c.in_ok-at.at)) c.in-Some.is c.in_ok-value.ensures.read

    followed : HaveFollowed c.args.self.now c.in_ok-definition.definition.now.number (position_in c.args.self.now.prefix c.in_ok-definition.definition.now.number c.in_ok-at.at) (Some c.in_ok-old.old) None (map (λ pairs. pairs.items) c.in_ok-found.found.items) c.args.self.now.schema.indexes
        (ClearRange (point c.in_ok-at.at) ∷ []) c.in_ok-mutations.mutations.items
    followed =
        subst (λ (fs : List (Vec (Bytes × Bytes) Global)). HaveFollowed c.args.self.now c.in_ok-definition.definition.now.number (position_in c.args.self.now.prefix c.in_ok-definition.definition.now.number c.in_ok-at.at) (Some c.in_ok-old.old) None (map (λ pairs. pairs.items) fs) c.args.self.now.schema.indexes
        (ClearRange (point c.in_ok-at.at) ∷ []) c.in_ok-mutations.mutations.items) c.as_slice-found.ensures.value c.in_ok-mutations.ensures.mutations
