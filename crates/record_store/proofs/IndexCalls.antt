-- What the calls on indexes come to.
use Rattle.std.proofs.Common.{◌≡◌, ℕ, true, List, [], ◌∷◌, refl, sym, ap, subst, ◌∙◌, Option, Some, None, Ok, Err, Result}
use Rattle.kv_core.specs.Map.{Map, after_all}
use Rattle.kv_core.specs.Range.{point}
use Rattle.kv_core.specs.declared.change.Mutation.{Mutation}
use Rattle.kv_core.specs.declared.change.Mutation.TheVariants.{Set, ClearRange}
use Rattle.metadata.specs.declared.index.IndexDefinition.{IndexDefinition}
use Rattle.metadata.specs.declared.index.State.{State}
use Rattle.metadata.specs.declared.refusal.Refusal.{Refusal}
use Rattle.metadata.specs.declared.refusal.Refusal.TheVariants.{UnknownIndex}
use Rattle.metadata.specs.IndexChange.{drop_index, without_index}
use Rattle.metadata.specs.Lawful.{IsLawfulSchema}
use Rattle.metadata.specs.Schema.{Schema, find_index}
use Rattle.metadata.specs.Written.{schema_bytes}
use Rattle.record_store.specs.Store.{Store, dropped, listed_by, altered_at, state_in}
use Rattle.record_store.specs.Layout.{built_range, entries_range, schema_key, state_key}
use Rattle.record_store.specs.Holds.{Holds, has_number}
use Rattle.record_store.specs.Call.{IsOpenAs, Opened, service_of}
use Rattle.record_store.specs.Calls.{drop_footprint, opened_with}
use Rattle.record_store.specs.Meaning.{drop_meaning, index_number}
use Rattle.record_store.specs.IndexWrites.{drop_writes}
use Rattle.record_store.proofs.Aggregates.{found_contained}
use Rattle.record_store.proofs.Answered.{IsServed}
use Rattle.record_store.proofs.IndexChanges.{dropped_holds}
use Rattle.record_store.proofs.Listed.{contained_number}

-- ---- names

-- an index that is found by its name is there
pub named_there : (schema : Schema) (name : List ℕ) (number : ℕ) → index_number (find_index schema name) ≡ Ok number → has_number schema.indexes number ≡ true
named_there schema name number is = by_found (find_index schema name) refl is
  where
    by_found : (o : Option IndexDefinition) → find_index schema name ≡ o → index_number o ≡ Ok number → has_number schema.indexes number ≡ true
    by_found None none found = cc
    by_found (Some index) some found =
        let same : index.number ≡ number = cc in
        subst (λ n. has_number schema.indexes n ≡ true) same (contained_number schema.indexes index (found_contained name schema.indexes index some))

-- it is the one that is dropped
pub drops : (schema : Schema) (name : List ℕ) (number : ℕ) → index_number (find_index schema name) ≡ Ok number → drop_index schema name ≡ Ok (without_index schema number)
drops schema name number is = by_found (find_index schema name) is
  where
    by_found : (o : Option IndexDefinition) → index_number o ≡ Ok number → ◌≡◌ {A = Result Schema Refusal} (elim o [ Some index ↦ Ok (without_index schema index.number) | None ↦ Err UnknownIndex ]) (Ok (without_index schema number))
    by_found None none = absurd (cc)
    by_found (Some index) found = let same : index.number ≡ number = cc in ap (λ n. Ok (without_index schema n)) same

-- ---- calls

-- the opened store that is left
pub opened_so : (opened : Opened) (prefix : List ℕ) (left schema : Schema) (states : List (ℕ × State)) (number : ℕ) (state : State) → prefix ≡ opened.prefix → left ≡ schema → states ≡ listed_by schema.indexes (altered_at number state (state_in opened.states)) →
    ◌≡◌ {A = Opened} (record { prefix = prefix; schema = left; states = states }) (opened_with opened schema number state)
opened_so opened prefix left schema states number state prefixes schemas listed_now = λ i. record { prefix = prefixes i; schema = schemas i; states = listed_now i }

-- a name has one number
pub one_number : (number other : ℕ) (found : Result ℕ Refusal) → found ≡ Ok number → found ≡ Ok other → number ≡ other
one_number number other found is again = let both : ◌≡◌ {A = Result ℕ Refusal} (Ok number) (Ok other) = sym is ∙ again in cc

-- DROP: the index is gone
pub drop_served : (opened : Opened) (number : ℕ) (next : Schema) (list : List Mutation) → list ≡ Set (schema_key opened.prefix) (schema_bytes next) ∷ ClearRange (entries_range opened.prefix number) ∷ ClearRange (built_range opened.prefix number) ∷ ClearRange (point (state_key opened.prefix number)) ∷ [] →
    next ≡ without_index opened.schema number → has_number opened.schema.indexes number ≡ true → IsLawfulSchema next →
    (m : Map) (store : Store) → Holds opened.prefix m (Some store) → IsOpenAs opened store → IsServed opened (service_of drop_meaning (drop_footprint opened) number) next list m store
drop_served opened number next list wrote is there lawful m store holds same =
    let left : next ≡ without_index store.schema number = is ∙ ap (λ s. without_index s number) (sym same.schema) in
    let writes : list ≡ drop_writes opened.prefix store number =
    wrote ∙ ap (λ s. Set (schema_key opened.prefix) (schema_bytes s) ∷ ClearRange (entries_range opened.prefix number) ∷ ClearRange (built_range opened.prefix number) ∷ ClearRange (point (state_key opened.prefix number)) ∷ []) left in record {
      answers = ap Ok (sym left);
      wrote = writes;
      holds =
          subst (λ ms. Holds opened.prefix (after_all ms m) (Some (dropped store number))) (sym writes)
          (dropped_holds opened.prefix m store number (ap (λ (s : Schema). has_number s.indexes number) same.schema ∙ there) holds (subst IsLawfulSchema left lawful));
    }

pub drop_wrote : (opened : Opened) (number : ℕ) (next : Schema) (list : List Mutation) → list ≡ Set (schema_key opened.prefix) (schema_bytes next) ∷ ClearRange (entries_range opened.prefix number) ∷ ClearRange (built_range opened.prefix number) ∷ ClearRange (point (state_key opened.prefix number)) ∷ [] →
    next ≡ without_index opened.schema number → (store : Store) → IsOpenAs opened store → list ≡ drop_writes opened.prefix store number
drop_wrote opened number next list wrote is store same =
    wrote
    ∙ ap (λ s. Set (schema_key opened.prefix) (schema_bytes s) ∷ ClearRange (entries_range opened.prefix number) ∷ ClearRange (built_range opened.prefix number) ∷ ClearRange (point (state_key opened.prefix number)) ∷ [])
    (is ∙ ap (λ s. without_index s number) (sym same.schema))
