-- What adding an index comes to at a store that is there.
use Rattle.std.proofs.Common.{◌≡◌, ◌⊎◌, ◌==◌, ℕ, List, [], ◌∷◌, refl, sym, ap, subst, ◌∙◌, length, Option, Some, None, Ok, Err, Result}
use Rattle.std.specs.Prelude.{IsNone}
use Rattle.std.specs.List.{AllByRecursion}
use Rattle.kv_core.specs.Range.{KeyRange}
use Rattle.kv_core.specs.Map.{Map, after_all}
use Rattle.kv_core.specs.Limits.{write_all_refusal}
use Rattle.kv_core.specs.declared.change.CommitRequest.{CommitRequest}
use Rattle.kv_core.specs.declared.change.Mutation.{Mutation}
use Rattle.kv_core.specs.declared.change.Mutation.TheVariants.{Set}
use Rattle.kv_core.specs.declared.change.WriteError.{WriteError}
use Rattle.kv_core.specs.declared.change.WriteError.TheVariants as write
use Rattle.kv_core.specs.declared.snapshot.ReadError.{ReadError}
use Rattle.txn.specs.Reads.{with_mutations}
use Rattle.metadata.specs.declared.definition.TypeDefinition.{TypeDefinition}
use Rattle.metadata.specs.declared.index.IndexDefinition.{IndexDefinition}
use Rattle.metadata.specs.declared.index.State.{State}
use Rattle.metadata.specs.declared.index.IndexRequest.{IndexRequest}
use Rattle.metadata.specs.declared.refusal.Refusal.{Refusal}
use Rattle.metadata.specs.declared.refusal.Refusal.TheVariants.{UnknownType}
use Rattle.metadata.specs.IndexChange.{add_index, index_asked, index_over, name_refusal, new_index, over_refusal, with_index}
use Rattle.metadata.specs.Lawful.{IsLawfulSchema}
use Rattle.metadata.specs.Records.{of_type}
use Rattle.metadata.specs.Schema.{Schema, find_type}
use Rattle.metadata.specs.Written.{schema_bytes}
use Rattle.record_store.specs.Store.{Store, indexed, listed_by, new_state, altered_at, state_in}
use Rattle.record_store.specs.declared.error.StoreError.{StoreError}
use Rattle.record_store.specs.declared.error.StoreError.TheVariants.{Memory}
use Rattle.record_store.specs.Layout.{schema_key, type_range}
use Rattle.record_store.specs.Holds.{Holds}
use Rattle.record_store.specs.Call.{AtStore, IsAnswered, IsOpenAs, IsRefused, Opened, first_of, service_of}
use Rattle.record_store.specs.Form.{IsWritten}
use Rattle.txn.proofs.Running.{ran_because}
use Rattle.record_store.specs.Calls.{IsIndexedAs, index_call, index_footprint}
use Rattle.record_store.specs.Meaning.{index_meaning}
use Rattle.record_store.specs.Reading.{HasNotFound, HasRead}
use Rattle.record_store.specs.Steps.{DidRead, of_write}
use Rattle.record_store.specs.IndexWrites.{index_added_writes, state_writes}
use Rattle.record_store.proofs.IndexCalls.{opened_so}
use Rattle.record_store.proofs.Answered.{IsServed, answered, done_with, refused_limit, refused_memory, refused_unread}
use Rattle.record_store.proofs.NewIndexes.{indexed_holds}
use Rattle.record_store.proofs.RecordCalls.{filled}

-- ---- the schema with the index

pub added_is : (schema next : Schema) (request : IndexRequest) (index : IndexDefinition) → add_index schema request ≡ Ok next → new_index schema request ≡ Ok index → next ≡ with_index schema index
added_is schema next request index added is =
    let both : ◌≡◌ {A = Result Schema Refusal} (Ok next) (Ok (with_index schema index)) = sym added ∙ ap (λ (o : Result IndexDefinition Refusal). elim o [ Ok one ↦ Ok (with_index schema one) | Err refusal ↦ Err refusal ]) is in cc

-- the type of the index is found by the name that was asked for
over_type : (schema : Schema) (request : IndexRequest) (index : IndexDefinition) → new_index schema request ≡ Ok index → index_over schema request (find_type schema request.type_name) ≡ Ok index
over_type schema request index is = by_name (name_refusal schema request) is
  where
    by_name : (o : Option Refusal) → ◌≡◌ {A = Result IndexDefinition Refusal} (elim o [ None ↦ index_over schema request (find_type schema request.type_name) | Some refusal ↦ Err refusal ]) (Ok index) →
        index_over schema request (find_type schema request.type_name) ≡ Ok index
    by_name None over = over
    by_name (Some refusal) over = absurd (cc)

pub type_there : (schema : Schema) (request : IndexRequest) (index : IndexDefinition) → new_index schema request ≡ Ok index → find_type schema request.type_name ≡ None → ⊥
type_there schema request index is none =
    let no : ◌≡◌ {A = Result IndexDefinition Refusal} (Err UnknownType) (Ok index) = ap (index_over schema request) (sym none) ∙ over_type schema request index is in cc

pub type_number_is : (schema : Schema) (request : IndexRequest) (index : IndexDefinition) (type : TypeDefinition) → new_index schema request ≡ Ok index → find_type schema request.type_name ≡ Some type → index.type_number ≡ type.number
type_number_is schema request index type is found =
    by_refusal (over_refusal schema type request) (ap (index_over schema request) (sym found) ∙ over_type schema request index is)
  where
    by_refusal : (o : Option Refusal) → ◌≡◌ {A = Result IndexDefinition Refusal} (elim o [ None ↦ Ok (index_asked schema type request) | Some refusal ↦ Err refusal ]) (Ok index) → index.type_number ≡ type.number
    by_refusal None made = let same : index_asked schema type request ≡ index = cc in ap (λ (i : IndexDefinition). i.type_number) (sym same)
    by_refusal (Some refusal) made = absurd (cc)

-- ---- the call

pub index_wrote : (opened : Opened) (index : IndexDefinition) (state : State) (list : List Mutation) → list ≡ Set (schema_key opened.prefix) (schema_bytes (with_index opened.schema index)) ∷ state_writes opened.prefix index.number state →
    (store : Store) → IsOpenAs opened store → state ≡ new_state (of_type index.type_number store.records) → list ≡ index_added_writes opened.prefix store index
index_wrote opened index state list wrote store same is =
    wrote
    ∙ (λ i. Set (schema_key opened.prefix) (schema_bytes (with_index (sym same.schema i) index)) ∷ state_writes opened.prefix index.number (is i))

-- INDEX: the index is there, with its state
pub index_served : (opened : Opened) (index : IndexDefinition) (state : State) (list : List Mutation) → list ≡ Set (schema_key opened.prefix) (schema_bytes (with_index opened.schema index)) ∷ state_writes opened.prefix index.number state →
    IsLawfulSchema (with_index opened.schema index) → (m : Map) (store : Store) → Holds opened.prefix m (Some store) → IsOpenAs opened store → state ≡ new_state (of_type index.type_number store.records) →
    IsServed opened (service_of index_meaning (index_footprint opened) index) state list m store
index_served opened index state list wrote made m store holds same is =
    let writes = index_wrote opened index state list wrote store same is in record {
      answers = ap Ok (sym is);
      wrote = writes;
      holds =
          subst (λ ms. Holds opened.prefix (after_all ms m) (Some (indexed store index))) (sym writes)
          (indexed_holds opened.prefix m store index (subst (λ s. IsLawfulSchema (with_index s index)) (sym same.schema) made) holds);
    }

module _ (maps : ℕ → Map) (refuses : KeyRange → ℕ → ReadError → Type 0) (opened : Opened) (request : IndexRequest) (index : IndexDefinition) (type : TypeDefinition)
    (made : new_index opened.schema request ≡ Ok index) (found : find_type opened.schema request.type_name ≡ Some type) where
  same_number : type.number ≡ index.type_number
  same_number = sym (type_number_is opened.schema request index type made found)

  accepted : index_call opened request ≡ Ok (service_of index_meaning (index_footprint opened) index)
  accepted = ap (done_with index_meaning (index_footprint opened)) made

  -- UNREAD: the first record wasn't read
  pub index_unread : {old new : CommitRequest} (error : StoreError) →
      HasNotFound maps refuses opened (first_of (type_range opened.prefix type.number)) error old new →
      IsRefused maps refuses opened (index_call opened request) error old new
  index_unread {old = old} {new = new} error unread =
      refused_unread maps refuses opened (index_call opened request) (service_of index_meaning (index_footprint opened) index) error accepted
      (subst (λ (n : ℕ). HasNotFound maps refuses opened (first_of (type_range opened.prefix n)) error old new) same_number unread)

  module _ {old mid : CommitRequest} (state : State) (first : HasRead maps opened type.number state old mid) where
    own : HasRead maps opened index.type_number state old mid
    own = subst (λ (n : ℕ). HasRead maps opened n state old mid) same_number first

    read : DidRead maps (own.added ∷ []) old mid (λ m. (own.added ∷ [] ≡ (index_footprint opened index).reading.added m)
        × (AllByRecursion (IsWritten opened.prefix opened.schema) ((index_footprint opened index).reading.pairs m) × AtStore opened m (λ store. state ≡ new_state (of_type index.type_number store.records))))
    read = ran_because own.ran (λ m found. (ap (λ range. range ∷ []) found.0, (found.1, found.2)))

    -- MEMORY: it was wanting after the read
    pub index_memory : IsRefused maps refuses opened (index_call opened request) Memory old mid
    index_memory = refused_memory maps refuses opened (index_call opened request) (service_of index_meaning (index_footprint opened) index) accepted read

    module _ (next : Schema) (list : List Mutation) (added : add_index opened.schema request ≡ Ok next) (wrote : list ≡ Set (schema_key opened.prefix) (schema_bytes next) ∷ state_writes opened.prefix index.number state) where
      next_is : next ≡ with_index opened.schema index
      next_is = added_is opened.schema next request index added made

      list_is : list ≡ Set (schema_key opened.prefix) (schema_bytes (with_index opened.schema index)) ∷ state_writes opened.prefix index.number state
      list_is = wrote ∙ ap (λ s. Set (schema_key opened.prefix) (schema_bytes s) ∷ state_writes opened.prefix index.number state) next_is

      -- LIMIT: what is to be written was refused
      pub index_limited : {new : CommitRequest} (error : WriteError) → new ≡ mid → (error ≡ write.Memory) ⊎ (write_all_refusal mid.mutations list ≡ Some error) → IsRefused maps refuses opened (index_call opened request) (of_write error) old new
      index_limited error same says =
          refused_limit maps refuses opened (index_call opened request) (service_of index_meaning (index_footprint opened) index) list error accepted read
          (λ m store holds schema is. (record { answer = _; is = refl }, index_wrote opened index state list list_is store schema is)) same says

      -- ANSWERED: the index is there
      pub index_answered : {new : CommitRequest} → IsLawfulSchema next → new ≡ with_mutations list mid → IsNone (write_all_refusal mid.mutations list) → IsAnswered maps opened (index_call opened request) state old new
      index_answered lawful is allowed =
          answered maps refuses opened (index_call opened request) (service_of index_meaning (index_footprint opened) index) state list accepted
          (ap (λ ms. length ms == 0) list_is ∙ filled (Set (schema_key opened.prefix) (schema_bytes (with_index opened.schema index))) (state_writes opened.prefix index.number state)) read is allowed
          (λ m store holds schema found. index_served opened index state list list_is (subst IsLawfulSchema next_is lawful) m store holds schema found)

-- OPENED: the store has the index in its schema, and its state
pub indexed_as : (opened : Opened) (request : IndexRequest) (index : IndexDefinition) (state : State) (prefix : List ℕ) (schema : Schema) (states : List (ℕ × State)) → new_index opened.schema request ≡ Ok index → add_index opened.schema request ≡ Ok schema →
    prefix ≡ opened.prefix → states ≡ listed_by schema.indexes (altered_at index.number state (state_in opened.states)) → IsIndexedAs opened (record { prefix = prefix; schema = schema; states = states }) request state
indexed_as opened request index state prefix schema states made added prefixes listed_now =
    let grown = added_is opened.schema schema request index added made in record {
      index = index;
      accepted = made;
      is = opened_so opened prefix schema (with_index opened.schema index) states index.number state prefixes grown (listed_now ∙ ap (λ (s : Schema). listed_by s.indexes (altered_at index.number state (state_in opened.states))) grown);
    }
