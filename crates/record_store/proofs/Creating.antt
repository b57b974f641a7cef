-- What making a store comes to.
use Rattle.std.proofs.Common.{◌≡◌, ◌⊎◌, inl, inr, ℕ, List, [], ◌∷◌, refl, sym, ap, subst, ◌∙◌, Option, Some, None, append-nil}
use Rattle.std.specs.Prelude.{IsNone}
use Rattle.std.specs.FinMap.{get}
use Rattle.kv_core.specs.Range.{KeyRange, point}
use Rattle.kv_core.specs.Map.{Map, after_all}
use Rattle.kv_core.specs.Limits.{write_all_refusal}
use Rattle.kv_core.specs.declared.change.CommitRequest.{CommitRequest}
use Rattle.kv_core.specs.declared.change.Mutation.{Mutation}
use Rattle.kv_core.specs.declared.change.WriteError.{WriteError}
use Rattle.kv_core.specs.declared.change.WriteError.TheVariants as write
use Rattle.kv_core.specs.declared.snapshot.ReadError.{ReadError}
use Rattle.txn.specs.Reads.{with_mutations}
use Rattle.txn.proofs.Running.{ran_because, ran_then, ran_write}
use Rattle.metadata.specs.Lawful.{IsLawfulSchema}
use Rattle.metadata.specs.Schema.{Schema}
use Rattle.record_store.specs.declared.error.StoreError.{StoreError}
use Rattle.record_store.specs.declared.error.StoreError.TheVariants.{Memory, Read, Write, Corrupt, Refused, NoStore, AlreadyThere, OtherSchema, NotAggregate, NotReadable, WrongState, NotBuilt}
use Rattle.record_store.specs.Store.{Serial, created}
use Rattle.record_store.specs.Layout.{schema_key, states_range}
use Rattle.record_store.specs.Holds.{Holds}
use Rattle.record_store.specs.Call.{Opened}
use Rattle.record_store.specs.Calls.{schema_writes}
use Rattle.record_store.specs.Opening.{AtSerials, IsCreateFailure, IsCreated, IsUncreated, opening_reach}
use Rattle.record_store.specs.Reading.{HasNotRead, IsReadError, IsThere}
use Rattle.record_store.specs.Steps.{DidRead, of_write}
use Rattle.record_store.proofs.Changed.{created_holds}
use Rattle.record_store.proofs.Held.{no_schema_held}
use Rattle.record_store.proofs.Openings.{both_read, nothing_there}
use Rattle.record_store.proofs.Stopping.{all_begin}

-- nothing refuses
pub is_none : {X : Type 0} (o : Option X) → IsNone o → o ≡ None
is_none None none = refl
is_none (Some x) none = absurd (cc)

-- what is so of want of memory and of each limit is so of a refused write
pub of_limit : {Met : WriteError → Type 0} (So : StoreError → Type 0) (error : WriteError) → (error ≡ write.Memory) ⊎ Met error → So Memory → ((e : WriteError) → Met e → So (Write e)) → So (of_write error)
of_limit So write.Memory says memory limit = memory
of_limit So write.KeyOutside (inl wanting) memory limit = absurd (cc)
of_limit So write.KeyOutside (inr met) memory limit = limit write.KeyOutside met
of_limit So write.KeyTooLarge (inl wanting) memory limit = absurd (cc)
of_limit So write.KeyTooLarge (inr met) memory limit = limit write.KeyTooLarge met
of_limit So write.ValueTooLarge (inl wanting) memory limit = absurd (cc)
of_limit So write.ValueTooLarge (inr met) memory limit = limit write.ValueTooLarge met
of_limit So write.TransactionTooLarge (inl wanting) memory limit = absurd (cc)
of_limit So write.TransactionTooLarge (inr met) memory limit = limit write.TransactionTooLarge met

module _ (prefix : List ℕ) (schema : Schema) where
  abbrev made : Opened
  made = record { prefix = prefix; schema = schema; states = [] }

  create_error : (refuses : KeyRange → ReadError → Type 0) (added : List KeyRange) (error : StoreError) (before : List Mutation) (m : Map) → IsReadError refuses (opening_reach prefix) added error → IsCreateFailure refuses made error before added m
  create_error refuses added Memory before m says = says
  create_error refuses added (Read error) before m says = says
  create_error refuses added (Write error) before m says = absurd says
  create_error refuses added (Corrupt key) before m says = absurd says
  create_error refuses added (Refused refusal) before m says = absurd says
  create_error refuses added NoStore before m says = absurd says
  create_error refuses added AlreadyThere before m says = absurd says
  create_error refuses added OtherSchema before m says = absurd says
  create_error refuses added NotAggregate before m says = absurd says
  create_error refuses added NotReadable before m says = absurd says
  create_error refuses added WrongState before m says = absurd says
  create_error refuses added NotBuilt before m says = absurd says

  -- READS: one came to an error
  pub uncreated : {maps : ℕ → Map} {refuses : KeyRange → ℕ → ReadError → Type 0} {old new : CommitRequest} (error : StoreError) → HasNotRead maps refuses (opening_reach prefix) error old new → IsUncreated maps refuses made error old new
  uncreated {refuses = refuses} {old = old} error is =
      record { added = is.added; ran = ran_because is.ran (λ m says. create_error (λ range. refuses range old.read_version) is.added error old.mutations m says) }

  module _ {maps : ℕ → Map} {old mid new : CommitRequest} {G : Map → Type 0} (written : Option (List ℕ)) (one : DidRead maps (point (schema_key prefix) ∷ []) old mid (λ m. written ≡ get m (schema_key prefix))) (two : DidRead maps (states_range prefix ∷ []) mid new G) where
    -- MEMORY: it is wanting after both reads
    pub uncreated_memory : {refuses : KeyRange → ℕ → ReadError → Type 0} → IsUncreated maps refuses made Memory old new
    uncreated_memory = record { added = opening_reach prefix; ran = ran_because (both_read prefix one two) (λ m found. all_begin (opening_reach prefix)) }

    -- THERE: a pair stands where a schema does
    pub uncreated_there : {refuses : KeyRange → ℕ → ReadError → Type 0} (error : StoreError) → IsThere written error → IsUncreated maps refuses made error old new
    uncreated_there {refuses = refuses} error says =
        subst (λ e. IsUncreated maps refuses made e old new) (sym says.0) (record {
          added = opening_reach prefix;
          ran = ran_because (both_read prefix one two) (λ m found. (
            refl,
            λ none. says.1 (found.0 ∙ none),
            λ serial holds none. says.1 (found.0 ∙ no_schema_held prefix m (subst (Holds prefix m) none holds)),
          ));
        })

    -- LIMIT: the write of the schema was refused
    pub uncreated_limit : {last : CommitRequest} {refuses : KeyRange → ℕ → ReadError → Type 0} (list : List Mutation) (error : WriteError) → written ≡ None → list ≡ schema_writes prefix schema → last ≡ new →
        (error ≡ write.Memory) ⊎ (write_all_refusal new.mutations list ≡ Some error) → IsUncreated maps refuses made (of_write error) old last
    uncreated_limit {last = last} {refuses = refuses} list error none wrote same says =
        subst (λ n. IsUncreated maps refuses made (of_write error) old n) (sym same) (record {
          added = opening_reach prefix;
          ran =
              ran_because (both_read prefix one two)
              (λ m found. of_limit (λ e. IsCreateFailure (λ range. refuses range old.read_version) made e old.mutations (opening_reach prefix) m) error says (all_begin (opening_reach prefix)) (λ e is. limit e m (sym found.0 ∙ none) is));
        })
      where
        limit : (e : WriteError) (m : Map) → get m (schema_key prefix) ≡ None → write_all_refusal new.mutations list ≡ Some e →
            (opening_reach prefix ≡ opening_reach prefix) × (get m (schema_key prefix) ≡ None) × (write_all_refusal old.mutations (schema_writes prefix schema) ≡ Some e) × AtSerials prefix m (λ serial. serial ≡ None)
        limit e m nothing is = (
          refl,
          nothing,
          ap (λ ms. write_all_refusal ms (schema_writes prefix schema)) (sym ((both_read prefix one two).wrote ∙ append-nil old.mutations)) ∙ ap (write_all_refusal new.mutations) (sym wrote) ∙ is,
          λ serial holds. nothing_there prefix m serial (sym nothing) holds,
        )

    -- CREATED: the schema was written where nothing was
    pub created_now : {last : CommitRequest} (list : List Mutation) → IsLawfulSchema schema → written ≡ None → list ≡ schema_writes prefix schema → last ≡ with_mutations list new →
        IsNone (write_all_refusal new.mutations list) → IsCreated maps made old last
    created_now {last = last} list lawful none wrote is allowed =
        let kept = (both_read prefix one two).wrote ∙ append-nil old.mutations in record {
          allowed = ap (λ ms. write_all_refusal ms (schema_writes prefix schema)) (sym kept) ∙ ap (write_all_refusal new.mutations) (sym wrote) ∙ is_none (write_all_refusal new.mutations list) allowed;
          ran =
              ran_then (both_read prefix one two) (ran_write {Fact = λ m. Unit {0}} (schema_writes prefix schema) (is ∙ ap (λ ms. with_mutations ms new) wrote) (λ m. tt {0}))
              (λ m found empty. (sym found.0 ∙ none, λ serial holds. make m serial (sym found.0 ∙ none) holds));
        }
      where
        make : (m : Map) (serial : Serial) → get m (schema_key prefix) ≡ None → Holds prefix m serial → (serial ≡ None) × Holds prefix (after_all (schema_writes prefix schema) m) (Some (created schema))
        make m serial nothing holds =
            let there = nothing_there prefix m serial (sym nothing) holds in
            (there, created_holds prefix m schema lawful (subst (Holds prefix m) there holds))
