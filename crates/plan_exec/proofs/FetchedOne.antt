-- How the record of one entry is read.
use Rattle.std.specs.Prelude.{◌≡◌, ◌⊎◌, ℕ, List, [], ◌∷◌, ◌++◌, Option, Some, None, refl}
use Rattle.std.specs.FinMap.{entries, get}
use Rattle.std.proofs.Common.{ap, sym, ◌∙◌, append-nil}
use Rattle.kv_core.specs.Map.{Agree, Map}
use Rattle.kv_core.specs.Range.{KeyRange, point}
use Rattle.kv_core.specs.declared.change.CommitRequest.{CommitRequest}
use Rattle.kv_core.specs.declared.snapshot.ReadError.{ReadError}
use Rattle.kv_core.specs.declared.snapshot.ReadError.TheVariants as read
use Rattle.txn.specs.Reads.{has_read, seen}
use Rattle.txn.proofs.Running.{ran_because}
use Rattle.metadata.specs.declared.definition.TypeDefinition.{TypeDefinition}
use Rattle.metadata.specs.Cell.{items_of}
use Rattle.metadata.specs.Layout.{record_key}
use Rattle.metadata.specs.Record.{Record}
use Rattle.planner.specs.Layout.{stored_record}
use Rattle.plan_exec.specs.Course.{found_or, reads, record_course, record_there}
use Rattle.plan_exec.specs.Decoding.{IsDamage}
use Rattle.plan_exec.specs.Errors.{exec_read}
use Rattle.plan_exec.specs.Reads.{or_damaged}
use Rattle.plan_exec.specs.Streams.{HasGiven, HasNotGiven, HasOnlyRead}
use Rattle.plan_exec.specs.Entry.{Entry}
use Rattle.plan_exec.specs.declared.error.ExecError.{ExecError}
use Rattle.plan_exec.specs.declared.error.ExecError.TheVariants.{Corrupt}
use Rattle.plan_exec.proofs.SingleReads.{read_value}
use Rattle.plan_exec.proofs.Streaming.{damaged_not, found_given, gone_given, gone_not, gone_still, not_read}

module _ {maps : ℕ → Map} (prefix : List ℕ) (t : TypeDefinition) (entry : Entry) {old new : CommitRequest} (key : List ℕ) (is : key ≡ record_key prefix (items_of entry.primary_key)) where
  -- READ: what stands at the record's key
  pub value_gone : (value : Option (List ℕ)) → new ≡ has_read (point key) old → ((m : Map) → Agree new.reads (maps old.read_version) m → value ≡ get (seen old m) key) →
      HasOnlyRead maps (λ pairs. record_course prefix pairs t entry) (λ pairs. record_there prefix pairs t entry value) old new
  value_gone value has answer =
      let at = record_key prefix (items_of entry.primary_key) in
      record {
        added = point at ∷ [];
        ran = ran_because (read_value key at value is has answer) (λ m same. (
          record { asked = point at; added = point at } ∷ [],
          refl,
          ap (λ o. reads (record { asked = point at; added = point at }) ∷ record_there prefix (entries m) t entry o) (sym same),
        ));
      }

  -- NOT GIVEN: it wasn't read
  pub value_not : {refuses : KeyRange → ℕ → ReadError → Type 0} (error : ReadError) → new ≡ old → (error ≡ read.Memory) ⊎ refuses (point key) old.read_version error → HasNotGiven maps refuses (λ pairs. record_course prefix pairs t entry) (exec_read error) old new
  value_not error same says =
      not_read (λ pairs. record_course prefix pairs t entry) (point key) error
      (λ m. (record { asked = point (record_key prefix (items_of entry.primary_key)); added = point (record_key prefix (items_of entry.primary_key)) }, _, refl, ap point (sym is))) same says

  module _ (value : List ℕ) (gone : HasOnlyRead maps (λ pairs. record_course prefix pairs t entry) (λ pairs. record_there prefix pairs t entry (Some value)) old new) where
    -- as a record that is decoded
    found_gone : HasOnlyRead maps (λ pairs. record_there prefix pairs t entry (Some value)) (λ pairs. found_or key (stored_record prefix t (key, value)) ++ []) new new
    found_gone = gone_still (λ pairs. record_there prefix pairs t entry (Some value)) (λ pairs. found_or key (stored_record prefix t (key, value)) ++ [])
        (λ m. sym (append-nil (found_or (record_key prefix (items_of entry.primary_key)) (stored_record prefix t (record_key prefix (items_of entry.primary_key), value))))
        ∙ ap (λ k. found_or k (stored_record prefix t (k, value)) ++ []) (sym is)) refl

    -- GIVEN: it was decoded
    pub row_given : (row : Record) → stored_record prefix t (key, value) ≡ Some row → HasGiven maps (λ pairs. record_course prefix pairs t entry) (Some row) (λ pairs. []) old new
    row_given row found = gone_given (Some row) gone (gone_given (Some row) found_gone (found_given key (stored_record prefix t (key, value)) row (λ pairs. []) found))

    -- NOT GIVEN: it wasn't
    pub row_not : {refuses : KeyRange → ℕ → ReadError → Type 0} (e : ExecError) → IsDamage (or_damaged key (stored_record prefix t (key, value))) e → HasNotGiven maps refuses (λ pairs. record_course prefix pairs t entry) e old new
    row_not e says = gone_not gone (gone_not found_gone (damaged_not key (stored_record prefix t (key, value)) e (λ pairs. []) says))

-- NOT GIVEN: nothing stands at the record's key
pub none_not : {maps : ℕ → Map} {refuses : KeyRange → ℕ → ReadError → Type 0} (prefix : List ℕ) (t : TypeDefinition) (entry : Entry) {old new : CommitRequest} → HasOnlyRead maps (λ pairs. record_course prefix pairs t entry) (λ pairs. record_there prefix pairs t entry None) old new →
    HasNotGiven maps refuses (λ pairs. record_course prefix pairs t entry) (Corrupt entry.key) old new
none_not prefix t entry gone = gone_not gone (damaged_not {A = Record} entry.key None (Corrupt entry.key) (λ pairs. []) refl)
