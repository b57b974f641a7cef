-- What the calls on an open store mean: what each asks for by the schema and the states of indexes, or its refusal by
-- them; then, by the store that is there, its answer or its refusal, and the store after it. No key and no byte occurs.
use Rattle.std.specs.Prelude.{ℕ, ℤ, Bool, true, false, List, Option, Some, None, Result, Ok, Err}
use Rattle.std.specs.Prelude.{is_some, if◌then◌else◌}
use Rattle.tuple_codec.specs.Item.{Item}
use Rattle.metadata.specs.declared.cells.Cell.{Cell}
use Rattle.metadata.specs.declared.definition.TypeDefinition.{TypeDefinition}
use Rattle.metadata.specs.declared.index.IndexDefinition.{IndexDefinition}
use Rattle.metadata.specs.declared.index.IndexKind.{IndexKind}
use Rattle.metadata.specs.declared.index.IndexKind.TheVariants.{Value, Count, Sum}
use Rattle.metadata.specs.declared.index.State.{State}
use Rattle.metadata.specs.declared.index.State.TheVariants.{Readable, WriteOnly, Disabled}
use Rattle.metadata.specs.declared.refusal.Refusal.{Refusal}
use Rattle.metadata.specs.declared.refusal.Refusal.TheVariants.{UnknownIndex, UnknownType, WrongKind}
use Rattle.metadata.specs.Group.{fits_group}
use Rattle.metadata.specs.IndexChange.{without_index}
use Rattle.metadata.specs.Record.{Record, primary_key}
use Rattle.metadata.specs.Records.{of_type, record_at}
use Rattle.metadata.specs.Same.{same_type}
use Rattle.metadata.specs.Schema.{Schema, find_index, find_type}
use Rattle.index_maint.specs.Totals.{as_signed, count_share, sum_share, total}
use Rattle.range_set.specs.Gaps.{is_whole}
use Rattle.record_store.specs.declared.error.StoreError.{StoreError}
use Rattle.record_store.specs.declared.error.StoreError.TheVariants.{Refused, OtherSchema, NotAggregate, NotReadable}
use Rattle.record_store.specs.declared.error.StoreError.TheVariants.{WrongState, NotBuilt}
use Rattle.record_store.specs.Store.{Store, built_of, dropped, extended, indexed, listed_states, marked, new_state}
use Rattle.record_store.specs.Store.{removed, saved, state_in, state_of, widened}

-- what a call means: by the store that is there its answer, or why it is refused; the store after an answer; and
-- whether an answer tells that something was changed
pub record Meaning (A : Type 0) : Type 0 where
  pub answer : Store → Result A StoreError
  pub after : Store → Store
  pub changes : A → Bool

-- a call that only looks, and one that always changes something
abbrev pub looks : {A : Type 0} → (Store → A) → Meaning A
looks answer = record { answer = λ store. Ok (answer store); after = λ store. store; changes = λ a. false }

abbrev pub alters : {A : Type 0} → (Store → A) → (Store → Store) → Meaning A
alters answer after = record { answer = λ store. Ok (answer store); after = after; changes = λ a. true }

-- what is asked for, or the refusal that the schema or a record meets
abbrev pub by_schema : {K : Type 0} → Result K Refusal → Result K StoreError
by_schema (Ok value) = Ok value
by_schema (Err refusal) = Err (Refused refusal)

-- LOAD: the record of a primary key is answered
abbrev pub load_meaning : List Item → Meaning (Option Record)
load_meaning key = looks (λ store. record_at key store.records)

-- SAVE: a record is put in the place of that with its primary key, which is answered
abbrev pub save_meaning : Record → Meaning (Option Record)
save_meaning r = alters (λ store. record_at (primary_key r) store.records) (λ store. saved store r)

-- a record is one of the schema where the schema's type of its name is the record's own
abbrev pub is_own : Option TypeDefinition → Record → Bool
is_own None r = false
is_own (Some type) r = same_type type r.definition

abbrev pub own_record : Schema → Record → Result Record StoreError
own_record schema r = if is_own (find_type schema r.definition.name) r then Ok r else Err OtherSchema

-- REMOVE: the record of a primary key is taken out, and whether it was there is answered
abbrev pub remove_meaning : List Item → Meaning Bool
remove_meaning key = record {
  answer = λ store. Ok (is_some (record_at key store.records));
  after = λ store. removed store key;
  changes = λ was_there. was_there;
}

-- RECORDS: the records of a type are answered, in the order of their primary keys
abbrev pub type_number_of : Option TypeDefinition → Result ℕ Refusal
type_number_of None = Err UnknownType
type_number_of (Some type) = Ok type.number

abbrev pub records_meaning : ℕ → Meaning (List Record)
records_meaning number = looks (λ store. of_type number store.records)

-- AGGREGATE: the total of a group is answered, by the index's kind, read as signed; a VALUE index has none
abbrev pub total_of : IndexKind → IndexDefinition → List Cell → List Record → ℤ
total_of Value index group records = as_signed 0
total_of Count index group records = as_signed (total count_share index group records)
total_of Sum index group records = as_signed (total sum_share index group records)

abbrev pub total_meaning : List Cell → IndexDefinition → Meaning ℤ
total_meaning group index = looks (λ store. total_of index.kind index group store.records)

-- why no total is answered, in this order: the index is a VALUE index, the cells are no group of it, it isn't readable
abbrev pub total_refusal : IndexKind → Bool → State → Option StoreError
total_refusal Value fit state = Some NotAggregate
total_refusal kind false state = Some (Refused WrongKind)
total_refusal kind true Readable = None
total_refusal kind true state = Some NotReadable

-- the index whose total is asked for, or the refusal
abbrev pub unless : {K : Type 0} → Option StoreError → K → Result K StoreError
unless None value = Ok value
unless (Some refusal) value = Err refusal

abbrev pub totalled_index :
    Schema → List (ℕ × State) → List Cell → Option IndexDefinition → Result IndexDefinition StoreError
totalled_index schema states group None = Err (Refused UnknownIndex)
totalled_index schema states group (Some index) =
    unless (total_refusal index.kind (fits_group schema index group) (state_in states index.number)) index

-- TYPE: the schema with one more type is answered
abbrev pub type_meaning : Schema → Meaning Schema
type_meaning schema = alters (λ store. schema) (λ store. extended store schema)

-- FIELD: the schema with a field more is answered, in which the records of its type have null
abbrev pub field_meaning : Schema → Meaning Schema
field_meaning schema = alters (λ store. schema) (λ store. widened store schema)

-- INDEX: an index is added, and its state answered
abbrev pub index_meaning : IndexDefinition → Meaning State
index_meaning index =
    alters (λ store. new_state (of_type index.type_number store.records)) (λ store. indexed store index)

-- the number of an index, or the refusal
abbrev pub index_number : Option IndexDefinition → Result ℕ Refusal
index_number None = Err UnknownIndex
index_number (Some index) = Ok index.number

-- DROP: the schema without an index is answered
abbrev pub drop_meaning : ℕ → Meaning Schema
drop_meaning number = alters (λ store. without_index store.schema number) (λ store. dropped store number)

-- MARK: an index is in a state that isn't readable, and the states are answered
abbrev pub mark_meaning : State → ℕ → Meaning (List (ℕ × State))
mark_meaning state number =
    alters (λ store. listed_states (marked store number state)) (λ store. marked store number state)

-- an index in this state, if that is write-only, or the refusal
abbrev pub in_write_only : State → IndexDefinition → Result IndexDefinition StoreError
in_write_only Readable index = Err WrongState
in_write_only WriteOnly index = Ok index
in_write_only Disabled index = Err WrongState

-- the write-only index that was found by a name, or the refusal
abbrev pub write_only_found : List (ℕ × State) → Option IndexDefinition → Result IndexDefinition StoreError
write_only_found states None = Err (Refused UnknownIndex)
write_only_found states (Some index) = in_write_only (state_in states index.number) index

abbrev pub write_only_named : Schema → List (ℕ × State) → List ℕ → Result IndexDefinition StoreError
write_only_named schema states name = write_only_found states (find_index schema name)

-- READABLE: where every position of a write-only index is built it is readable, and the states are answered
abbrev pub readable_meaning : ℕ → Meaning (List (ℕ × State))
readable_meaning number = record {
  answer = λ store.
      if is_whole (built_of store number) then Ok (listed_states (marked store number Readable)) else Err NotBuilt;
  after = λ store. marked store number Readable;
  changes = λ answer. true;
}

-- STATE: the state of an index is answered
abbrev pub state_meaning : ℕ → Meaning State
state_meaning number = looks (λ store. state_of store number)
