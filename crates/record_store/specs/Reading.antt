-- What the reads of a store and the decoding of what they find establish, beneath whole calls.
use Rattle.std.specs.Prelude.{◌≡◌, ◌⊎◌, ℕ, ℤ, pos, Bool, false, if◌then◌else◌, List, [], ◌∷◌, ◌++◌, IsTrue}
use Rattle.std.specs.Prelude.{Option, Some, None, length, map}
use Rattle.std.specs.List.{AllByRecursion, Contains, flat_map}
use Rattle.tuple_codec.specs.Item.{Item, IsTuple, int}
use Rattle.tuple_codec.specs.Spelling.{spelling}
use Rattle.kv_core.specs.Addition.{number_of}
use Rattle.kv_core.specs.Range.{KeyRange, point}
use Rattle.kv_core.specs.Map.{Map}
use Rattle.kv_core.specs.Read.{range_read, read_of}
use Rattle.kv_core.specs.declared.change.CommitRequest.{CommitRequest}
use Rattle.kv_core.specs.declared.change.Mutation.{Mutation}
use Rattle.kv_core.specs.declared.snapshot.ReadError.{ReadError}
use Rattle.metadata.specs.declared.cells.Cell.{Cell}
use Rattle.metadata.specs.declared.definition.TypeDefinition.{TypeDefinition}
use Rattle.metadata.specs.declared.index.IndexDefinition.{IndexDefinition}
use Rattle.metadata.specs.declared.index.IndexKind.TheVariants.{Value}
use Rattle.metadata.specs.declared.index.State.{State}
use Rattle.metadata.specs.declared.index.State.TheVariants.{Readable}
use Rattle.metadata.specs.Lawful.{IsLawfulSchema}
use Rattle.metadata.specs.Record.{Record, key_items}
use Rattle.metadata.specs.Records.{of_type, record_at}
use Rattle.metadata.specs.Schema.{Schema}
use Rattle.metadata.specs.Stored.{IsOfNoRecord, IsStoredAs}
use Rattle.metadata.specs.Written.{schema_bytes}
use Rattle.index_maint.specs.Totals.{as_signed, group_key}
use Rattle.record_store.specs.declared.error.StoreError.{StoreError}
use Rattle.record_store.specs.declared.error.StoreError.TheVariants.{Memory, Read, Corrupt, NoStore, AlreadyThere}
use Rattle.record_store.specs.Layout.{record_key, schema_key, state_pair, state_value, type_range}
use Rattle.record_store.specs.Form.{IsFirstBad, IsStatePair, IsWritten, read_in}
use Rattle.record_store.specs.Holds.{IsListed, has_number}
use Rattle.record_store.specs.Call.{AtStore, IsUnread, Opened, Reading}
use Rattle.record_store.specs.Meaning.{total_of}
use Rattle.record_store.specs.Store.{Store, built_of, new_state, state_in}
use Rattle.record_store.specs.BuiltReading.{added_of, asks, found_of}
use Rattle.record_store.specs.IndexWrites.{one_index_writes}
use Rattle.range_set.specs.Gaps.{has_position}
use Rattle.record_store.specs.Steps.{DidRead, IsBeginning, IsNextRefused}

-- Private: why reads of these ranges stopped after the ones that were added: memory runs out, or the next read is
-- refused so
abbrev pub IsReadError : (KeyRange → ReadError → Type 0) → List KeyRange → List KeyRange → StoreError → Type 0
IsReadError refuses asked added Memory = IsBeginning added asked
IsReadError refuses asked added (Read error) = IsBeginning added asked × IsNextRefused refuses asked added error
IsReadError refuses asked added error = ⊥

-- Private: reads of these ranges came to an error
pub record HasNotRead (maps : ℕ → Map) (refuses : KeyRange → ℕ → ReadError → Type 0) (asked : List KeyRange)
    (error : StoreError) (old new : CommitRequest) : Type 0 where
  pub added : List KeyRange
  pub ran : DidRead maps added old new (λ m. IsReadError (λ range. refuses range old.read_version) asked added error)

-- Private: what was found where a schema may stand is the bytes of this schema
pub record IsSchema (written : Option (List ℕ)) (schema : Schema) : Type 0 where
  pub made : IsLawfulSchema schema
  pub bytes : written ≡ Some (schema_bytes schema)

-- Private: the bytes are those of no schema
abbrev pub AreOfNoSchema : List ℕ → Type 0
AreOfNoSchema bytes =
    (schema : Schema) → IsLawfulSchema schema → bytes ≡ schema_bytes schema → ⊥

-- Private: why bytes are no schema: memory runs out, or they are those of none
abbrev pub IsBadSchema : List ℕ → List ℕ → StoreError → Type 0
IsBadSchema prefix bytes Memory = Unit {0}
IsBadSchema prefix bytes (Corrupt key) = (key ≡ schema_key prefix) × AreOfNoSchema bytes
IsBadSchema prefix bytes error = ⊥

-- Private: why what was found is no schema: nothing was found, or bytes of no schema
abbrev pub IsNoSchemaFound : List ℕ → Option (List ℕ) → StoreError → Type 0
IsNoSchemaFound prefix None error = error ≡ NoStore
IsNoSchemaFound prefix (Some bytes) error = IsBadSchema prefix bytes error

-- Private: the bytes of a whole number alone
abbrev pub number_pack : ℕ → List ℕ
number_pack number = spelling (int (pos number) ∷ [])

-- Private: the bytes are those of the number of one of these indexes
abbrev pub IsNumber : List IndexDefinition → List ℕ → ℕ → Type 0
IsNumber indexes bytes number = IsTrue (has_number indexes number) × (bytes ≡ number_pack number)

-- Private: the bytes are the value of a state, which isn't that of a readable index
abbrev pub IsStateValue : List ℕ → State → Type 0
IsStateValue bytes state = (bytes ≡ state_value state) × (state ≡ Readable → ⊥)

-- Private: a pair is that of the state of one of the indexes
pub record IsPairOfState (prefix : List ℕ) (indexes : List IndexDefinition) (pair : List ℕ × List ℕ)
    (listed : ℕ × State) : Type 0 where
  pub is_listed : IsListed indexes listed
  pub is : pair ≡ state_pair prefix listed

-- Private: why a pair is that of no state: memory runs out, or it isn't
abbrev pub IsNoState : List ℕ → List IndexDefinition → List ℕ × List ℕ → StoreError → Type 0
IsNoState prefix indexes pair Memory = Unit {0}
IsNoState prefix indexes pair (Corrupt key) = (key ≡ pair.0) × (IsStatePair prefix indexes pair → ⊥)
IsNoState prefix indexes pair error = ⊥

-- Private: the pairs are those of these states, each of one of the indexes
pub record AreStates (prefix : List ℕ) (indexes : List IndexDefinition) (pairs : List (List ℕ × List ℕ))
    (states : List (ℕ × State)) : Type 0 where
  pub are_listed : AllByRecursion (IsListed indexes) states
  pub are : pairs ≡ map (state_pair prefix) states

-- Private: after pairs of states one isn't
pub record IsBadStateAmong (prefix : List ℕ) (indexes : List IndexDefinition) (pairs : List (List ℕ × List ℕ))
    (error : StoreError) : Type 0 where
  pub before : List (List ℕ × List ℕ)
  pub bad : List ℕ × List ℕ
  pub behind : List (List ℕ × List ℕ)
  pub states : List (ℕ × State)
  pub split : pairs ≡ before ++ bad ∷ behind
  pub good : AreStates prefix indexes before states
  pub none : IsNoState prefix indexes bad error

-- Private: why pairs aren't those of states: memory runs out, or one of them isn't
abbrev pub HaveNoStates : List ℕ → List IndexDefinition → List (List ℕ × List ℕ) → StoreError → Type 0
HaveNoStates prefix indexes pairs error = (error ≡ Memory) ⊎ IsBadStateAmong prefix indexes pairs error

-- Private: the key is the primary key of a record of the type
pub record IsKeyOf (type : TypeDefinition) (key : List Item) : Type 0 where
  pub cells : List Cell
  pub is : key ≡ key_items type.number cells
  pub tuple : IsTuple key

-- Private: what was found at the key of a record of the type is this record's value, or nothing
abbrev pub IsFound : TypeDefinition → List ℕ → Option (List ℕ) → Option Record → Type 0
IsFound type key None found = found ≡ None
IsFound type key (Some value) None = ⊥
IsFound type key (Some value) (Some found) = IsStoredAs type key value found

-- Private: why what was found is no record of the type: memory runs out, or it is the value of none
abbrev pub IsNotFound : TypeDefinition → List ℕ → List ℕ → Option (List ℕ) → StoreError → Type 0
IsNotFound type key at value Memory = Unit {0}
IsNotFound type key at (Some value) (Corrupt damaged) = (damaged ≡ at) × IsOfNoRecord type key value
IsNotFound type key at value error = ⊥

-- Private: the total whose bytes were found at a group's key: of 8 bytes their number, the least significant one first,
-- read as signed; where there are none it is 0
abbrev pub IsTotalFound : Option (List ℕ) → ℤ → Type 0
IsTotalFound None total = total ≡ as_signed 0
IsTotalFound (Some value) total = (length value ≡ 8) × (total ≡ as_signed (number_of value))

-- Private: why what was found at a key is no total: memory runs out, or it has more or fewer than 8 bytes
abbrev pub IsNoTotal : List ℕ → Option (List ℕ) → StoreError → Type 0
IsNoTotal at value Memory = Unit {0}
IsNoTotal at (Some value) (Corrupt damaged) = (damaged ≡ at) × (length value ≡ 8 → ⊥)
IsNoTotal at value error = ⊥

-- Private: the total of a group of an index was read: what was read is of the written form, and this is the group's
-- total
abbrev pub IsTotalRead : Opened → IndexDefinition → List Cell → ℤ → Map → Type 0
IsTotalRead opened index group total m =
    AllByRecursion (IsWritten opened.prefix opened.schema)
    (read_in m (point (group_key opened.prefix index.number group) ∷ []))
    × AtStore opened m (λ store. total ≡ total_of index.kind index group store.records)

-- Private: an index of which totals are read: one of the schema's, a COUNT or a SUM, which is readable
pub record IsTotalled (opened : Opened) (index : IndexDefinition) : Type 0 where
  pub there : Contains opened.schema.indexes index
  pub kind : index.kind ≡ Value → ⊥
  pub readable : state_in opened.states index.number ≡ Readable

-- Private: the record of a primary key was read: what was read is of the written form, and this record, or none, is the
-- one that is there
abbrev pub IsRead : Opened → List Item → Option Record → Map → Type 0
IsRead opened key found m =
    AllByRecursion (IsWritten opened.prefix opened.schema) (read_in m (point (record_key opened.prefix key) ∷ []))
    × AtStore opened m (λ store. found ≡ record_at key store.records)

-- Private: the first record of a type was read, if there is one: this range was added, what was read is of the written
-- form, and a new index over the type has this state
abbrev pub IsStateRead : Opened → ℕ → State → KeyRange → Map → Type 0
IsStateRead opened number state added m =
    (added ≡ range_read (type_range opened.prefix number) 1 false (read_of m (type_range opened.prefix number) 1 false))
    × AllByRecursion (IsWritten opened.prefix opened.schema) (read_of m (type_range opened.prefix number) 1 false)
    × AtStore opened m (λ store. state ≡ new_state (of_type number store.records))

-- Private: so was the state of a new index
pub record HasRead (maps : ℕ → Map) (opened : Opened) (number : ℕ) (state : State) (old new : CommitRequest) :
    Type 0 where
  pub added : KeyRange
  pub ran : DidRead maps (added ∷ []) old new (IsStateRead opened number state added)

-- reads of an open store weren't answered
pub record HasNotFound (maps : ℕ → Map) (refuses : KeyRange → ℕ → ReadError → Type 0) (opened : Opened)
    (reading : Reading) (error : StoreError) (old new : CommitRequest) : Type 0 where
  pub added : List KeyRange
  pub ran : DidRead maps added old new (IsUnread (λ range. refuses range old.read_version) opened reading error added)

-- Private: why reads stopped before all were answered: memory runs out, or the next one is refused
abbrev pub IsStopped : (KeyRange → ReadError → Type 0) → Reading → StoreError → List KeyRange → Map → Type 0
IsStopped refuses reading Memory added m = IsBeginning added (reading.added m)
IsStopped refuses reading (Read error) added m =
    IsBeginning added (reading.added m) × IsNextRefused refuses (reading.asked m) added error
IsStopped refuses reading error added m = ⊥

-- Private: reads stopped
pub record ReadsHaveStopped (maps : ℕ → Map) (refuses : KeyRange → ℕ → ReadError → Type 0) (reading : Reading)
    (error : StoreError) (old new : CommitRequest) : Type 0 where
  pub added : List KeyRange
  pub ran : DidRead maps added old new (IsStopped (λ range. refuses range old.read_version) reading error added)

-- Private: of one index was read what a writer of a record at this position reads
pub record HasReadOne (maps : ℕ → Map) (opened : Opened) (number : ℕ) (position : List ℕ) (index : IndexDefinition)
    (pairs : List (List ℕ × List ℕ)) (old new : CommitRequest) : Type 0 where
  pub added : List KeyRange
  pub ran :
      DidRead maps added old new (λ m.
      (added ≡ added_of opened number position m index) × (pairs ≡ found_of opened number position m index))

-- Private: so of these indexes
pub record HasReadBuilt (maps : ℕ → Map) (opened : Opened) (number : ℕ) (position : List ℕ)
    (indexes : List IndexDefinition) (found : List (List (List ℕ × List ℕ))) (old new : CommitRequest) : Type 0 where
  pub added : List KeyRange
  pub ran :
      DidRead maps added old new (λ m.
      (added ≡ flat_map (added_of opened number position m) indexes)
      × (found ≡ map (found_of opened number position m) indexes))

-- Private: the position is built in an index, where that is asked for
abbrev pub asked_built : Opened → ℕ → List ℕ → Store → IndexDefinition → Bool
asked_built opened number position store index =
    if asks opened number index then has_position (built_of store index.number) position else false

-- Private: what was found for an index tells that, where it is what was read of a map: it is of the written form, and
-- so it is in each store there
abbrev pub IsToldOf : Opened → ℕ → List ℕ → IndexDefinition → List (List ℕ × List ℕ) → Bool → Type 0
IsToldOf opened number position index found told =
    (m : Map) → found ≡ found_of opened number position m index →
    AllByRecursion (IsWritten opened.prefix opened.schema) found
    × AtStore opened m (λ store. told ≡ asked_built opened number position store index)

-- Private: why it doesn't: memory runs out, or, where it is what was read of a map, the first pair of it that isn't
-- of the written form has this key, and no store is there
abbrev pub IsUntoldOf : Opened → ℕ → List ℕ → IndexDefinition → List (List ℕ × List ℕ) → StoreError → Type 0
IsUntoldOf opened number position index found Memory = Unit {0}
IsUntoldOf opened number position index found (Corrupt key) =
    (m : Map) → found ≡ found_of opened number position m index →
    IsFirstBad (IsWritten opened.prefix opened.schema) found key × AtStore opened m (λ store. ⊥)
IsUntoldOf opened number position index found error = ⊥

-- Private: mutations were put after others; and where this was found for all indexes of a map, what was found for some
-- of them is of the written form, and by each store there they are those that these indexes want written
abbrev pub HaveFollowed :
    Opened → ℕ → List ℕ → Option Record → Option Record → List (List (List ℕ × List ℕ)) → List IndexDefinition →
    List Mutation → List Mutation → Type 0
HaveFollowed opened number position old new found indexes before after =
    (more : List Mutation) × (after ≡ before ++ more)
    × ((m : Map) → found ≡ map (found_of opened number position m) opened.schema.indexes →
    AllByRecursion (IsWritten opened.prefix opened.schema) (flat_map (found_of opened number position m) indexes)
    × AtStore opened m (λ store.
    more ≡ flat_map (λ index.
    one_index_writes opened number (asked_built opened number position store index) old new index) indexes))

-- Private: why indexes don't follow: memory runs out, or, where this was found for all indexes of a map, the first
-- pair of it that isn't of the written form has this key, and no store is there
abbrev pub HaveNotFollowed : Opened → ℕ → List ℕ → List (List (List ℕ × List ℕ)) → StoreError → Type 0
HaveNotFollowed opened number position found Memory = Unit {0}
HaveNotFollowed opened number position found (Corrupt key) =
    (m : Map) → found ≡ map (found_of opened number position m) opened.schema.indexes →
    IsFirstBad (IsWritten opened.prefix opened.schema)
    (flat_map (found_of opened number position m) opened.schema.indexes) key
    × AtStore opened m (λ store. ⊥)
HaveNotFollowed opened number position found error = ⊥

-- Private: a pair has the key of a record of the type after the place of records, and its value
pub record IsPairOf (records_place : List ℕ) (type : TypeDefinition) (pair : List ℕ × List ℕ) (stored : Record) :
    Type 0 where
  pub rest : List ℕ
  pub behind : pair.0 ≡ records_place ++ rest
  pub is : IsStoredAs type rest pair.1 stored

-- Private: why a pair is that of no record of the type: memory runs out, or its key or its value is that of none
abbrev pub IsPairOfNone : List ℕ → TypeDefinition → List ℕ × List ℕ → StoreError → Type 0
IsPairOfNone records_place type pair Memory = Unit {0}
IsPairOfNone records_place type pair (Corrupt key) =
    (key ≡ pair.0) × ((stored : Record) → IsPairOf records_place type pair stored → ⊥)
IsPairOfNone records_place type pair error = ⊥

-- Private: records are those of pairs, one for each
abbrev pub ArePairsOfRecords : List ℕ → TypeDefinition → List (List ℕ × List ℕ) → List Record → Type 0
ArePairsOfRecords records_place type [] [] = Unit {0}
ArePairsOfRecords records_place type (pair ∷ pairs) (stored ∷ records) =
    IsPairOf records_place type pair stored × ArePairsOfRecords records_place type pairs records
ArePairsOfRecords records_place type pairs records = ⊥

-- Private: after pairs that are those of records one isn't
pub record IsBadAmong (records_place : List ℕ) (type : TypeDefinition) (pairs : List (List ℕ × List ℕ))
    (error : StoreError) : Type 0 where
  pub before : List (List ℕ × List ℕ)
  pub bad : List ℕ × List ℕ
  pub behind : List (List ℕ × List ℕ)
  pub records : List Record
  pub split : pairs ≡ before ++ bad ∷ behind
  pub good : ArePairsOfRecords records_place type before records
  pub none : IsPairOfNone records_place type bad error

-- Private: why pairs have no records: memory runs out, or after pairs that are those of records one isn't
abbrev pub HaveNoRecords : List ℕ → TypeDefinition → List (List ℕ × List ℕ) → StoreError → Type 0
HaveNoRecords records_place type pairs error = (error ≡ Memory) ⊎ IsBadAmong records_place type pairs error

-- Private: why a store isn't made where a pair was found at the schema's key
abbrev pub IsThere : Option (List ℕ) → StoreError → Type 0
IsThere written error = (error ≡ AlreadyThere) × (written ≡ None → ⊥)
