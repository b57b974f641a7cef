-- What a save comes to, from what its parts establish.
use Rattle.std.proofs.Common.{◌≡◌, ◌⊎◌, ℕ, true, List, [], ◌∷◌, refl, sym, ap, subst, ◌∙◌, Option, Some, None, Ok, Err, All, length, ◌==◌}
use Rattle.std.specs.Prelude.{IsNone}
use Rattle.std.specs.FinMap.{get}
use Rattle.tuple_codec.specs.Item.{IsTuple}
use Rattle.tuple_codec.specs.Spelling.{spelling}
use Rattle.kv_core.specs.Map.{Map}
use Rattle.kv_core.specs.Range.{KeyRange, point}
use Rattle.kv_core.specs.Limits.{write_all_refusal}
use Rattle.kv_core.specs.declared.change.CommitRequest.{CommitRequest}
use Rattle.kv_core.specs.declared.change.Mutation.{Mutation}
use Rattle.kv_core.specs.declared.change.Mutation.TheVariants.{Set}
use Rattle.kv_core.specs.declared.change.WriteError.{WriteError}
use Rattle.kv_core.specs.declared.change.WriteError.TheVariants as write
use Rattle.kv_core.specs.declared.snapshot.ReadError.{ReadError}
use Rattle.txn.specs.Reads.{with_mutations}
use Rattle.metadata.specs.declared.definition.TypeDefinition.{TypeDefinition}
use Rattle.metadata.specs.declared.cells.Cell.{Cell}
use Rattle.metadata.specs.declared.refusal.Refusal.TheVariants.{UnknownType}
use Rattle.metadata.specs.Cell.{IsCell, items_of}
use Rattle.metadata.specs.Lawful.{IsLawfulSchema}
use Rattle.metadata.specs.Record.{Record, key_cells, primary_key, record_in, record_of}
use Rattle.metadata.specs.Schema.{Schema, find_type}
use Rattle.metadata.proofs.SameTypes.{same_type-Decides}
use Rattle.metadata.proofs.StoredOnce.{made_is}
use Rattle.index_maint.specs.Built.{position_of}
use Rattle.record_store.specs.declared.error.StoreError.{StoreError}
use Rattle.record_store.specs.BuiltReading.{built_reading, position_in}
use Rattle.record_store.specs.Call.{IsAnswered, IsRefused, Opened, Reading, service_of}
use Rattle.record_store.specs.Calls.{save_as_call, save_call, save_footprint}
use Rattle.record_store.specs.Meaning.{is_own, save_meaning}
use Rattle.record_store.specs.Layout.{packed_in, record_key, record_value}
use Rattle.record_store.specs.Reading.{HasNotFound, HasNotRead, HasReadBuilt, HaveFollowed, HaveNotFollowed, IsFound}
use Rattle.record_store.specs.Reading.{IsKeyOf, IsNotFound, ReadsHaveStopped}
use Rattle.record_store.specs.Steps.{DidRead, of_write}
use Rattle.record_store.proofs.Answered.{answered, done_with, own_found, own_typed, refused_limit, refused_unread}
use Rattle.record_store.proofs.Keys.{packed_is, position_is}
use Rattle.record_store.proofs.OneRecord.{key_not_read, key_read}
use Rattle.record_store.proofs.RecordCalls.{filled, save_accepted, save_list, save_served}
use Rattle.record_store.proofs.Writing.{built_unread, follow_read, follow_unread, key_unread, record_unread}

abbrev Pair : Type 0
Pair = List ℕ × List ℕ

-- ---- what a schema makes of cells

-- it is a record of the schema's own
pub made_own : (schema : Schema) (type : TypeDefinition) (cells : List Cell) (r : Record) → find_type schema type.name ≡ Some type → record_in type cells ≡ Ok r → is_own (find_type schema r.definition.name) r ≡ true
made_own schema type cells r found made =
    let same : type ≡ r.definition = ap (λ (one : Record). one.definition) (made_is type cells r made) in
    subst (λ (t : TypeDefinition). is_own (find_type schema t.name) r ≡ true) same (ap (λ o. is_own o r) found ∙ (same_type-Decides type r.definition).1 same)

-- what is made of a type that is found
pub asked_in : (schema : Schema) (name : List ℕ) (cells : List Cell) (type : TypeDefinition) → find_type schema name ≡ Some type → record_of schema name cells ≡ record_in type cells
asked_in schema name cells type found = ap (λ o. elim o [ None ↦ Err UnknownType | Some one ↦ record_in one cells ]) found

pub asked_of_none : (schema : Schema) (name : List ℕ) (cells : List Cell) → find_type schema name ≡ None → record_of schema name cells ≡ Err UnknownType
asked_of_none schema name cells none = ap (λ o. elim o [ None ↦ Err UnknownType | Some one ↦ record_in one cells ]) none

-- its save is that of these cells
pub made_call : (opened : Opened) (name : List ℕ) (cells : List Cell) (type : TypeDefinition) (r : Record) → find_type opened.schema name ≡ Some type → record_in type cells ≡ Ok r → is_own (find_type opened.schema r.definition.name) r ≡ true →
    save_call opened r ≡ save_as_call opened name cells
made_call opened name cells type r found made own =
    save_accepted opened r own ∙ sym (ap (done_with save_meaning (save_footprint opened)) (asked_in opened.schema name cells type found ∙ made))

-- ---- a record of the schema's own, its key, and its type

module _ (opened : Opened) (r : Record) (own : is_own (find_type opened.schema r.definition.name) r ≡ true) (lawful : IsLawfulSchema opened.schema) (tuple : IsTuple (primary_key r)) (at : List ℕ)
    (is_at : at ≡ record_key opened.prefix (primary_key r)) (type : TypeDefinition) (is_type : type ≡ r.definition) where
  abbrev key : List ℕ
  key = record_key opened.prefix (primary_key r)

  -- what is read behind the record's key
  abbrev other : Reading
  other = built_reading opened r.definition.number (position_of (primary_key r)) opened.schema.indexes

  -- the key's read, and those of built ranges
  abbrev pub KeyRead : (ℕ → Map) → Option (List ℕ) → CommitRequest → CommitRequest → Type 0
  KeyRead maps value old mid = DidRead maps (point at ∷ []) old mid (λ m. value ≡ get m at)

  abbrev pub BuiltRead : (ℕ → Map) → List (List Pair) → CommitRequest → CommitRequest → Type 0
  BuiltRead maps found mid new = HasReadBuilt maps opened type.number (position_in opened.prefix type.number at) opened.schema.indexes found mid new

  place_is : position_in opened.prefix r.definition.number at ≡ position_of (primary_key r)
  place_is = ap (position_in opened.prefix r.definition.number) is_at ∙ position_is opened.prefix r.definition.number (items_of (key_cells r))

  -- what stands at the key is found by the pack of the primary key
  packed : packed_in opened.prefix at ≡ spelling (primary_key r)
  packed = ap (packed_in opened.prefix) is_at ∙ packed_is opened.prefix (primary_key r)

  accepted : save_call opened r ≡ Ok (service_of save_meaning (save_footprint opened) r)
  accepted = save_accepted opened r own

  key_of : IsKeyOf r.definition (primary_key r)
  key_of = record { cells = key_cells r; is = refl; tuple = tuple }

  read_first : {maps : ℕ → Map} {value : Option (List ℕ)} {old mid : CommitRequest} → KeyRead maps value old mid → DidRead maps (point key ∷ []) old mid (λ m. value ≡ get m key)
  read_first {value = value} ran = key_read at key value is_at ran

  built_read : {maps : ℕ → Map} {found : List (List Pair)} {mid new : CommitRequest} → BuiltRead maps found mid new → HasReadBuilt maps opened r.definition.number (position_of (primary_key r)) opened.schema.indexes found mid new
  built_read {maps = maps} {found = found} {mid = mid} {new = new} ran =
      subst (λ p. HasReadBuilt maps opened r.definition.number p opened.schema.indexes found mid new) place_is
      (subst (λ (t : TypeDefinition). HasReadBuilt maps opened t.number (position_in opened.prefix t.number at) opened.schema.indexes found mid new) is_type ran)

  unread : {maps : ℕ → Map} {refuses : KeyRange → ℕ → ReadError → Type 0} {old new : CommitRequest} (error : StoreError) → HasNotFound maps refuses opened (save_footprint opened r).reading error old new → IsRefused maps refuses opened (save_call opened r) error old new
  unread {maps = maps} {refuses = refuses} error is = refused_unread maps refuses opened (save_call opened r) (service_of save_meaning (save_footprint opened) r) error accepted is

  -- KEY: its read isn't answered
  pub save_key_refused : {maps : ℕ → Map} {refuses : KeyRange → ℕ → ReadError → Type 0} {old new : CommitRequest} (error : StoreError) → HasNotRead maps refuses (point at ∷ []) error old new →
      IsRefused maps refuses opened (save_call opened r) error old new
  save_key_refused error is = unread error (key_unread opened key other error (key_not_read at key error is_at is))

  -- BUILT: a read of built ranges isn't answered
  pub save_built_refused : {maps : ℕ → Map} {refuses : KeyRange → ℕ → ReadError → Type 0} {old mid new : CommitRequest} (value : Option (List ℕ)) (error : StoreError) → KeyRead maps value old mid →
      ReadsHaveStopped maps refuses (built_reading opened type.number (position_in opened.prefix type.number at) opened.schema.indexes) error mid new → IsRefused maps refuses opened (save_call opened r) error old new
  save_built_refused {maps = maps} {refuses = refuses} {mid = mid} {new = new} value error first stop =
      unread error
      (built_unread opened key other other error (λ m found. (refl, refl)) (read_first first)
      (subst (λ p. ReadsHaveStopped maps refuses (built_reading opened r.definition.number p opened.schema.indexes) error mid new) place_is
      (subst (λ (t : TypeDefinition). ReadsHaveStopped maps refuses (built_reading opened t.number (position_in opened.prefix t.number at) opened.schema.indexes) error mid new) is_type stop)))

  module _ (found : List (List Pair)) (value : Option (List ℕ)) (refuses : KeyRange → ℕ → ReadError → Type 0) {maps : ℕ → Map} {old mid read : CommitRequest} (first : KeyRead maps value old mid) (built : BuiltRead maps found mid read) where
    -- RECORD: the pair found stands for none
    pub save_record_refused : (error : StoreError) → IsNotFound type (packed_in opened.prefix at) at value error → IsRefused maps refuses opened (save_call opened r) error old read
    save_record_refused error is =
        unread error
        (record_unread opened key other found r.definition.number (position_of (primary_key r)) value (λ m is. (refl, refl)) (read_first first) (built_read built) r.definition (primary_key r) lawful
        (own_found opened.schema r own) key_of refl error
        (subst (λ k. IsNotFound r.definition (spelling (primary_key r)) k value error) is_at (subst (λ p. IsNotFound r.definition p at value error) packed (subst (λ t. IsNotFound t (packed_in opened.prefix at) at value error) is_type is))))

    module _ (record_found : Option Record) (is_found : IsFound type (packed_in opened.prefix at) value record_found) where
      stands : IsFound r.definition (spelling (primary_key r)) value record_found
      stands = subst (λ p. IsFound r.definition p value record_found) packed (subst (λ t. IsFound t (packed_in opened.prefix at) value record_found) is_type is_found)

      -- UNFOLLOWED: what was found of built ranges tells nothing
      pub save_follow_refused : (error : StoreError) → HaveNotFollowed opened r.definition.number (position_in opened.prefix r.definition.number at) found error → IsRefused maps refuses opened (save_call opened r) error old read
      save_follow_refused error is =
          unread error
          (follow_unread opened key other found r.definition.number (position_of (primary_key r)) value (λ m is. (refl, refl)) (read_first first) (built_read built) r.definition (primary_key r) lawful
          (own_found opened.schema r own) key_of refl record_found stands error (subst (λ p. HaveNotFollowed opened r.definition.number p found error) place_is is))

      module _ (list : List Mutation)
          (followed : HaveFollowed opened r.definition.number (position_in opened.prefix r.definition.number at) record_found (Some r) found opened.schema.indexes (Set at (record_value r.cells) ∷ []) list) where
        -- what is written, by the record's key and position
        followed_so : HaveFollowed opened r.definition.number (position_of (primary_key r)) record_found (Some r) found opened.schema.indexes (Set key (record_value r.cells) ∷ []) list
        followed_so =
            subst (λ k. HaveFollowed opened r.definition.number (position_of (primary_key r)) record_found (Some r) found opened.schema.indexes (Set k (record_value r.cells) ∷ []) list) is_at
            (subst (λ p. HaveFollowed opened r.definition.number p record_found (Some r) found opened.schema.indexes (Set at (record_value r.cells) ∷ []) list) place_is followed)

        -- LIMIT: the writes are refused
        pub save_limit_refused : {new : CommitRequest} (error : WriteError) → new ≡ read → (error ≡ write.Memory) ⊎ (write_all_refusal read.mutations list ≡ Some error) → IsRefused maps refuses opened (save_call opened r) (of_write error) old new
        save_limit_refused error kept says =
            let all_read = follow_read opened key other found r.definition.number (position_of (primary_key r)) value (λ m is. (refl, refl)) (read_first first) (built_read built) r.definition (primary_key r) lawful
            (own_found opened.schema r own) key_of refl record_found stands record_found (Some r) (Set key (record_value r.cells) ∷ []) list followed_so in
            refused_limit maps refuses opened (save_call opened r) (service_of save_meaning (save_footprint opened) r) list error accepted all_read
            (λ m store holds same found. (record { answer = _; is = refl }, save_list opened r record_found list store same found.0 found.1)) kept says

        -- SAVED
        pub save_answered : {new : CommitRequest} → record_in r.definition r.cells ≡ Ok r → All IsCell r.cells → new ≡ with_mutations list read → IsNone (write_all_refusal read.mutations list) → IsAnswered maps opened (save_call opened r) record_found old new
        save_answered made cells ok allowed =
            let all_read = follow_read opened key other found r.definition.number (position_of (primary_key r)) value (λ m is. (refl, refl)) (read_first first) (built_read built) r.definition (primary_key r) lawful
            (own_found opened.schema r own) key_of refl record_found stands record_found (Some r) (Set key (record_value r.cells) ∷ []) list followed_so in
            answered maps refuses opened (save_call opened r) (service_of save_meaning (save_footprint opened) r) record_found list accepted
            (ap (λ ms. length ms == 0) followed_so.1 ∙ filled (Set key (record_value r.cells)) followed_so.0) all_read ok allowed
            (λ m store holds same found. save_served opened r record_found list (own_typed opened.schema r own made) (record { cells = cells; key = tuple }) m store holds same found.0
            (save_list opened r record_found list store same found.0 found.1))
