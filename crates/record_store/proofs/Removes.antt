-- What a removal comes to, from what its parts establish.
use Rattle.std.proofs.Common.{◌≡◌, ◌⊎◌, ℕ, true, false, cond, List, [], ◌∷◌, ◌++◌, refl, sym, ap, subst, ◌∙◌, Option, Some, None, Ok, length, ◌==◌, append-nil, is_some}
use Rattle.std.specs.Prelude.{IsNone}
use Rattle.std.specs.FinMap.{get}
use Rattle.std.specs.List.{AllByRecursion, flat_map}
use Rattle.tuple_codec.specs.Item.{Item, IsTuple}
use Rattle.tuple_codec.specs.Spelling.{spelling}
use Rattle.kv_core.specs.Map.{Map}
use Rattle.kv_core.specs.Range.{KeyRange, point}
use Rattle.kv_core.specs.Limits.{write_all_refusal}
use Rattle.kv_core.specs.declared.change.CommitRequest.{CommitRequest}
use Rattle.kv_core.specs.declared.change.Mutation.{Mutation}
use Rattle.kv_core.specs.declared.change.Mutation.TheVariants.{ClearRange}
use Rattle.kv_core.specs.declared.change.WriteError.{WriteError}
use Rattle.kv_core.specs.declared.change.WriteError.TheVariants as write
use Rattle.kv_core.specs.declared.snapshot.ReadError.{ReadError}
use Rattle.txn.specs.Reads.{with_mutations}
use Rattle.kv_core.specs.Read.{NeverRefuses}
use Rattle.txn.proofs.Running.{ran_because}
use Rattle.metadata.proofs.StoredOnce.{made_is}
use Rattle.metadata.specs.declared.cells.Cell.{Cell}
use Rattle.metadata.specs.declared.definition.TypeDefinition.{TypeDefinition}
use Rattle.metadata.specs.Lawful.{IsLawfulSchema}
use Rattle.metadata.specs.Cell.{items_of}
use Rattle.metadata.specs.Record.{Record, key_in, key_items}
use Rattle.metadata.specs.Records.{record_at}
use Rattle.metadata.specs.Schema.{find_type}
use Rattle.metadata.specs.Stored.{IsStoredAs}
use Rattle.index_maint.specs.Built.{position_of}
use Rattle.record_store.specs.declared.error.StoreError.{StoreError}
use Rattle.record_store.specs.BuiltReading.{added_of, built_reading, found_of, position_in}
use Rattle.record_store.specs.Call.{IsAnswered, IsOpenAs, IsRefused, Opened, Reading, service_of, where_there}
use Rattle.record_store.specs.Calls.{remove_call, remove_footprint}
use Rattle.record_store.specs.Meaning.{remove_meaning}
use Rattle.record_store.specs.Form.{IsWritten, read_in}
use Rattle.record_store.specs.IndexWrites.{one_index_writes, remove_writes}
use Rattle.record_store.specs.Layout.{packed_in, record_key}
use Rattle.record_store.specs.Reading.{HasNotFound, HasNotRead, HasReadBuilt, HaveFollowed, HaveNotFollowed, IsKeyOf}
use Rattle.record_store.specs.Reading.{IsNotFound, ReadsHaveStopped, asked_built}
use Rattle.record_store.specs.Steps.{DidRead, of_write}
use Rattle.record_store.specs.Store.{Store}
use Rattle.record_store.proofs.Answered.{answered, answered_reading, done_with, key_in_type, refused_limit, refused_unread}
use Rattle.record_store.proofs.Keys.{packed_is, position_is}
use Rattle.record_store.proofs.OneRecord.{key_not_read, key_read, read_there}
use Rattle.record_store.proofs.RecordCalls.{filled, remove_list, remove_served}
use Rattle.record_store.proofs.Writing.{built_unread, follow_read, follow_unread, key_unread, record_unread}

abbrev Pair : Type 0
Pair = List ℕ × List ℕ

module _ (opened : Opened) (name : List ℕ) (cells : List Cell) (type : TypeDefinition) (lawful : IsLawfulSchema opened.schema) (found_type : find_type opened.schema name ≡ Some type)
    (own_type : find_type opened.schema type.name ≡ Some type) (made : key_in type cells ≡ Ok (key_items type.number cells)) (is_tuple : IsTuple (key_items type.number cells)) (at : List ℕ)
    (is_at : at ≡ record_key opened.prefix (key_items type.number cells)) where
  abbrev pk : List Item
  pk = key_items type.number cells

  abbrev key : List ℕ
  key = record_key opened.prefix pk

  its_key : IsKeyOf type pk
  its_key = record { cells = cells; is = refl; tuple = is_tuple }

  place_is : position_in opened.prefix type.number at ≡ position_of pk
  place_is = ap (position_in opened.prefix type.number) is_at ∙ position_is opened.prefix type.number (items_of cells)

  packed : packed_in opened.prefix at ≡ spelling pk
  packed = ap (packed_in opened.prefix) is_at ∙ packed_is opened.prefix pk

  -- what is read behind the record's key where a record stands there
  abbrev built : Reading
  built = built_reading opened type.number (position_of pk) opened.schema.indexes

  abbrev other : Reading
  other = where_there key built

  -- the key's read, and those of built ranges
  abbrev pub KeyRead : (ℕ → Map) → Option (List ℕ) → CommitRequest → CommitRequest → Type 0
  KeyRead maps value old mid = DidRead maps (point at ∷ []) old mid (λ m. value ≡ get m at)

  abbrev pub BuiltRead : (ℕ → Map) → List (List Pair) → CommitRequest → CommitRequest → Type 0
  BuiltRead maps found mid new = HasReadBuilt maps opened type.number (position_in opened.prefix type.number at) opened.schema.indexes found mid new

  built_read : {maps : ℕ → Map} {found : List (List Pair)} {mid new : CommitRequest} → BuiltRead maps found mid new → HasReadBuilt maps opened type.number (position_of pk) opened.schema.indexes found mid new
  built_read {maps = maps} {found = found} {mid = mid} {new = new} ran = subst (λ p. HasReadBuilt maps opened type.number p opened.schema.indexes found mid new) place_is ran

  accepted : remove_call opened name cells ≡ Ok (service_of remove_meaning (remove_footprint opened) pk)
  accepted = ap (done_with remove_meaning (remove_footprint opened)) (key_in_type opened.schema name cells type found_type ∙ made)

  -- where a pair stands there it is read
  there_asked : (m : Map) (value : List ℕ) → Some value ≡ get m key → other.asked m ≡ built.asked m
  there_asked m value is = ap (λ o. cond (is_some o) (built.asked m) []) (sym is)

  there_added : (m : Map) (value : List ℕ) → Some value ≡ get m key → other.added m ≡ flat_map (added_of opened type.number (position_of pk) m) opened.schema.indexes
  there_added m value is = ap (λ o. cond (is_some o) (built.added m) []) (sym is)

  there_pairs : (m : Map) (value : List ℕ) → Some value ≡ get m key → other.pairs m ≡ flat_map (found_of opened type.number (position_of pk) m) opened.schema.indexes
  there_pairs m value is = ap (λ o. cond (is_some o) (built.pairs m) []) (sym is)

  unread : {maps : ℕ → Map} {refuses : KeyRange → ℕ → ReadError → Type 0} {old new : CommitRequest} (error : StoreError) → HasNotFound maps refuses opened (remove_footprint opened pk).reading error old new → IsRefused maps refuses opened (remove_call opened name cells) error old new
  unread {maps = maps} {refuses = refuses} error is = refused_unread maps refuses opened (remove_call opened name cells) (service_of remove_meaning (remove_footprint opened) pk) error accepted is

  -- KEY: its read isn't answered
  pub remove_key_refused : {maps : ℕ → Map} {refuses : KeyRange → ℕ → ReadError → Type 0} {old new : CommitRequest} (error : StoreError) → HasNotRead maps refuses (point at ∷ []) error old new →
      IsRefused maps refuses opened (remove_call opened name cells) error old new
  remove_key_refused error is = unread error (key_unread opened key other error (key_not_read at key error is_at is))

  -- ABSENT: no record is there
  pub remove_absent : {maps : ℕ → Map} {old new : CommitRequest} → KeyRead maps None old new → IsAnswered maps opened (remove_call opened name cells) false old new
  remove_absent {maps = maps} ran =
      answered_reading maps NeverRefuses opened (remove_call opened name cells) (service_of remove_meaning (remove_footprint opened) pk) false accepted refl
      (ran_because (key_read at key None is_at ran) (λ m is.
      let read = read_there opened type pk lawful own_type its_key m None None (sym is) refl in (
        ap (λ o. point key ∷ cond (is_some o) (built.added m) []) is,
        (
          subst (λ o. AllByRecursion (IsWritten opened.prefix opened.schema) (read_in m (point key ∷ []) ++ cond (is_some o) (built.pairs m) [])) is
              (subst (AllByRecursion (IsWritten opened.prefix opened.schema)) (sym (append-nil (read_in m (point key ∷ [])))) read.0),
          read.1,
        ),
      )))
      (λ m store holds same none. remove_served opened pk None false [] refl is_tuple m store holds none refl)

  module _ (value : List ℕ) (refuses : KeyRange → ℕ → ReadError → Type 0) {maps : ℕ → Map} {old mid : CommitRequest} (first : KeyRead maps (Some value) old mid) where
    there : DidRead maps (point key ∷ []) old mid (λ m. Some value ≡ get m key)
    there = key_read at key (Some value) is_at first

    -- BUILT: a read of built ranges isn't answered
    pub remove_built_refused : {new : CommitRequest} (error : StoreError) → ReadsHaveStopped maps refuses (built_reading opened type.number (position_in opened.prefix type.number at) opened.schema.indexes) error mid new → IsRefused maps refuses opened (remove_call opened name cells) error old new
    remove_built_refused {new = new} error stop =
        unread error
        (built_unread opened key other built error (λ m is. (there_asked m value is, there_added m value is)) there
        (subst (λ p. ReadsHaveStopped maps refuses (built_reading opened type.number p opened.schema.indexes) error mid new) place_is stop))

    module _ (found : List (List Pair)) {read : CommitRequest} (ranges : BuiltRead maps found mid read) where
      -- RECORD: the pair found stands for none
      pub remove_record_refused : (error : StoreError) → IsNotFound type (packed_in opened.prefix at) at (Some value) error → IsRefused maps refuses opened (remove_call opened name cells) error old read
      remove_record_refused error is =
          unread error
          (record_unread opened key other found type.number (position_of pk) (Some value) (λ m is. (there_added m value is, there_pairs m value is)) there (built_read ranges) type pk lawful own_type its_key refl error
          (subst (λ k. IsNotFound type (spelling pk) k (Some value) error) is_at (subst (λ p. IsNotFound type p at (Some value) error) packed is)))

      module _ (r : Record) (is_stored : IsStoredAs type (packed_in opened.prefix at) value r) where
        stands : IsStoredAs type (spelling pk) value r
        stands = subst (λ p. IsStoredAs type p value r) packed is_stored

        -- UNFOLLOWED: what was found of built ranges tells nothing
        pub remove_follow_refused : (error : StoreError) → HaveNotFollowed opened type.number (position_in opened.prefix type.number at) found error → IsRefused maps refuses opened (remove_call opened name cells) error old read
        remove_follow_refused error is =
            unread error
            (follow_unread opened key other found type.number (position_of pk) (Some value) (λ m is. (there_added m value is, there_pairs m value is)) there (built_read ranges) type pk lawful own_type its_key refl (Some r) stands error
            (subst (λ p. HaveNotFollowed opened type.number p found error) place_is is))

        module _ (list : List Mutation) (followed : HaveFollowed opened type.number (position_in opened.prefix type.number at) (Some r) None found opened.schema.indexes (ClearRange (point at) ∷ []) list) where
          -- what is written, by the record's key and position
          followed_so : HaveFollowed opened type.number (position_of pk) (Some r) None found opened.schema.indexes (ClearRange (point key) ∷ []) list
          followed_so =
              subst (λ k. HaveFollowed opened type.number (position_of pk) (Some r) None found opened.schema.indexes (ClearRange (point k) ∷ []) list) is_at
              (subst (λ p. HaveFollowed opened type.number p (Some r) None found opened.schema.indexes (ClearRange (point at) ∷ []) list) place_is followed)

          type_number : r.definition.number ≡ type.number
          type_number = sym (ap (λ (one : Record). one.definition.number) (made_is type r.cells r stands.made))

          -- what the list is where this record is there
          writes_are : (store : Store) → IsOpenAs opened store → Some r ≡ record_at pk store.records →
              list ≡ (ClearRange (point key) ∷ []) ++ flat_map (λ index. one_index_writes opened type.number (asked_built opened type.number (position_of pk) store index) (Some r) None index) opened.schema.indexes →
              list ≡ remove_writes opened.prefix store pk (Some r)
          writes_are store same is wrote = remove_list opened pk type.number r list store same type_number wrote

          -- LIMIT: the writes are refused
          pub remove_limit_refused : {new : CommitRequest} (error : WriteError) → new ≡ read → (error ≡ write.Memory) ⊎ (write_all_refusal read.mutations list ≡ Some error) → IsRefused maps refuses opened (remove_call opened name cells) (of_write error) old new
          remove_limit_refused error kept says =
              let all_read = follow_read opened key other found type.number (position_of pk) (Some value) (λ m is. (there_added m value is, there_pairs m value is)) there (built_read ranges) type pk lawful own_type its_key refl (Some r) stands
              (Some r) None (ClearRange (point key) ∷ []) list followed_so in
              refused_limit maps refuses opened (remove_call opened name cells) (service_of remove_meaning (remove_footprint opened) pk) list error accepted all_read
              (λ m store holds same so. (record { answer = _; is = refl }, writes_are store same so.0 so.1 ∙ ap (remove_writes opened.prefix store pk) so.0)) kept says

          -- REMOVED
          pub remove_answered : {new : CommitRequest} → new ≡ with_mutations list read → IsNone (write_all_refusal read.mutations list) → IsAnswered maps opened (remove_call opened name cells) true old new
          remove_answered ok allowed =
              let all_read = follow_read opened key other found type.number (position_of pk) (Some value) (λ m is. (there_added m value is, there_pairs m value is)) there (built_read ranges) type pk lawful own_type its_key refl (Some r) stands
              (Some r) None (ClearRange (point key) ∷ []) list followed_so in
              answered maps refuses opened (remove_call opened name cells) (service_of remove_meaning (remove_footprint opened) pk) true list accepted
              (ap (λ ms. length ms == 0) followed_so.1 ∙ filled (ClearRange (point key)) followed_so.0) all_read ok allowed
              (λ m store holds same so. remove_served opened pk (Some r) true list refl is_tuple m store holds so.0 (writes_are store same so.0 so.1))
