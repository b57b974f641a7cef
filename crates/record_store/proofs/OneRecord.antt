-- What reading the key of one record tells.
use Rattle.std.proofs.Common.{◌≡◌, inl, inr, ℕ, List, [], ◌∷◌, ◌++◌, refl, sym, ap, subst, ◌∙◌, Option, Some, None, append-nil, pos}
use Rattle.std.specs.List.{AllByRecursion}
use Rattle.std.specs.FinMap.{get}
use Rattle.tuple_codec.specs.Item.{Item, IsTuple}
use Rattle.tuple_codec.specs.Spelling.{int_spelling, spelling}
use Rattle.kv_core.specs.Range.{KeyRange, point}
use Rattle.kv_core.specs.Map.{Map, pairs_in}
use Rattle.kv_core.specs.declared.change.CommitRequest.{CommitRequest}
use Rattle.kv_core.specs.declared.snapshot.ReadError.{ReadError}
use Rattle.txn.proofs.Running.{ran_because}
use Rattle.metadata.specs.declared.definition.TypeDefinition.{TypeDefinition}
use Rattle.metadata.specs.Lawful.{IsLawfulSchema}
use Rattle.metadata.specs.Record.{Record}
use Rattle.metadata.specs.Records.{record_at}
use Rattle.metadata.specs.Schema.{find_type}
use Rattle.metadata.specs.Stored.{IsOfNoRecord, IsStoredAs, IsTypeOf, filled}
use Rattle.metadata.proofs.StoredApart.{named_typed}
use Rattle.metadata.proofs.StoredOnce.{made_is}
use Rattle.record_store.specs.declared.error.StoreError.{StoreError}
use Rattle.record_store.specs.declared.error.StoreError.TheVariants.{Memory, Read, Write, Corrupt, Refused, NoStore, AlreadyThere, OtherSchema, NotAggregate, NotReadable, WrongState, NotBuilt}
use Rattle.record_store.specs.Layout.{record_key}
use Rattle.record_store.specs.Form.{IsFirstBad, IsRecordPair, IsWritten, read_in}
use Rattle.record_store.specs.Call.{IsUnread, Opened, whole}
use Rattle.record_store.proofs.Stopping.{all_begin}
use Rattle.record_store.specs.Reading.{HasNotFound, HasNotRead, IsFound, IsKeyOf, IsNotFound, IsRead, IsReadError}
use Rattle.record_store.specs.Steps.{DidRead}
use Rattle.record_store.proofs.Kept.{itself}
use Rattle.record_store.proofs.RecordPairs.{all_written, at_key, key_form, no_record_pair, no_other_pair, none_bad, none_there, of_stored, pairs_at, record_there}

-- the pairs read at one key
pub read_at : (m : Map) (key : List ℕ) (value : Option (List ℕ)) → get m key ≡ value → read_in m (point key ∷ []) ≡ at_key key value
read_at m key value is = append-nil (pairs_in m (point key)) ∙ pairs_at m key value is

-- the read of a key is that of an equal one
pub key_read : {maps : ℕ → Map} {old new : CommitRequest} (key other : List ℕ) (value : Option (List ℕ)) → key ≡ other → DidRead maps (point key ∷ []) old new (λ m. value ≡ get m key) →
    DidRead maps (point other ∷ []) old new (λ m. value ≡ get m other)
key_read {maps = maps} {old = old} {new = new} key other value is = subst (λ k. DidRead maps (point k ∷ []) old new (λ m. value ≡ get m k)) is

pub key_not_read : {maps : ℕ → Map} {refuses : KeyRange → ℕ → ReadError → Type 0} {old new : CommitRequest} (key other : List ℕ) (error : StoreError) → key ≡ other → HasNotRead maps refuses (point key ∷ []) error old new →
    HasNotRead maps refuses (point other ∷ []) error old new
key_not_read {maps = maps} {refuses = refuses} {old = old} {new = new} key other error is = subst (λ k. HasNotRead maps refuses (point k ∷ []) error old new) is

module _ (opened : Opened) (type : TypeDefinition) (key : List Item) (lawful : IsLawfulSchema opened.schema) (found_type : find_type opened.schema type.name ≡ Some type) (key_of : IsKeyOf type key) where
  own : IsTypeOf opened.schema type
  own = named_typed opened.schema type.name type lawful found_type

  -- what is stored at the key is of the written form
  stored_form : (value : List ℕ) (r : Record) → IsStoredAs type (spelling key) value r → IsRecordPair opened.prefix opened.schema (record_key opened.prefix key, value)
  stored_form value r put =
      let good = of_stored opened.schema type (spelling key) value r lawful found_type put in record {
        stored = r;
        typed = good.0;
        storable = good.1;
        key = ap (λ k. opened.prefix ++ (int_spelling (pos 1) ++ k)) put.has_key;
        first = put.stored;
        fills = subst (λ t. filled t put.stored ≡ Some r.cells) (ap (λ (one : Record). one.definition) (made_is type r.cells r put.made)) put.fills;
        value = put.has_value;
      }

  -- READ: the record, or none, that was found
  pub read_there : (m : Map) (value : Option (List ℕ)) (found : Option Record) → get m (record_key opened.prefix key) ≡ value → IsFound type (spelling key) value found → IsRead opened key found m
  read_there m None found is says = (
    subst (AllByRecursion (IsWritten opened.prefix opened.schema)) (sym (read_at m (record_key opened.prefix key) None is)) tt,
    λ store holds same. says ∙ none_there opened.prefix m store holds key key_of.tuple is,
  )
  read_there m (Some value) None is says = absurd says
  read_there m (Some value) (Some r) is says = (
    subst (AllByRecursion (IsWritten opened.prefix opened.schema)) (sym (read_at m (record_key opened.prefix key) (Some value) is)) (inl (stored_form value r says), tt),
    λ store holds same.
        subst (λ k. Some r ≡ record_at k store.records) (sym key_of.is)
        (record_there opened.prefix m store holds type key_of.cells value r (subst (λ s. IsTypeOf s type) (sym same.schema) own) (subst IsTuple key_of.is key_of.tuple)
        (ap (λ k. get m (record_key opened.prefix k)) (sym key_of.is) ∙ is) (subst (λ k. IsStoredAs type (spelling k) value r) key_of.is says)),
  )

  -- UNREAD: what was found is none of the type's
  pub unread_there : (refuses : KeyRange → ReadError → Type 0) (m : Map) (value : Option (List ℕ)) (error : StoreError) → get m (record_key opened.prefix key) ≡ value →
      IsNotFound type (spelling key) (record_key opened.prefix key) value error → IsUnread refuses opened (whole (point (record_key opened.prefix key) ∷ [])) error (point (record_key opened.prefix key) ∷ []) m
  unread_there refuses m value Memory is says = all_begin (point (record_key opened.prefix key) ∷ [])
  unread_there refuses m None (Read error) is says = absurd says
  unread_there refuses m None (Write error) is says = absurd says
  unread_there refuses m None (Refused refusal) is says = absurd says
  unread_there refuses m None NoStore is says = absurd says
  unread_there refuses m None AlreadyThere is says = absurd says
  unread_there refuses m None OtherSchema is says = absurd says
  unread_there refuses m None NotAggregate is says = absurd says
  unread_there refuses m None NotReadable is says = absurd says
  unread_there refuses m None WrongState is says = absurd says
  unread_there refuses m None NotBuilt is says = absurd says
  unread_there refuses m None (Corrupt at) is says = absurd says
  unread_there refuses m (Some value) (Read error) is says = absurd says
  unread_there refuses m (Some value) (Write error) is says = absurd says
  unread_there refuses m (Some value) (Refused refusal) is says = absurd says
  unread_there refuses m (Some value) NoStore is says = absurd says
  unread_there refuses m (Some value) AlreadyThere is says = absurd says
  unread_there refuses m (Some value) OtherSchema is says = absurd says
  unread_there refuses m (Some value) NotAggregate is says = absurd says
  unread_there refuses m (Some value) NotReadable is says = absurd says
  unread_there refuses m (Some value) WrongState is says = absurd says
  unread_there refuses m (Some value) NotBuilt is says = absurd says
  unread_there refuses m (Some value) (Corrupt at) is says = (
    refl,
    bad,
    λ store holds same.
        none_bad (read_in m (point (record_key opened.prefix key) ∷ [])) at
        (subst (AllByRecursion (IsWritten opened.prefix opened.schema)) (sym (append-nil (pairs_in m (point (record_key opened.prefix key)))))
        (all_written opened.prefix opened.schema (pairs_in m (point (record_key opened.prefix key)))
        (subst (λ s. AllByRecursion (IsRecordPair opened.prefix s) (pairs_in m (point (record_key opened.prefix key)))) same.schema (key_form opened.prefix m store holds key key_of.tuple)))) bad,
  )
    where
      none : IsRecordPair opened.prefix opened.schema (record_key opened.prefix key, value) → ⊥
      none pair =
          no_record_pair opened.prefix opened.schema type key_of.cells value lawful own (subst IsTuple key_of.is key_of.tuple)
          (subst (λ k. IsOfNoRecord type (spelling k) value) key_of.is says.1) (subst (λ k. IsRecordPair opened.prefix opened.schema (record_key opened.prefix k, value)) key_of.is pair)

      neither : IsWritten opened.prefix opened.schema (record_key opened.prefix key, value) → ⊥
      neither (inl pair) = none pair
      neither (inr total) = no_other_pair opened.prefix key opened.schema.indexes (record_key opened.prefix key, value) (itself (record_key opened.prefix key)) total

      bad : IsFirstBad (IsWritten opened.prefix opened.schema) (read_in m (point (record_key opened.prefix key) ∷ [])) at
      bad = record {
        before = [];
        bad = (record_key opened.prefix key, value);
        behind = [];
        split = read_at m (record_key opened.prefix key) (Some value) is;
        good = tt;
        malformed = neither;
        at = says.0;
      }

  -- RECORD: a record was read, or wasn't
  pub record_read : {maps : ℕ → Map} {old new : CommitRequest} (value : Option (List ℕ)) (found : Option Record) → DidRead maps (point (record_key opened.prefix key) ∷ []) old new (λ m. value ≡ get m (record_key opened.prefix key)) →
      IsFound type (spelling key) value found → DidRead maps (point (record_key opened.prefix key) ∷ []) old new (IsRead opened key found)
  record_read value found ran says = ran_because ran (λ m is. read_there m value found (sym is) says)

  pub record_unread : {maps : ℕ → Map} {refuses : KeyRange → ℕ → ReadError → Type 0} {old new : CommitRequest} (value : Option (List ℕ)) (error : StoreError) →
      DidRead maps (point (record_key opened.prefix key) ∷ []) old new (λ m. value ≡ get m (record_key opened.prefix key)) → IsNotFound type (spelling key) (record_key opened.prefix key) value error →
      HasNotFound maps refuses opened (whole (point (record_key opened.prefix key) ∷ [])) error old new
  record_unread {refuses = refuses} {old = old} value error ran says = record {
    added = point (record_key opened.prefix key) ∷ [];
    ran = ran_because ran (λ m is. unread_there (λ range. refuses range old.read_version) m value error (sym is) says);
  }

-- a read of some ranges that isn't answered
read_error : (opened : Opened) (refuses : KeyRange → ReadError → Type 0) (asked added : List KeyRange) (error : StoreError) (m : Map) → IsReadError refuses asked added error → IsUnread refuses opened (whole asked) error added m
read_error opened refuses asked added Memory m says = says
read_error opened refuses asked added (Read error) m says = says
read_error opened refuses asked added (Write error) m says = absurd says
read_error opened refuses asked added (Corrupt key) m says = absurd says
read_error opened refuses asked added (Refused refusal) m says = absurd says
read_error opened refuses asked added NoStore m says = absurd says
read_error opened refuses asked added AlreadyThere m says = absurd says
read_error opened refuses asked added OtherSchema m says = absurd says
read_error opened refuses asked added NotAggregate m says = absurd says
read_error opened refuses asked added NotReadable m says = absurd says
read_error opened refuses asked added WrongState m says = absurd says
read_error opened refuses asked added NotBuilt m says = absurd says

pub read_unread : {maps : ℕ → Map} {refuses : KeyRange → ℕ → ReadError → Type 0} {old new : CommitRequest} (opened : Opened) (asked : List KeyRange) (error : StoreError) → HasNotRead maps refuses asked error old new → HasNotFound maps refuses opened (whole asked) error old new
read_unread {refuses = refuses} {old = old} opened asked error is =
    record { added = is.added; ran = ran_because is.ran (λ m says. read_error opened (λ range. refuses range old.read_version) asked is.added error m says) }
