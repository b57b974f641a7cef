-- What writers of a record come to, from what they read of its key and of built ranges.
use Rattle.std.proofs.Common.{◌≡◌, ℕ, List, [], ◌∷◌, ◌++◌, refl, sym, ap, subst, ◌∙◌, Option, Some, append-nil}
use Rattle.std.specs.List.{AllByRecursion, flat_map}
use Rattle.std.specs.Prelude.{map}
use Rattle.std.specs.FinMap.{get}
use Rattle.tuple_codec.specs.Item.{Item}
use Rattle.tuple_codec.specs.Spelling.{spelling}
use Rattle.kv_core.specs.Map.{Map}
use Rattle.kv_core.specs.Range.{KeyRange, point}
use Rattle.kv_core.specs.declared.change.CommitRequest.{CommitRequest}
use Rattle.kv_core.specs.declared.change.Mutation.{Mutation}
use Rattle.kv_core.specs.declared.snapshot.ReadError.{ReadError}
use Rattle.txn.proofs.Running.{ran_because, ran_then}
use Rattle.metadata.specs.declared.definition.TypeDefinition.{TypeDefinition}
use Rattle.metadata.specs.Lawful.{IsLawfulSchema}
use Rattle.metadata.specs.Record.{Record}
use Rattle.metadata.specs.Records.{record_at}
use Rattle.metadata.specs.Schema.{find_type}
use Rattle.record_store.specs.declared.error.StoreError.{StoreError}
use Rattle.record_store.specs.declared.error.StoreError.TheVariants.{Memory, Read, Write, Corrupt, Refused, NoStore, AlreadyThere, OtherSchema, NotAggregate, NotReadable, WrongState, NotBuilt}
use Rattle.record_store.specs.BuiltReading.{added_of, found_of}
use Rattle.record_store.specs.Call.{AtStore, IsUnread, Opened, Reading, then_reads, whole}
use Rattle.record_store.specs.Form.{IsFirstBad, IsWritten, read_in}
use Rattle.record_store.specs.IndexWrites.{one_index_writes}
use Rattle.record_store.specs.Layout.{record_key}
use Rattle.record_store.specs.Reading.{HasNotFound, HasNotRead, HasReadBuilt, HaveFollowed, HaveNotFollowed, IsFound}
use Rattle.record_store.specs.Reading.{IsKeyOf, IsNotFound, IsReadError, IsStopped, ReadsHaveStopped, asked_built}
use Rattle.record_store.specs.Steps.{DidRead, IsBeginning}
use Rattle.record_store.proofs.BuiltReads.{stopped_within}
use Rattle.record_store.proofs.Followed.{bad_behind, bad_more}
use Rattle.record_store.proofs.OneRecord.{read_there, unread_there}
use Rattle.record_store.proofs.Stopping.{all_begin, begin_more, next_more}

abbrev Pair : Type 0
Pair = List ℕ × List ℕ

-- what stopped is unread
unread_stop : (refuses : KeyRange → ReadError → Type 0) (opened : Opened) (reading : Reading) (error : StoreError) (added : List KeyRange) (m : Map) → IsStopped refuses reading error added m → IsUnread refuses opened reading error added m
unread_stop refuses opened reading Memory added m says = says
unread_stop refuses opened reading (Read error) added m says = says
unread_stop refuses opened reading (Write error) added m says = absurd says
unread_stop refuses opened reading (Corrupt key) added m says = absurd says
unread_stop refuses opened reading (Refused refusal) added m says = absurd says
unread_stop refuses opened reading NoStore added m says = absurd says
unread_stop refuses opened reading AlreadyThere added m says = absurd says
unread_stop refuses opened reading OtherSchema added m says = absurd says
unread_stop refuses opened reading NotAggregate added m says = absurd says
unread_stop refuses opened reading NotReadable added m says = absurd says
unread_stop refuses opened reading WrongState added m says = absurd says
unread_stop refuses opened reading NotBuilt added m says = absurd says

module _ (opened : Opened) (key : List ℕ) (other : Reading) where
  -- the reading of a record's key, and another behind it
  abbrev pub reading : Reading
  reading = then_reads (whole (point key ∷ [])) other

  -- KEY: its read was refused, or memory was wanting
  key_error : (refuses : KeyRange → ReadError → Type 0) (added : List KeyRange) (error : StoreError) (m : Map) → IsReadError refuses (point key ∷ []) added error → IsUnread refuses opened reading error added m
  key_error refuses added Memory m says = begin_more (other.added m) says
  key_error refuses added (Read error) m says = (begin_more (other.added m) says.0, next_more (other.asked m) says.1)
  key_error refuses added (Write error) m says = absurd says
  key_error refuses added (Corrupt at) m says = absurd says
  key_error refuses added (Refused refusal) m says = absurd says
  key_error refuses added NoStore m says = absurd says
  key_error refuses added AlreadyThere m says = absurd says
  key_error refuses added OtherSchema m says = absurd says
  key_error refuses added NotAggregate m says = absurd says
  key_error refuses added NotReadable m says = absurd says
  key_error refuses added WrongState m says = absurd says
  key_error refuses added NotBuilt m says = absurd says

  pub key_unread : {maps : ℕ → Map} {refuses : KeyRange → ℕ → ReadError → Type 0} {old new : CommitRequest} (error : StoreError) → HasNotRead maps refuses (point key ∷ []) error old new → HasNotFound maps refuses opened reading error old new
  key_unread {refuses = refuses} {old = old} error is =
      record { added = is.added; ran = ran_because is.ran (λ m says. key_error (λ range. refuses range old.read_version) is.added error m says) }

  -- BUILT: what is read behind it stopped
  pub built_unread : {maps : ℕ → Map} {refuses : KeyRange → ℕ → ReadError → Type 0} {old mid new : CommitRequest} {F : Map → Type 0} (built : Reading) (error : StoreError) →
      ((m : Map) → F m → (other.asked m ≡ built.asked m) × (other.added m ≡ built.added m)) → DidRead maps (point key ∷ []) old mid F → ReadsHaveStopped maps refuses built error mid new → HasNotFound maps refuses opened reading error old new
  built_unread {refuses = refuses} {old = old} built error so first stop = record {
    added = point key ∷ stop.added;
    ran = ran_then first stop.ran (λ m found says.
        let same = so m found in
        unread_stop (λ range. refuses range old.read_version) opened reading error (point key ∷ stop.added) m
        (stopped_within (λ range. refuses range old.read_version) (point key ∷ []) stop.added built reading (point key ∷ []) [] [] error m refl
        (ap (λ rs. point key ∷ rs) (same.0 ∙ sym (append-nil (built.asked m)))) (ap (λ rs. point key ∷ rs) (same.1 ∙ sym (append-nil (built.added m))))
        (subst (λ v. IsStopped (λ range. refuses range v) built error stop.added m) first.version says)));
  }

  -- ---- behind both

  module _ (indexes_found : List (List Pair)) (number : ℕ) (position : List ℕ) (value : Option (List ℕ)) {maps : ℕ → Map} {old mid new : CommitRequest}
      (so : (m : Map) → value ≡ get m key →
      (other.added m ≡ flat_map (added_of opened number position m) opened.schema.indexes) × (other.pairs m ≡ flat_map (found_of opened number position m) opened.schema.indexes))
      (first : DidRead maps (point key ∷ []) old mid (λ m. value ≡ get m key)) (built : HasReadBuilt maps opened number position opened.schema.indexes indexes_found mid new) where
    -- what both reads found
    abbrev pub AreFound : Map → Type 0
    AreFound m = (point key ∷ built.added ≡ reading.added m) × ((value ≡ get m key) × (indexes_found ≡ map (found_of opened number position m) opened.schema.indexes))

    pub both_read : DidRead maps (point key ∷ built.added) old new AreFound
    both_read = ran_then first built.ran (λ m found says. (ap (λ rs. point key ∷ rs) (says.0 ∙ sym (so m found).0), (found, says.1)))

    module _ (type : TypeDefinition) (primary_key : List Item) (lawful : IsLawfulSchema opened.schema) (found_type : find_type opened.schema type.name ≡ Some type) (key_of : IsKeyOf type primary_key) (is : key ≡ record_key opened.prefix primary_key) where
      -- RECORD: what stands at the key is no record
      pub record_unread : {refuses : KeyRange → ℕ → ReadError → Type 0} (error : StoreError) → IsNotFound type (spelling primary_key) (record_key opened.prefix primary_key) value error → HasNotFound maps refuses opened reading error old new
      record_unread {refuses = refuses} error says = record {
        added = point key ∷ built.added;
        ran =
            ran_because both_read
            (λ m found. by_error (λ range. refuses range old.read_version) error m found
            (subst (λ k. IsUnread (λ range. refuses range old.read_version) opened (whole (point k ∷ [])) error (point k ∷ []) m) (sym is)
            (unread_there opened type primary_key lawful found_type key_of (λ range. refuses range old.read_version) m value error (sym (found.1.0 ∙ ap (get m) is)) says)));
      }
        where
          by_error : (refused : KeyRange → ReadError → Type 0) (e : StoreError) (m : Map) → AreFound m → IsUnread refused opened (whole (point key ∷ [])) e (point key ∷ []) m → IsUnread refused opened reading e (point key ∷ built.added) m
          by_error refused Memory m found is = subst (IsBeginning (point key ∷ built.added)) found.0 (all_begin (point key ∷ built.added))
          by_error refused (Read e) m found is = let none : [] ≡ is.1.range ∷ is.1.rest = is.1.next in absurd (cc)
          by_error refused (Corrupt at) m found is = (found.0, bad_more (read_in m (point key ∷ [])) (other.pairs m) at is.1, is.2)
          by_error refused (Write e) m found is = absurd is
          by_error refused (Refused refusal) m found is = absurd is
          by_error refused NoStore m found is = absurd is
          by_error refused AlreadyThere m found is = absurd is
          by_error refused OtherSchema m found is = absurd is
          by_error refused NotAggregate m found is = absurd is
          by_error refused NotReadable m found is = absurd is
          by_error refused WrongState m found is = absurd is
          by_error refused NotBuilt m found is = absurd is

      module _ (record_found : Option Record) (stands : IsFound type (spelling primary_key) value record_found) where
        -- the record's pair is of the written form, and the record is the one there
        good : (m : Map) → AreFound m → AllByRecursion (IsWritten opened.prefix opened.schema) (read_in m (point key ∷ [])) × AtStore opened m (λ store. record_found ≡ record_at primary_key store.records)
        good m found =
            subst (λ k. AllByRecursion (IsWritten opened.prefix opened.schema) (read_in m (point k ∷ [])) × AtStore opened m (λ store. record_found ≡ record_at primary_key store.records)) (sym is)
            (read_there opened type primary_key lawful found_type key_of m value record_found (sym (found.1.0 ∙ ap (get m) is)) stands)

        -- UNFOLLOWED: what was found of built ranges tells nothing
        pub follow_unread : {refuses : KeyRange → ℕ → ReadError → Type 0} (error : StoreError) → HaveNotFollowed opened number position indexes_found error → HasNotFound maps refuses opened reading error old new
        follow_unread {refuses = refuses} error says = record { added = point key ∷ built.added; ran = ran_because both_read (λ m found. by_error (λ range. refuses range old.read_version) error m found says) }
          where
            by_error : (refused : KeyRange → ReadError → Type 0) (e : StoreError) (m : Map) → AreFound m → HaveNotFollowed opened number position indexes_found e → IsUnread refused opened reading e (point key ∷ built.added) m
            by_error refused Memory m found is = subst (IsBeginning (point key ∷ built.added)) found.0 (all_begin (point key ∷ built.added))
            by_error refused (Corrupt at) m found is =
                let bad = is m found.1.1 in (
                  found.0,
                  bad_behind (read_in m (point key ∷ [])) (other.pairs m) at (good m found).0 (subst (λ ps. IsFirstBad (IsWritten opened.prefix opened.schema) ps at) (sym (so m found.1.0).1) bad.0),
                  bad.1,
                )
            by_error refused (Read e) m found is = absurd is
            by_error refused (Write e) m found is = absurd is
            by_error refused (Refused refusal) m found is = absurd is
            by_error refused NoStore m found is = absurd is
            by_error refused AlreadyThere m found is = absurd is
            by_error refused OtherSchema m found is = absurd is
            by_error refused NotAggregate m found is = absurd is
            by_error refused NotReadable m found is = absurd is
            by_error refused WrongState m found is = absurd is
            by_error refused NotBuilt m found is = absurd is

        -- FOLLOWED: all was read, and this is to be written
        pub follow_read : (before_it after_it : Option Record) (before after : List Mutation) → HaveFollowed opened number position before_it after_it indexes_found opened.schema.indexes before after →
            DidRead maps (point key ∷ built.added) old new (λ m. (point key ∷ built.added ≡ reading.added m)
            × (AllByRecursion (IsWritten opened.prefix opened.schema) (reading.pairs m)
            × AtStore opened m (λ store. (record_found ≡ record_at primary_key store.records)
            × (after ≡ before ++ flat_map (λ index. one_index_writes opened number (asked_built opened number position store index) before_it after_it index) opened.schema.indexes))))
        follow_read before_it after_it before after followed =
            ran_because both_read (λ m found.
            let one = good m found in
            let rest = followed.2 m found.1.1 in (
              found.0,
              (
                both (read_in m (point key ∷ [])) (other.pairs m) one.0 (subst (AllByRecursion (IsWritten opened.prefix opened.schema)) (sym (so m found.1.0).1) rest.0),
                λ store holds same. (one.1 store holds same, followed.1 ∙ ap (λ ms. before ++ ms) (rest.1 store holds same)),
              ),
            ))
          where
            both : (xs ys : List Pair) → AllByRecursion (IsWritten opened.prefix opened.schema) xs → AllByRecursion (IsWritten opened.prefix opened.schema) ys → AllByRecursion (IsWritten opened.prefix opened.schema) (xs ++ ys)
            both [] ys all more = more
            both (x ∷ xs) ys all more = (all.0, both xs ys all.1 more)
