-- What reading the first records of a type at positions of a range comes to.
use Rattle.std.proofs.Common.{◌≡◌, inl, inr, ℕ, Bool, true, false, not, cond, ◌&&◌, ◌==◌, ◌<◌, ◌^◌, List, [], ◌∷◌, ◌++◌, refl, sym, ap, subst, ◌∙◌, Some, map, append_assoc, take, pos}
use Rattle.std.specs.Prelude.{filter}
use Rattle.std.specs.List.{AllByRecursion}
use Rattle.std.specs.Ordering.{is_lt}
use Rattle.std.proofs.lemmas.Bool.{and_from, and_parts, false_from_ne_true, eqb-true, true≢false}
use Rattle.std.proofs.lemmas.List.{take-map}
use Rattle.tuple_codec.specs.Item.{int}
use Rattle.tuple_codec.specs.Spelling.{int_spelling}
use Rattle.tuple_codec.proofs.Prefixes.{cmp_behind}
use Rattle.kv_core.specs.Bytes.{end_of_keys, key_le, key_lt}
use Rattle.kv_core.specs.Map.{Agree, Map, pairs_in}
use Rattle.kv_core.specs.Range.{KeyRange, contains, entries_in}
use Rattle.kv_core.specs.Read.{range_read, read_of}
use Rattle.kv_core.specs.declared.change.CommitRequest.{CommitRequest}
use Rattle.kv_core.proofs.Lists.{All-take}
use Rattle.kv_core.proofs.Order.{le_trans, lt_le_trans}
use Rattle.kv_core.proofs.Stored.{pairs_in-stored}
use Rattle.kv_core.specs.declared.snapshot.ReadError.{ReadError}
use Rattle.txn.specs.Reads.{has_read, seen}
use Rattle.txn.proofs.Running.{ran_read}
use Rattle.metadata.specs.declared.definition.TypeDefinition.{TypeDefinition}
use Rattle.metadata.specs.declared.index.IndexDefinition.{IndexDefinition}
use Rattle.metadata.specs.Cell.{items_of}
use Rattle.metadata.specs.Lawful.{IsLawfulSchema}
use Rattle.metadata.specs.Layout.{records_prefix}
use Rattle.metadata.specs.Record.{Record, key_cells, primary_key}
use Rattle.metadata.specs.Records.{IsStorable, of_type}
use Rattle.metadata.specs.Schema.{find_type}
use Rattle.index_maint.specs.Built.{position}
use Rattle.index_maint.specs.Kept.{records_within}
use Rattle.index_maint.proofs.RecordLists.{all_filter}
use Rattle.record_store.specs.declared.error.StoreError.{StoreError}
use Rattle.record_store.specs.declared.error.StoreError.TheVariants.{Memory, Read, Write, Corrupt, Refused, NoStore, AlreadyThere, OtherSchema, NotAggregate, NotReadable, WrongState, NotBuilt}
use Rattle.record_store.specs.Building.{HasReadPart, limited_to, positions_range}
use Rattle.record_store.specs.Call.{AtStore, IsOpenAs, IsUnread, Opened}
use Rattle.record_store.specs.Form.{IsFirstBad, IsRecordPair, IsWritten}
use Rattle.record_store.specs.Holds.{Holds, IsOfSchema}
use Rattle.record_store.specs.Layout.{place, record_key, type_range}
use Rattle.record_store.specs.Reading.{ArePairsOfRecords, HasNotFound, HaveNoRecords, IsPairOfNone}
use Rattle.record_store.specs.Steps.{IsBeginning}
use Rattle.record_store.specs.Store.{Store}
use Rattle.record_store.proofs.Held.{held_in, pair_with, pairs_held, rising, type_begin, value_in}
use Rattle.record_store.proofs.Keys.{above_itself, behind_type, in_type_range, record_key_is}
use Rattle.record_store.proofs.Openings.{pairs_lie}
use Rattle.record_store.proofs.RecordPairs.{HasValue, all_written, have_values, none_bad, some_form}
use Rattle.record_store.proofs.Scanning.{bad_written, good_form, of_type_good, same_records, small}
use Rattle.record_store.proofs.Stopping.{all_begin}

abbrev Pair : Type 0
Pair = List ℕ × List ℕ

-- ---- keys

module _ (prefix : List ℕ) (n : ℕ) (range : KeyRange) (low : n < 2 ^ 64) (upto : key_le range.end end_of_keys ≡ true) where
  abbrev begin : List ℕ
  begin = records_prefix prefix n

  abbrev keys : KeyRange
  keys = positions_range prefix n range

  -- the key of a record of the type has its position behind the number
  key_is : (r : Record) → r.definition.number ≡ n → record_key prefix (primary_key r) ≡ begin ++ position r
  key_is r same = ap (λ k. prefix ++ (int_spelling (pos 1) ++ (int_spelling (pos k) ++ position r))) same ∙ sym (behind_type prefix n (position r))

  -- the range lies in that of the type
  pub inside_type : (key : List ℕ) → contains keys key ≡ true → contains (type_range prefix n) key ≡ true
  inside_type key is =
      let parts = and_parts (key_le (begin ++ range.begin) key) (key_lt key (begin ++ range.end)) is in
      and_from (key_le begin key) (key_lt key (begin ++ 255 ∷ [])) (le_trans begin (begin ++ range.begin) key (above_itself prefix begin range.begin) parts.0)
      (lt_le_trans key (begin ++ range.end) (begin ++ 255 ∷ []) parts.1 (ap (λ o. not (is_lt o)) (cmp_behind begin (255 ∷ []) range.end) ∙ upto))

  -- IN: the keys there are those of the type's records at positions of the range
  in_keys : (r : Record) → IsStorable r → contains keys (record_key prefix (primary_key r)) ≡ ((r.definition.number == n) && contains range (position r))
  in_keys r can = by_type (r.definition.number == n) refl
    where
      by_type : (b : Bool) → (r.definition.number == n) ≡ b → contains keys (record_key prefix (primary_key r)) ≡ (b && contains range (position r))
      by_type true is =
          ap (contains keys) (key_is r (eqb-true r.definition.number n is))
          ∙ (λ i. not (is_lt (cmp_behind begin (position r) range.begin i)) && is_lt (cmp_behind begin (position r) range.end i))
      by_type false is =
          false_from_ne_true (contains keys (record_key prefix (primary_key r)))
          (λ there. true≢false (sym (inside_type (record_key prefix (primary_key r)) there) ∙ in_type_range prefix r.definition.number n (items_of (key_cells r)) can.key low ∙ is))

  pairs_within : (value : Record → List ℕ) (records : List Record) → AllByRecursion IsStorable records → entries_in keys (map (pair_with prefix value) records) ≡ map (pair_with prefix value) (filter (λ r. contains range (position r)) (of_type n records))
  pairs_within value [] storable = refl
  pairs_within value (r ∷ records) storable =
      ap (λ b. cond b (pair_with prefix value r ∷ entries_in keys (map (pair_with prefix value) records)) (entries_in keys (map (pair_with prefix value) records))) (in_keys r storable.0)
      ∙ by_tests (r.definition.number == n) (contains range (position r)) refl (pairs_within value records storable.1)
    where
      left : List Record
      left = filter (λ s. contains range (position s)) (of_type n records)

      by_tests : (a b : Bool) → contains range (position r) ≡ b → entries_in keys (map (pair_with prefix value) records) ≡ map (pair_with prefix value) left →
          cond (a && b) (pair_with prefix value r ∷ entries_in keys (map (pair_with prefix value) records)) (entries_in keys (map (pair_with prefix value) records))
          ≡ map (pair_with prefix value) (filter (λ s. contains range (position s)) (cond a (r ∷ of_type n records) (of_type n records)))
      by_tests true true is rest = ap (λ ps. pair_with prefix value r ∷ ps) rest ∙ sym (ap (λ b. map (pair_with prefix value) (cond b (r ∷ left) left)) is)
      by_tests true false is rest = rest ∙ sym (ap (λ b. map (pair_with prefix value) (cond b (r ∷ left) left)) is)
      by_tests false b is rest = rest

  end_is : (rest : List ℕ) → begin ++ rest ≡ place prefix 1 ++ (type_begin n ++ rest)
  end_is rest = ap (λ k. k ++ rest) (sym (record_key_is prefix (int (pos n) ∷ []))) ∙ append_assoc (place prefix 1) (type_begin n) rest

  -- PART: the pairs there are those of the records, in order
  pub part_held : (m : Map) (store : Store) → Holds prefix m (Some store) → pairs_in m keys ≡ map (pair_with prefix (value_in prefix m)) (filter (λ r. contains range (position r)) (of_type n store.records))
  part_held m store holds =
      held_in prefix (place prefix 1) (map (pair_with prefix (value_in prefix m)) store.records) m keys (type_begin n ++ range.begin) (type_begin n ++ range.end) (λ i. record { begin = end_is range.begin i; end = end_is range.end i })
      (pairs_held prefix m store holds)
      ∙ pairs_in-stored (map (pair_with prefix (value_in prefix m)) store.records) keys (rising prefix (value_in prefix m) store.records holds.lawful.storable holds.lawful.ordered)
      ∙ pairs_within (value_in prefix m) store.records holds.lawful.storable

  -- and of the written form
  pub part_form : (m : Map) (store : Store) → Holds prefix m (Some store) → AllByRecursion (IsRecordPair prefix store.schema) (pairs_in m keys)
  part_form m store holds =
      subst (AllByRecursion (IsRecordPair prefix store.schema)) (sym (part_held m store holds))
      (subst (λ rs. AllByRecursion (IsRecordPair prefix store.schema) (map (pair_with prefix (value_in prefix m)) rs)) (both store.records) (some_form prefix m store holds (λ r. (r.definition.number == n) && contains range (position r))))
    where
      both : (records : List Record) → filter (λ r. (r.definition.number == n) && contains range (position r)) records ≡ filter (λ r. contains range (position r)) (of_type n records)
      both [] = refl
      both (r ∷ records) = by_test (r.definition.number == n) (both records)
        where
          by_test : (b : Bool) → filter (λ s. (s.definition.number == n) && contains range (position s)) records ≡ filter (λ s. contains range (position s)) (of_type n records) →
              cond (b && contains range (position r)) (r ∷ filter (λ s. (s.definition.number == n) && contains range (position s)) records) (filter (λ s. (s.definition.number == n) && contains range (position s)) records)
              ≡ filter (λ s. contains range (position s)) (cond b (r ∷ of_type n records) (of_type n records))
          by_test true rest = ap (λ rs. cond (contains range (position r)) (r ∷ rs) rs) rest
          by_test false rest = rest

-- ---- reading

module _ (opened : Opened) (type : TypeDefinition) (lawful : IsLawfulSchema opened.schema) (found_type : find_type opened.schema type.name ≡ Some type) (index : IndexDefinition) (same_type : type.number ≡ index.type_number)
    (range : KeyRange) (upto : key_le range.end end_of_keys ≡ true) (limit : ℕ) where
  less : type.number < 2 ^ 64
  less = small opened type lawful found_type

  abbrev here : KeyRange
  here = positions_range opened.prefix index.type_number range

  less_index : index.type_number < 2 ^ 64
  less_index = subst (λ n. n < 2 ^ 64) same_type less

  -- FOUND: the rows are the first records there
  rows_there : (m : Map) (pairs : List Pair) (rows : List Record) → pairs ≡ take limit (pairs_in m here) → ArePairsOfRecords (place opened.prefix 1) type pairs rows →
      AllByRecursion (IsWritten opened.prefix opened.schema) pairs × AtStore opened m (λ store. rows ≡ take limit (records_within range index store.records))
  rows_there m pairs rows is good = (
    good_form opened type lawful found_type pairs rows good,
    λ store holds same.
        let all = of_type_good opened type lawful found_type store.records (subst (λ s. AllByRecursion (IsOfSchema s) store.records) same.schema holds.lawful.typed) holds.lawful.storable in
        let Good : Record → Type 0 = λ r. IsOfSchema opened.schema r × IsStorable r × (r.definition.number ≡ type.number) in
        same_records opened type lawful found_type (value_in opened.prefix m) rows (take limit (records_within range index store.records)) pairs good
        (is ∙ ap (take limit) (part_held opened.prefix index.type_number range less_index upto m store holds) ∙ take-map (pair_with opened.prefix (value_in opened.prefix m)) limit (records_within range index store.records))
        (All-take Good limit (records_within range index store.records)
        (all_filter Good (λ r. contains range (position r)) (of_type index.type_number store.records) (subst (λ n. AllByRecursion Good (of_type n store.records)) same_type all)))
        (All-take (λ r. HasValue (value_in opened.prefix m r) r) limit (records_within range index store.records)
        (all_filter (λ r. HasValue (value_in opened.prefix m r) r) (λ r. contains range (position r)) (of_type index.type_number store.records)
        (all_filter (λ r. HasValue (value_in opened.prefix m r) r) (λ r. r.definition.number == index.type_number) store.records (have_values opened.prefix m store.records holds.records.each)))),
  )

  -- NOT FOUND: one of the pairs is that of no record
  bad_inside : (m : Map) (before behind : List Pair) (bad : Pair) → take limit (pairs_in m here) ≡ before ++ bad ∷ behind → contains here bad.0 ≡ true
  bad_inside m before behind bad split =
      in_middle before (subst (AllByRecursion (λ (e : Pair). contains here e.0 ≡ true)) split (All-take (λ (e : Pair). contains here e.0 ≡ true) limit (pairs_in m here) (pairs_lie opened.prefix m here)))
    where
      in_middle : (before : List Pair) → AllByRecursion (λ (e : Pair). contains here e.0 ≡ true) (before ++ bad ∷ behind) → contains here bad.0 ≡ true
      in_middle [] all = all.0
      in_middle (pair ∷ before) all = in_middle before all.1

  part_unread_at : (refuses : KeyRange → ReadError → Type 0) (added : List KeyRange) (m : Map) (pairs : List Pair) (error : StoreError) → pairs ≡ take limit (pairs_in m here) → added ≡ (limited_to limit here).added m →
      HaveNoRecords (place opened.prefix 1) type pairs error → IsUnread refuses opened (limited_to limit here) error added m
  part_unread_at refuses added m pairs error is all (inl memory) = subst (λ e. IsUnread refuses opened (limited_to limit here) e added m) (sym memory) (subst (IsBeginning added) all (all_begin added))
  part_unread_at refuses added m pairs error is all (inr among) = by_error error among.none
    where
      first : (key : List ℕ) → IsPairOfNone (place opened.prefix 1) type among.bad (Corrupt key) → IsFirstBad (IsWritten opened.prefix opened.schema) ((limited_to limit here).pairs m) key
      first key says = record {
        before = among.before;
        bad = among.bad;
        behind = among.behind;
        split = sym is ∙ among.split;
        good = good_form opened type lawful found_type among.before among.records among.good;
        malformed =
            bad_written opened type lawful found_type among.bad
            (subst (λ n. contains (type_range opened.prefix n) among.bad.0 ≡ true) (sym same_type) (inside_type opened.prefix index.type_number range less_index upto among.bad.0 (bad_inside m among.before among.behind among.bad (sym is ∙ among.split))))
            less says.1;
        at = says.0;
      }

      all_good : (store : Store) → Holds opened.prefix m (Some store) → IsOpenAs opened store → AllByRecursion (IsWritten opened.prefix opened.schema) ((limited_to limit here).pairs m)
      all_good store holds same =
          all_written opened.prefix opened.schema (take limit (pairs_in m here))
          (All-take (IsRecordPair opened.prefix opened.schema) limit (pairs_in m here)
          (subst (λ s. AllByRecursion (IsRecordPair opened.prefix s) (pairs_in m here)) same.schema (part_form opened.prefix index.type_number range less_index upto m store holds)))

      by_error : (e : StoreError) → IsPairOfNone (place opened.prefix 1) type among.bad e → IsUnread refuses opened (limited_to limit here) e added m
      by_error Memory says = subst (IsBeginning added) all (all_begin added)
      by_error (Read reason) says = absurd says
      by_error (Write reason) says = absurd says
      by_error (Refused refusal) says = absurd says
      by_error NoStore says = absurd says
      by_error AlreadyThere says = absurd says
      by_error OtherSchema says = absurd says
      by_error NotAggregate says = absurd says
      by_error NotReadable says = absurd says
      by_error WrongState says = absurd says
      by_error NotBuilt says = absurd says
      by_error (Corrupt key) says = (all, first key says, λ store holds same. none_bad ((limited_to limit here).pairs m) key (all_good store holds same) (first key says))

  -- the range that is added is that of the pairs read
  part_added : (m : Map) (asked : KeyRange) (pairs : List Pair) → asked ≡ here → pairs ≡ read_of m asked limit false → range_read asked limit false pairs ≡ range_read here limit false (read_of m here limit false)
  part_added m asked pairs is read = ap (range_read asked limit false) read ∙ ap (λ r. range_read r limit false (read_of m r limit false)) is

  pub part_read : {maps : ℕ → Map} {old new : CommitRequest} (asked : KeyRange) (pairs : List Pair) (records_place : List ℕ) (rows : List Record) → asked ≡ here → records_place ≡ place opened.prefix 1 →
      new ≡ has_read (range_read asked limit false pairs) old → ((m : Map) → Agree new.reads (maps old.read_version) m → pairs ≡ read_of (seen old m) asked limit false) → ArePairsOfRecords records_place type pairs rows →
      HasReadPart maps opened limit index range rows old new
  part_read {old = old} asked pairs records_place rows is at read answer found = record {
    added = range_read asked limit false pairs;
    ran = ran_read (range_read asked limit false pairs) read (λ m agree.
        let some : pairs ≡ take limit (pairs_in (seen old m) here) = answer m agree ∙ ap (λ r. take limit (pairs_in (seen old m) r)) is in
        let there = rows_there (seen old m) pairs rows some (subst (λ p. ArePairsOfRecords p type pairs rows) at found) in (
          part_added (seen old m) asked pairs is (answer m agree),
          subst (AllByRecursion (IsWritten opened.prefix opened.schema)) some there.0,
          there.1,
        ));
  }

  pub part_unread : {maps : ℕ → Map} {refuses : KeyRange → ℕ → ReadError → Type 0} {old new : CommitRequest} (asked : KeyRange) (pairs : List Pair) (records_place : List ℕ) (error : StoreError) → asked ≡ here → records_place ≡ place opened.prefix 1 →
      new ≡ has_read (range_read asked limit false pairs) old → ((m : Map) → Agree new.reads (maps old.read_version) m → pairs ≡ read_of (seen old m) asked limit false) → HaveNoRecords records_place type pairs error →
      HasNotFound maps refuses opened (limited_to limit here) error old new
  part_unread {refuses = refuses} {old = old} asked pairs records_place error is at read answer none = record {
    added = range_read asked limit false pairs ∷ [];
    ran = ran_read (range_read asked limit false pairs) read (λ m agree.
        let some : pairs ≡ take limit (pairs_in (seen old m) here) = answer m agree ∙ ap (λ r. take limit (pairs_in (seen old m) r)) is in
        part_unread_at (λ r. refuses r old.read_version) (range_read asked limit false pairs ∷ []) (seen old m) pairs error some (ap (λ r. r ∷ []) (part_added (seen old m) asked pairs is (answer m agree)))
        (subst (λ p. HaveNoRecords p type pairs error) at none));
  }
