-- What reading the records of a type comes to.
use Rattle.std.proofs.Common.{◌≡◌, inl, inr, ℕ, Bool, true, false, cond, ◌==◌, ◌<◌, ◌^◌, List, [], ◌∷◌, ◌++◌, refl, sym, ap, subst, ◌∙◌, Option, Some, None, map, append-nil, length, take, drop, arith, pos}
use Rattle.std.specs.Prelude.{get_or, zero, suc}
use Rattle.std.specs.List.{AllByRecursion}
use Rattle.tuple_codec.specs.Item as item
use Rattle.tuple_codec.specs.Spelling.{spelling}
use Rattle.kv_core.specs.Range.{KeyRange, contains}
use Rattle.kv_core.specs.Map.{Map, Agree, pairs_in}
use Rattle.kv_core.specs.Read.{range_read, read_of}
use Rattle.kv_core.specs.declared.change.CommitRequest.{CommitRequest}
use Rattle.kv_core.proofs.Lists.{All-take}
use Rattle.kv_core.specs.declared.snapshot.ReadError.{ReadError}
use Rattle.txn.specs.Reads.{has_read, seen}
use Rattle.txn.proofs.Running.{ran_added, ran_read}
use Rattle.metadata.specs.declared.definition.TypeDefinition.{TypeDefinition}
use Rattle.metadata.specs.Cell.{items_of}
use Rattle.metadata.specs.Layout.{records_prefix}
use Rattle.metadata.specs.Lawful.{IsLawfulSchema}
use Rattle.metadata.specs.Record.{Record, key_cells, primary_key}
use Rattle.metadata.specs.Records.{IsStorable, of_type}
use Rattle.metadata.specs.Schema.{find_type}
use Rattle.metadata.specs.Stored.{IsStoredAs, IsTypeOf, IsOfNoRecord, filled}
use Rattle.metadata.proofs.StoredApart.{named_typed, number_small}
use Rattle.metadata.proofs.StoredOnce.{made_is, stored_once}
use Rattle.record_store.specs.declared.error.StoreError.{StoreError}
use Rattle.record_store.specs.declared.error.StoreError.TheVariants.{Memory, Read, Write, Corrupt, Refused, NoStore, AlreadyThere, OtherSchema, NotAggregate, NotReadable, WrongState, NotBuilt}
use Rattle.record_store.specs.Layout.{place, record_key, type_range}
use Rattle.record_store.specs.Store.{Store}
use Rattle.record_store.specs.Holds.{Holds, IsOfSchema}
use Rattle.record_store.specs.Form.{IsFirstBad, IsRecordPair, IsWritten, read_in}
use Rattle.record_store.specs.Call.{AreDamaged, AtStore, IsOpenAs, IsUnread, Opened, Reading, first_of, whole}
use Rattle.record_store.specs.Store.{new_state}
use Rattle.record_store.specs.Reading.{ArePairsOfRecords, HasNotFound, HasRead, HaveNoRecords, IsPairOf, IsPairOfNone}
use Rattle.record_store.specs.Steps.{DidRead, IsBeginning}
use Rattle.record_store.proofs.Stopping.{all_begin}
use Rattle.record_store.proofs.Held.{pair_with, type_held, under, value_in}
use Rattle.record_store.proofs.Keys.{in_type_range, record_key_is}
use Rattle.record_store.proofs.Openings.{pairs_lie}
use Rattle.record_store.proofs.RecordPairs.{HasValue, all_written, have_values, key_bytes, no_other_pair, none_bad, of_stored, stored_as, type_form}
use Rattle.index_maint.proofs.RecordLists.{all_filter}
use Rattle.std.proofs.lemmas.Bool.{eqb-true}
use Rattle.std.specs.Option.{IfNone}
use Rattle.std.proofs.lemmas.List.{append_cancel_left, length-map, take-map}
use Rattle.std.proofs.Math.Seq.{take-length}

abbrev Pair : Type 0
Pair = List ℕ × List ℕ

-- ---- lists

-- a list up to a place, what stands there, and the rest
pub split_at : {X : Type 0} (i : ℕ) (xs : List X) (x : X) → i < length xs → x ≡ get_or xs i x → xs ≡ take i xs ++ x ∷ drop (suc i) xs
split_at zero [] x within is = absurd (omega (arith, within))
split_at zero (y ∷ ys) x within is = ap (λ z. z ∷ ys) (sym is)
split_at (suc i) [] x within is = absurd (omega (arith, within))
split_at (suc i) (y ∷ ys) x within is = ap (λ zs. y ∷ zs) (split_at i ys x (omega (arith, within)) is)

-- one more
pub pairs_more : (records_place : List ℕ) (type : TypeDefinition) (i : ℕ) (pairs : List Pair) (pair : Pair) (records : List Record) (one : Record) → i < length pairs → pair ≡ get_or pairs i pair →
    ArePairsOfRecords records_place type (take i pairs) records → IsPairOf records_place type pair one → ArePairsOfRecords records_place type (take (suc i) pairs) (records ++ one ∷ [])
pairs_more records_place type zero [] pair records one within is good more = absurd (omega (arith, within))
pairs_more records_place type zero (p ∷ pairs) pair [] one within is good more = (subst (λ q. IsPairOf records_place type q one) is more, tt)
pairs_more records_place type zero (p ∷ pairs) pair (r ∷ records) one within is good more = absurd good
pairs_more records_place type (suc i) [] pair records one within is good more = absurd (omega (arith, within))
pairs_more records_place type (suc i) (p ∷ pairs) pair [] one within is good more = absurd good
pairs_more records_place type (suc i) (p ∷ pairs) pair (r ∷ records) one within is good more = (good.0, pairs_more records_place type i pairs pair records one (omega (arith, within)) is good.1 more)

-- ---- pairs of the form

module _ (opened : Opened) (type : TypeDefinition) (lawful : IsLawfulSchema opened.schema) (found_type : find_type opened.schema type.name ≡ Some type) where
  own : IsTypeOf opened.schema type
  own = named_typed opened.schema type.name type lawful found_type

  -- the type of what is stored as one of a type
  type_is : (key value : List ℕ) (r : Record) → IsStoredAs type key value r → r.definition ≡ type
  type_is key value r is = sym (ap (λ (one : Record). one.definition) (made_is type r.cells r is.made))

  -- a pair of a record has its key
  pair_key : (pair : Pair) (r : Record) → IsPairOf (place opened.prefix 1) type pair r → pair.0 ≡ record_key opened.prefix (primary_key r)
  pair_key pair r is = is.behind ∙ ap (λ rest. place opened.prefix 1 ++ rest) is.is.has_key ∙ record_key_is opened.prefix (primary_key r)

  pub good_form : (pairs : List Pair) (records : List Record) → ArePairsOfRecords (place opened.prefix 1) type pairs records → AllByRecursion (IsWritten opened.prefix opened.schema) pairs
  good_form [] [] good = tt
  good_form [] (r ∷ records) good = absurd good
  good_form (pair ∷ pairs) [] good = absurd good
  good_form (pair ∷ pairs) (r ∷ records) good =
      let stored = of_stored opened.schema type good.0.rest pair.1 r lawful found_type good.0.is in
      let is = good.0.is in (
        inl (record {
          stored = r;
          typed = stored.0;
          storable = stored.1;
          key = pair_key pair r good.0;
          first = is.stored;
          fills = subst (λ t. filled t is.stored ≡ Some r.cells) (sym (type_is good.0.rest pair.1 r is)) is.fills;
          value = is.has_value;
        }),
        good_form pairs records good.1,
      )

  -- a pair in the type's range that is that of no record of the type is of no form
  bad_form : (pair : Pair) → contains (type_range opened.prefix type.number) pair.0 ≡ true → type.number < 2 ^ 64 → ((r : Record) → IsPairOf (place opened.prefix 1) type pair r → ⊥) → IsRecordPair opened.prefix opened.schema pair → ⊥
  bad_form pair inside small none is =
      let key_is : pair.0 ≡ record_key opened.prefix (primary_key is.stored) = is.key in
      let here : contains (type_range opened.prefix type.number) (record_key opened.prefix (primary_key is.stored)) ≡ true = ap (contains (type_range opened.prefix type.number)) (sym key_is) ∙ inside in
      let number : (is.stored.definition.number == type.number) ≡ true = sym (in_type_range opened.prefix is.stored.definition.number type.number (items_of (key_cells is.stored)) is.storable.key small) ∙ here in
      let put = stored_as opened.schema type pair.1 is.stored lawful own is.typed is.storable (eqb-true is.stored.definition.number type.number number) (record { first = is.first; fills = is.fills; is = is.value }) in
      none is.stored (record {
        rest = spelling (primary_key is.stored);
        behind = key_is ∙ sym (record_key_is opened.prefix (primary_key is.stored));
        is = put;
      })

  -- nor is it that of a total
  pub bad_written : (pair : Pair) → contains (type_range opened.prefix type.number) pair.0 ≡ true → type.number < 2 ^ 64 → ((r : Record) → IsPairOf (place opened.prefix 1) type pair r → ⊥) → IsWritten opened.prefix opened.schema pair → ⊥
  bad_written pair inside small none (inl is) = bad_form pair inside small none is
  bad_written pair inside small none (inr is) =
      let q = records_prefix opened.prefix type.number in
      no_other_pair opened.prefix (item.int (pos type.number) ∷ []) opened.schema.indexes pair
      (under q [] (255 ∷ []) pair.0 (ap (λ b. contains (record { begin = b; end = q ++ 255 ∷ [] }) pair.0) (append-nil q) ∙ inside)) is

  -- records that stand for the same pairs are the same
  pub same_records : (value : Record → List ℕ) (records others : List Record) (pairs : List Pair) → ArePairsOfRecords (place opened.prefix 1) type pairs records → pairs ≡ map (pair_with opened.prefix value) others →
      AllByRecursion (λ (r : Record). IsOfSchema opened.schema r × IsStorable r × (r.definition.number ≡ type.number)) others → AllByRecursion (λ (r : Record). HasValue (value r) r) others → records ≡ others
  same_records value [] [] pairs good is all have = refl
  same_records value [] (s ∷ others) [] good is all have = absurd (cc)
  same_records value [] (s ∷ others) (pair ∷ pairs) good is all have = absurd good
  same_records value (r ∷ records) others [] good is all have = absurd good
  same_records value (r ∷ records) [] (pair ∷ pairs) good is all have = absurd (cc)
  same_records value (r ∷ records) (s ∷ others) (pair ∷ pairs) good is all have =
      let first : pair ≡ pair_with opened.prefix value s = cc in
      let rest : pairs ≡ map (pair_with opened.prefix value) others = cc in
      let put = stored_as opened.schema type (value s) s lawful own all.0.0 all.0.1 all.0.2 have.0 in
      let keys : spelling (primary_key r) ≡ spelling (primary_key s) =
      key_bytes opened.prefix (primary_key r) (primary_key s) (sym (pair_key pair r good.0) ∙ ap (λ (p : Pair). p.0) first) in
      let mine = good.0.is in
      let one = stored_once type (spelling (primary_key r)) (value s) r s
      (record { made = mine.made; cells = mine.cells; has_key = refl; stored = mine.stored; fills = mine.fills; has_value = sym (ap (λ (p : Pair). p.1) first) ∙ mine.has_value })
      (record { made = put.made; cells = put.cells; has_key = keys; stored = put.stored; fills = put.fills; has_value = put.has_value }) in
      λ i. one i ∷ same_records value records others pairs good.1 rest all.1 have.1 i

  -- the records of the type are of the schema
  pub of_type_good : (records : List Record) → AllByRecursion (IsOfSchema opened.schema) records → AllByRecursion IsStorable records →
      AllByRecursion (λ (r : Record). IsOfSchema opened.schema r × IsStorable r × (r.definition.number ≡ type.number)) (of_type type.number records)
  of_type_good [] typed can = tt
  of_type_good (r ∷ records) typed can = by_test (r.definition.number == type.number) refl (of_type_good records typed.1 can.1)
    where
      by_test : (b : Bool) → (r.definition.number == type.number) ≡ b → AllByRecursion (λ (s : Record). IsOfSchema opened.schema s × IsStorable s × (s.definition.number ≡ type.number)) (of_type type.number records) →
          AllByRecursion (λ (s : Record). IsOfSchema opened.schema s × IsStorable s × (s.definition.number ≡ type.number)) (cond b (r ∷ of_type type.number records) (of_type type.number records))
      by_test true is rest = ((typed.0, can.0, eqb-true r.definition.number type.number is), rest)
      by_test false is rest = rest

  -- ---- what was read

  pub small : type.number < 2 ^ 64
  small = number_small opened.schema type lawful own

  abbrev here : KeyRange
  here = type_range opened.prefix type.number

  -- FOUND: of the pairs of the type the first ones were read, up to a limit, and the rows are the first records
  rows_there : (m : Map) (limit : ℕ) (pairs : List Pair) (rows : List Record) → pairs ≡ take limit (pairs_in m here) → ArePairsOfRecords (place opened.prefix 1) type pairs rows →
      AllByRecursion (IsWritten opened.prefix opened.schema) pairs × AtStore opened m (λ store. rows ≡ take limit (of_type type.number store.records))
  rows_there m limit pairs rows is good = (
    good_form pairs rows good,
    λ store holds same.
        let all = of_type_good store.records (subst (λ s. AllByRecursion (IsOfSchema s) store.records) same.schema holds.lawful.typed) holds.lawful.storable in
        same_records (value_in opened.prefix m) rows (take limit (of_type type.number store.records)) pairs good
        (is ∙ ap (take limit) (type_held opened.prefix m store type.number small holds) ∙ take-map (pair_with opened.prefix (value_in opened.prefix m)) limit (of_type type.number store.records))
        (All-take (λ (r : Record). IsOfSchema opened.schema r × IsStorable r × (r.definition.number ≡ type.number)) limit (of_type type.number store.records) all)
        (All-take (λ (r : Record). HasValue (value_in opened.prefix m r) r) limit (of_type type.number store.records)
        (all_filter (λ (r : Record). HasValue (value_in opened.prefix m r) r) (λ r. r.definition.number == type.number) store.records (have_values opened.prefix m store.records holds.records.each))),
  )

  -- NOT FOUND: one of the pairs is that of no record
  bad_inside : (m : Map) (limit : ℕ) (before behind : List Pair) (bad : Pair) → take limit (pairs_in m here) ≡ before ++ bad ∷ behind → contains here bad.0 ≡ true
  bad_inside m limit before behind bad split =
      in_middle before (subst (AllByRecursion (λ (e : Pair). contains here e.0 ≡ true)) split (All-take (λ (e : Pair). contains here e.0 ≡ true) limit (pairs_in m here) (pairs_lie opened.prefix m here)))
    where
      in_middle : (before : List Pair) → AllByRecursion (λ (e : Pair). contains here e.0 ≡ true) (before ++ bad ∷ behind) → contains here bad.0 ≡ true
      in_middle [] all = all.0
      in_middle (pair ∷ before) all = in_middle before all.1

  unread_there : (refuses : KeyRange → ReadError → Type 0) (reading : Reading) (added : List KeyRange) (m : Map) (limit : ℕ) (pairs : List Pair) (error : StoreError) → reading.set ≡ None → pairs ≡ take limit (pairs_in m here) → added ≡ reading.added m → reading.pairs m ≡ pairs →
      HaveNoRecords (place opened.prefix 1) type pairs error → IsUnread refuses opened reading error added m
  unread_there refuses reading added m limit pairs error none is all read (inl memory) = subst (λ e. IsUnread refuses opened reading e added m) (sym memory) (subst (IsBeginning added) all (all_begin added))
  unread_there refuses reading added m limit pairs error none is all read (inr among) = by_error error among.none
    where
      first : (key : List ℕ) → IsPairOfNone (place opened.prefix 1) type among.bad (Corrupt key) → IsFirstBad (IsWritten opened.prefix opened.schema) (reading.pairs m) key
      first key says = record {
        before = among.before;
        bad = among.bad;
        behind = among.behind;
        split = read ∙ among.split;
        good = good_form among.before among.records among.good;
        malformed = bad_written among.bad (bad_inside m limit among.before among.behind among.bad (sym is ∙ among.split)) small says.1;
        at = says.0;
      }

      all_good : (store : Store) → Holds opened.prefix m (Some store) → IsOpenAs opened store → AllByRecursion (IsWritten opened.prefix opened.schema) (reading.pairs m)
      all_good store holds same =
          subst (AllByRecursion (IsWritten opened.prefix opened.schema)) (sym (read ∙ is))
          (all_written opened.prefix opened.schema (take limit (pairs_in m here)) (All-take (IsRecordPair opened.prefix opened.schema) limit (pairs_in m here) (subst (λ s. AllByRecursion (IsRecordPair opened.prefix s) (pairs_in m here)) same.schema (type_form opened.prefix m store holds type.number small))))

      by_error : (e : StoreError) → IsPairOfNone (place opened.prefix 1) type among.bad e → IsUnread refuses opened reading e added m
      by_error Memory says = subst (IsBeginning added) all (all_begin added)
      by_error (Read reason) says = absurd says
      by_error (Write reason) says = absurd says
      by_error (Refused refusal) says = absurd says
      by_error NoStore says = absurd says
      by_error AlreadyThere says = absurd says
      by_error OtherSchema says = absurd says
      by_error NotAggregate says = absurd says
      by_error NotReadable says = absurd says
      by_error WrongState says = absurd says
      by_error NotBuilt says = absurd says
      by_error (Corrupt key) says = (all, subst (λ set. AreDamaged opened set (reading.pairs m) key m) (sym none) (first key says), λ store holds same. none_bad (reading.pairs m) key (all_good store holds same) (first key says))

  -- ---- all of them

  read_pairs : (m : Map) → read_in m (here ∷ []) ≡ pairs_in m here
  read_pairs m = append-nil (pairs_in m here)

  -- where all pairs are read, up to a limit there are no others
  whole_pairs : (m : Map) (pairs : List Pair) → pairs ≡ pairs_in m here → pairs ≡ take (length pairs) (pairs_in m here)
  whole_pairs m pairs is = sym (take-length pairs) ∙ ap (take (length pairs)) is

  whole_rows : (m : Map) (pairs : List Pair) (rows : List Record) → pairs ≡ pairs_in m here → ArePairsOfRecords (place opened.prefix 1) type pairs rows → AtStore opened m (λ store. rows ≡ of_type type.number store.records)
  whole_rows m pairs rows is good store holds same =
      let all = of_type type.number store.records in
      let many : length all ≡ length pairs = sym (length-map all (pair_with opened.prefix (value_in opened.prefix m))) ∙ ap length (sym (is ∙ type_held opened.prefix m store type.number small holds)) in
      (rows_there m (length pairs) pairs rows (whole_pairs m pairs is) good).1 store holds same ∙ ap (λ n. take n all) (sym many) ∙ take-length all

  pub rows_read : {maps : ℕ → Map} {old new : CommitRequest} (range : KeyRange) (pairs : List Pair) (records_place : List ℕ) (rows : List Record) → range ≡ here → records_place ≡ place opened.prefix 1 →
      new ≡ has_read range old → ((m : Map) → Agree new.reads (maps old.read_version) m → pairs ≡ pairs_in (seen old m) range) → ArePairsOfRecords records_place type pairs rows →
      DidRead maps (here ∷ []) old new (λ m. AllByRecursion (IsWritten opened.prefix opened.schema) (read_in m (here ∷ [])) × AtStore opened m (λ store. rows ≡ of_type type.number store.records))
  rows_read {old = old} range pairs records_place rows is at read answer found =
      ran_added (ap (λ r. r ∷ []) is)
      (ran_read range read (λ m agree.
      let all : pairs ≡ pairs_in (seen old m) here = answer m agree ∙ ap (pairs_in (seen old m)) is in
      let good = subst (λ p. ArePairsOfRecords p type pairs rows) at found in
      (subst (AllByRecursion (IsWritten opened.prefix opened.schema)) (all ∙ sym (read_pairs (seen old m))) (good_form pairs rows good), whole_rows (seen old m) pairs rows all good)))

  pub rows_unread : {maps : ℕ → Map} {refuses : KeyRange → ℕ → ReadError → Type 0} {old new : CommitRequest} (range : KeyRange) (pairs : List Pair) (records_place : List ℕ) (error : StoreError) → range ≡ here → records_place ≡ place opened.prefix 1 →
      new ≡ has_read range old → ((m : Map) → Agree new.reads (maps old.read_version) m → pairs ≡ pairs_in (seen old m) range) → HaveNoRecords records_place type pairs error →
      HasNotFound maps refuses opened (whole (here ∷ [])) error old new
  rows_unread {refuses = refuses} {old = old} range pairs records_place error is at read answer none = record {
    added = here ∷ [];
    ran =
        ran_added (ap (λ r. r ∷ []) is)
        (ran_read range read (λ m agree.
        let all : pairs ≡ pairs_in (seen old m) here = answer m agree ∙ ap (pairs_in (seen old m)) is in
        unread_there (λ r. refuses r old.read_version) (whole (here ∷ [])) (here ∷ []) (seen old m) (length pairs) pairs error refl (whole_pairs (seen old m) pairs all) refl (read_pairs (seen old m) ∙ sym all)
        (subst (λ p. HaveNoRecords p type pairs error) at none)));
  }

  -- ---- the first one

  -- a new index over the first record is as one over all
  state_first : (records : List Record) → new_state (take 1 records) ≡ new_state records
  state_first [] = refl
  state_first (r ∷ records) = refl

  -- the range that is added is that of the first pair
  first_added : (m : Map) (range : KeyRange) (pairs : List Pair) → range ≡ here → pairs ≡ read_of m range 1 false → range_read range 1 false pairs ≡ range_read here 1 false (read_of m here 1 false)
  first_added m range pairs is read = ap (range_read range 1 false) read ∙ ap (λ r. range_read r 1 false (read_of m r 1 false)) is

  pub state_read : {maps : ℕ → Map} {old new : CommitRequest} (range : KeyRange) (pairs : List Pair) (records_place : List ℕ) (rows : List Record) → range ≡ here → records_place ≡ place opened.prefix 1 →
      new ≡ has_read (range_read range 1 false pairs) old → ((m : Map) → Agree new.reads (maps old.read_version) m → pairs ≡ read_of (seen old m) range 1 false) → ArePairsOfRecords records_place type pairs rows →
      HasRead maps opened type.number (new_state rows) old new
  state_read {old = old} range pairs records_place rows is at read answer found = record {
    added = range_read range 1 false pairs;
    ran = ran_read (range_read range 1 false pairs) read (λ m agree.
        let some : pairs ≡ take 1 (pairs_in (seen old m) here) = answer m agree ∙ ap (λ r. take 1 (pairs_in (seen old m) r)) is in
        let there = rows_there (seen old m) 1 pairs rows some (subst (λ p. ArePairsOfRecords p type pairs rows) at found) in (
          first_added (seen old m) range pairs is (answer m agree),
          subst (AllByRecursion (IsWritten opened.prefix opened.schema)) some there.0,
          λ store holds same. ap new_state (there.1 store holds same) ∙ state_first (of_type type.number store.records),
        ));
  }

  pub state_unread : {maps : ℕ → Map} {refuses : KeyRange → ℕ → ReadError → Type 0} {old new : CommitRequest} (range : KeyRange) (pairs : List Pair) (records_place : List ℕ) (error : StoreError) → range ≡ here → records_place ≡ place opened.prefix 1 →
      new ≡ has_read (range_read range 1 false pairs) old → ((m : Map) → Agree new.reads (maps old.read_version) m → pairs ≡ read_of (seen old m) range 1 false) → HaveNoRecords records_place type pairs error →
      HasNotFound maps refuses opened (first_of here) error old new
  state_unread {refuses = refuses} {old = old} range pairs records_place error is at read answer none = record {
    added = range_read range 1 false pairs ∷ [];
    ran = ran_read (range_read range 1 false pairs) read (λ m agree.
        let some : pairs ≡ take 1 (pairs_in (seen old m) here) = answer m agree ∙ ap (λ r. take 1 (pairs_in (seen old m) r)) is in
        unread_there (λ r. refuses r old.read_version) (first_of here) (range_read range 1 false pairs ∷ []) (seen old m) 1 pairs error refl some (ap (λ r. r ∷ []) (first_added (seen old m) range pairs is (answer m agree))) (sym some)
        (subst (λ p. HaveNoRecords p type pairs error) at none));
  }

-- ---- one pair

-- where behind the place stand a key and a value of no record, the pair is that of none
pub no_pair : (records_place : List ℕ) (type : TypeDefinition) (pair : Pair) (slice rest value : List ℕ) (found : Option Record) → slice ≡ pair.0 → slice ≡ records_place ++ rest → value ≡ pair.1 →
    IfNone found (IsOfNoRecord type rest value) → found ≡ None → (stored : Record) → IsPairOf records_place type pair stored → ⊥
no_pair records_place type pair slice rest value None at behind same none is stored pair_of =
    let rests : rest ≡ pair_of.rest = append_cancel_left records_place rest pair_of.rest (sym behind ∙ at ∙ pair_of.behind) in
    none stored (record { made = pair_of.is.made; cells = pair_of.is.cells; has_key = rests ∙ pair_of.is.has_key; stored = pair_of.is.stored; fills = pair_of.is.fills; has_value = same ∙ pair_of.is.has_value })
no_pair records_place type pair slice rest value (Some r) at behind same none is stored pair_of = absurd (cc)

-- among pairs one that is that of none
pub bad_among : (records_place : List ℕ) (type : TypeDefinition) (pairs : List Pair) (i : ℕ) (pair : Pair) (records : List Record) (error : StoreError) → i < length pairs → pair ≡ get_or pairs i pair →
    ArePairsOfRecords records_place type (take i pairs) records → IsPairOfNone records_place type pair error → HaveNoRecords records_place type pairs error
bad_among records_place type pairs i pair records error within is good none =
    inr (record { before = take i pairs; bad = pair; behind = drop (suc i) pairs; records = records; split = split_at i pairs pair within is; good = good; none = none })
