-- What a map that holds a store answers.
use Rattle.std.proofs.Common.{◌≡◌, ℕ, Bool, true, false, not, ◌&&◌, cond, ◌==◌, ◌<◌, ◌^◌, List, [], ◌∷◌, ◌++◌, append_assoc, refl, sym, ap, subst, ◌∙◌, Some, None, IsTrue, map, pos}
use Rattle.std.specs.Prelude.{unwrap_or}
use Rattle.std.specs.declared.cmp.Ordering.{Ordering}
use Rattle.std.specs.declared.cmp.Ordering.TheVariants.{Less, Equal, Greater}
use Rattle.std.specs.List.{AllByRecursion}
use Rattle.std.specs.List.Sorted.{IsStrictlySortedBy}
use Rattle.std.specs.Map.{keys_of, lookup}
use Rattle.std.specs.BTreeMap.{is_at}
use Rattle.std.specs.Option.{option_map}
use Rattle.std.specs.Ordering.{is_lt, is_eq, nat_cmp, ordering_then, ordering_reverse}
use Rattle.std.specs.FinMap.{get, nat_cmp-IsAntisymmetric}
use Rattle.std.proofs.lemmas.Bool.{and_parts, not-true, true≢false}
use Rattle.std.proofs.lemmas.Cmp.{nat_list_cmp_total, tied_itself}
use Rattle.tuple_codec.specs.Item.{Item, IsTuple, int}
use Rattle.tuple_codec.specs.Order.{tuple_cmp}
use Rattle.tuple_codec.specs.Spelling.{int_spelling, spelling}
use Rattle.tuple_codec.proofs.Prefixes.{cmp_behind}
use Rattle.kv_core.specs.Bytes.{key_cmp, key_le, key_lt}
use Rattle.kv_core.specs.Map.{Map, pairs_in}
use Rattle.kv_core.specs.Range.{KeyRange, contains, entries_in}
use Rattle.kv_core.proofs.Changes.{pairs_in-same}
use Rattle.kv_core.proofs.Order.{tied_keys}
use Rattle.kv_core.proofs.Stored.{stored, get-stored, pairs_in-stored}
use Rattle.metadata.specs.Record.{Record, primary_key, key_cells}
use Rattle.metadata.specs.Records.{AreOrdered, IsStorable, has_primary_key, of_type, record_at}
use Rattle.metadata.specs.Cell.{items_of}
use Rattle.metadata.specs.Written.{schema_bytes}
use Rattle.record_store.specs.Store.{Store}
use Rattle.record_store.specs.Layout.{place, record_key, schema_key, states_range, type_range}
use Rattle.record_store.specs.Holds.{HasPairs, HasRecord, Holds, IsNoRecord}
use Rattle.record_store.proofs.Keys.{in_type_range, key_order, record_key_is, states_end_is}

-- ---- keys under a prefix

-- what lies between two byte strings that begin alike begins so too
between : (p a b k : List ℕ) → key_lt k (p ++ a) ≡ false → key_lt k (p ++ b) ≡ true → (rest : List ℕ) × (k ≡ p ++ rest)
between [] a b k low high = (k, refl)
between (x ∷ p) a b [] low high = cc
between (x ∷ p) a b (y ∷ k) low high = by_order (nat_cmp y x) refl low high (between p a b k)
  where
    by_order : (o : Ordering) → nat_cmp y x ≡ o → is_lt (ordering_then o (key_cmp k (p ++ a))) ≡ false → is_lt (ordering_then o (key_cmp k (p ++ b))) ≡ true →
        (key_lt k (p ++ a) ≡ false → key_lt k (p ++ b) ≡ true → (rest : List ℕ) × (k ≡ p ++ rest)) → (rest : List ℕ) × (y ∷ k ≡ x ∷ (p ++ rest))
    by_order Less is low high go = cc
    by_order Equal is low high go = let tail = go low high in (tail.0, (λ i. nat_cmp-IsAntisymmetric y x is i ∷ tail.1 i))
    by_order Greater is low high go = cc

-- so does each key of a range between two such
pub under : (p a b : List ℕ) (k : List ℕ) → contains (record { begin = p ++ a; end = p ++ b }) k ≡ true → (rest : List ℕ) × (k ≡ p ++ rest)
under p a b k h =
    let parts = and_parts (key_le (p ++ a) k) (key_lt k (p ++ b)) h in
    between p a b k (not-true (key_lt k (p ++ a)) parts.0) parts.1

-- the pack of a record's key
abbrev pub id : List ℕ → Record → List ℕ
id prefix r = record_key prefix (primary_key r)

-- the pair of a record's key with a value, and the value that a map has at that key
abbrev pub pair_with : List ℕ → (Record → List ℕ) → Record → List ℕ × List ℕ
pair_with prefix value r = (id prefix r, value r)

abbrev pub value_in : List ℕ → Map → Record → List ℕ
value_in prefix m r = unwrap_or (get m (id prefix r)) []

nothing_rises : IsStrictlySortedBy key_cmp []
unfolding IsStrictlySortedBy
nothing_rises = tt

-- what the keys of a type's records begin with, behind the place of records
abbrev pub type_begin : ℕ → List ℕ
type_begin n = spelling (int (pos n) ∷ [])

module _ (prefix : List ℕ) where
  -- ---- look-ups

  pub id_order : (r s : Record) → IsStorable r → IsStorable s → key_cmp (id prefix r) (id prefix s) ≡ tuple_cmp (primary_key r) (primary_key s)
  id_order r s h k = key_order prefix (primary_key r) (primary_key s) h.key k.key

  -- a key ties with a record's key exactly where the record has the primary key
  pub tie : (key : List Item) (r : Record) → IsTuple key → IsStorable r → is_eq (key_cmp (record_key prefix key) (id prefix r)) ≡ has_primary_key key r
  tie key r t s =
      ap is_eq (nat_list_cmp_total.antisymm (record_key prefix key) (id prefix r)) ∙ reversed (key_cmp (id prefix r) (record_key prefix key))
      ∙ ap is_eq (key_order prefix (primary_key r) key s.key t)
    where
      reversed : (o : Ordering) → is_eq (ordering_reverse o) ≡ is_eq o
      reversed Less = refl
      reversed Equal = refl
      reversed Greater = refl

  -- what is found among the pairs of records is the value of the record with the primary key
  looked_up : (value : Record → List ℕ) (key : List Item) (records : List Record) → IsTuple key → AllByRecursion IsStorable records →
      lookup (is_at (key_cmp (record_key prefix key))) (map (pair_with prefix value) records) ≡ option_map value (record_at key records)
  looked_up value key [] t storable = refl
  looked_up value key (r ∷ records) t storable =
      ap (λ b. cond b (Some (value r)) (lookup (is_at (key_cmp (record_key prefix key))) (map (pair_with prefix value) records))) (tie key r t storable.0)
      ∙ by_test (has_primary_key key r) (looked_up value key records t storable.1)
    where
      by_test : (b : Bool) → lookup (is_at (key_cmp (record_key prefix key))) (map (pair_with prefix value) records) ≡ option_map value (record_at key records) →
          cond b (Some (value r)) (lookup (is_at (key_cmp (record_key prefix key))) (map (pair_with prefix value) records)) ≡ option_map value (cond b (Some r) (record_at key records))
      by_test true rest = refl
      by_test false rest = rest

  -- SCHEMA: at the schema's key stands the schema, or nothing
  pub schema_held : (m : Map) (store : Store) → Holds prefix m (Some store) → get m (schema_key prefix) ≡ Some (schema_bytes store.schema)
  schema_held m store holds = holds.schema

  pub no_schema_held : (m : Map) → Holds prefix m None → get m (schema_key prefix) ≡ None
  no_schema_held m holds = holds (spelling (int (pos 0) ∷ []))

  -- a value that is there is that of a record that the map has
  there_is : (m : Map) (r : Record) → HasRecord prefix m r → get m (id prefix r) ≡ Some (value_in prefix m r)
  there_is m r has = has.has ∙ ap (λ o. Some (unwrap_or o [])) (sym has.has)

  -- at the key of one of the records a map has its value, at each other one in their place nothing
  one_of : (m : Map) (at : List ℕ) (records : List Record) → AllByRecursion (HasRecord prefix m) records → (IsNoRecord prefix records at → get m at ≡ None) →
      get m at ≡ lookup (is_at (key_cmp at)) (map (pair_with prefix (value_in prefix m)) records)
  one_of m at [] each none = none tt
  one_of m at (r ∷ records) each none = by_key (is_eq (key_cmp at (id prefix r))) refl (one_of m at records each.1)
    where
      by_key : (b : Bool) → is_eq (key_cmp at (id prefix r)) ≡ b → ((IsNoRecord prefix records at → get m at ≡ None) → get m at ≡ lookup (is_at (key_cmp at)) (map (pair_with prefix (value_in prefix m)) records)) →
          get m at ≡ cond b (Some (value_in prefix m r)) (lookup (is_at (key_cmp at)) (map (pair_with prefix (value_in prefix m)) records))
      by_key true same go = ap (get m) (tied_keys at (id prefix r) same) ∙ there_is m r each.0
      by_key false other go =
          go (λ others. none ((λ same. true≢false (sym (ap (λ k. is_eq (key_cmp k (id prefix r))) same ∙ ap is_eq (tied_itself nat_list_cmp_total (id prefix r))) ∙ other)), others))

  -- RECORDS: in the place of records a map has the pairs of the records with what it has at their keys
  pub pairs_held : (m : Map) (store : Store) → Holds prefix m (Some store) → HasPairs (place prefix 1) (map (pair_with prefix (value_in prefix m)) store.records) m
  pairs_held m store holds bytes =
      one_of m (place prefix 1 ++ bytes) store.records holds.records.each (holds.records.no_others bytes)
      ∙ sym (get-stored (map (pair_with prefix (value_in prefix m)) store.records) (place prefix 1 ++ bytes))

  -- RECORD: at a record's key stands the record's value, or nothing
  pub value_held : (m : Map) (store : Store) (key : List Item) → IsTuple key → Holds prefix m (Some store) →
      get m (record_key prefix key) ≡ option_map (value_in prefix m) (record_at key store.records)
  value_held m store key t holds =
      subst (λ k. get m k ≡ get (stored (map (pair_with prefix (value_in prefix m)) store.records)) k) (record_key_is prefix key) (pairs_held m store holds (spelling key))
      ∙ get-stored (map (pair_with prefix (value_in prefix m)) store.records) (record_key prefix key)
      ∙ looked_up (value_in prefix m) key store.records t holds.lawful.storable

  -- PAIRS: in a range of keys that begin alike a map has those of the pairs that it has at such keys
  pub held_in : (begin : List ℕ) (pairs : List (List ℕ × List ℕ)) (m : Map) (range : KeyRange) (a b : List ℕ) → range ≡ record { begin = begin ++ a; end = begin ++ b } → HasPairs begin pairs m →
      pairs_in m range ≡ pairs_in (stored pairs) range
  held_in begin pairs m range a b is has =
      pairs_in-same m (stored pairs) range
      (λ q h. let at = under begin a b q (ap (λ r. contains r q) (sym is) ∙ h) in subst (λ k. get m k ≡ get (stored pairs) k) (sym at.1) (has at.0))

  -- ---- ranges

  -- the keys of records in order rise
  all_above : (value : Record → List ℕ) (r : Record) (records : List Record) → IsStorable r → AllByRecursion IsStorable records →
      AllByRecursion (λ later. IsTrue (is_lt (tuple_cmp (primary_key r) (primary_key later)))) records →
      AllByRecursion (λ k. key_cmp (id prefix r) k ≡ Less) (keys_of (map (pair_with prefix value) records))
  all_above value r [] s storable all = tt
  all_above value r (later ∷ records) s storable all = (id_order r later s storable.0 ∙ less (tuple_cmp (primary_key r) (primary_key later)) all.0, all_above value r records s storable.1 all.1)
    where
      less : (o : Ordering) → is_lt o ≡ true → o ≡ Less
      less Less h = refl
      less Equal h = cc
      less Greater h = cc

  pub rising : (value : Record → List ℕ) (records : List Record) → AllByRecursion IsStorable records → AreOrdered records → IsStrictlySortedBy key_cmp (keys_of (map (pair_with prefix value) records))
  unfolding IsStrictlySortedBy
  rising value [] storable ordered = tt
  rising value (r ∷ records) storable ordered = (all_above value r records storable.0 storable.1 ordered.0, rising value records storable.1 ordered.1)

  -- no key of a place before 5 is in the range of the states
  not_a_state : (bytes : List ℕ) → key_lt bytes (0x15 ∷ 0x05 ∷ 0 ∷ []) ≡ true → contains (states_range prefix) (prefix ++ bytes) ≡ false
  not_a_state bytes low =
      (λ i. not (key_lt (prefix ++ bytes) (states_end_is prefix 0 i)) && key_lt (prefix ++ bytes) (states_end_is prefix 255 i))
      ∙ ap (λ b. not b && key_lt (prefix ++ bytes) (prefix ++ (0x15 ∷ 0x05 ∷ 255 ∷ []))) (ap is_lt (cmp_behind prefix bytes (0x15 ∷ 0x05 ∷ 0 ∷ [])) ∙ low)

  pub no_schema_state : contains (states_range prefix) (schema_key prefix) ≡ false
  unfolding int_spelling
  no_schema_state = not_a_state (0x14 ∷ []) refl

  in_range : (value : Record → List ℕ) (n : ℕ) (records : List Record) → n < 2 ^ 64 → AllByRecursion IsStorable records →
      entries_in (type_range prefix n) (map (pair_with prefix value) records) ≡ map (pair_with prefix value) (of_type n records)
  in_range value n [] hn storable = refl
  in_range value n (r ∷ records) hn storable =
      ap (λ b. cond b (pair_with prefix value r ∷ entries_in (type_range prefix n) (map (pair_with prefix value) records)) (entries_in (type_range prefix n) (map (pair_with prefix value) records)))
      (in_type_range prefix r.definition.number n (items_of (key_cells r)) storable.0.key hn)
      ∙ by_test (r.definition.number == n) (in_range value n records hn storable.1)
    where
      by_test : (b : Bool) → entries_in (type_range prefix n) (map (pair_with prefix value) records) ≡ map (pair_with prefix value) (of_type n records) →
          cond b (pair_with prefix value r ∷ entries_in (type_range prefix n) (map (pair_with prefix value) records)) (entries_in (type_range prefix n) (map (pair_with prefix value) records))
          ≡ map (pair_with prefix value) (cond b (r ∷ of_type n records) (of_type n records))
      by_test true rest = ap (λ ps. pair_with prefix value r ∷ ps) rest
      by_test false rest = rest

  -- the range of a type, behind the place of records
  pub type_range_is : (n : ℕ) → type_range prefix n ≡ record { begin = place prefix 1 ++ type_begin n; end = place prefix 1 ++ (type_begin n ++ 255 ∷ []) }
  type_range_is n i = record {
    begin = sym (record_key_is prefix (int (pos n) ∷ [])) i;
    end = (ap (λ k. k ++ 255 ∷ []) (sym (record_key_is prefix (int (pos n) ∷ []))) ∙ append_assoc (place prefix 1) (type_begin n) (255 ∷ [])) i;
  }

  -- TYPE: the pairs in the range of a type are those of its records, in order
  pub type_held : (m : Map) (store : Store) (n : ℕ) → n < 2 ^ 64 → Holds prefix m (Some store) →
      pairs_in m (type_range prefix n) ≡ map (pair_with prefix (value_in prefix m)) (of_type n store.records)
  type_held m store n hn holds =
      held_in (place prefix 1) (map (pair_with prefix (value_in prefix m)) store.records) m (type_range prefix n) (type_begin n) (type_begin n ++ 255 ∷ []) (type_range_is n) (pairs_held m store holds)
      ∙ pairs_in-stored (map (pair_with prefix (value_in prefix m)) store.records) (type_range prefix n) (rising (value_in prefix m) store.records holds.lawful.storable holds.lawful.ordered)
      ∙ in_range (value_in prefix m) n store.records hn holds.lawful.storable

  -- STATES: where there is no store there is nothing in the range of the states
  pub no_states : (m : Map) → Holds prefix m None → pairs_in m (states_range prefix) ≡ []
  no_states m holds =
      held_in prefix [] m (states_range prefix) (0x15 ∷ 0x05 ∷ 0 ∷ []) (0x15 ∷ 0x05 ∷ 255 ∷ []) (λ i. record { begin = states_end_is prefix 0 i; end = states_end_is prefix 255 i })
      (λ bytes. holds bytes ∙ sym (get-stored [] (prefix ++ bytes)))
      ∙ pairs_in-stored [] (states_range prefix) nothing_rises
