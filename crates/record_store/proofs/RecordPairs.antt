-- Pairs that stand for records: what a map that holds a store has at a record's key and in a type's range, and which pairs are of the written form.
use Rattle.std.proofs.Common.{◌≡◌, ◌⊎◌, inl, inr, ℕ, Bool, true, false, cond, ◌==◌, ◌<◌, ◌^◌, List, [], ◌∷◌, ◌++◌, refl, sym, ap, subst, ◌∙◌, Option, Some, None, Ok, Err, map, pos}
use Rattle.std.specs.Prelude.{filter, unwrap_or}
use Rattle.std.specs.List.{AllByRecursion}
use Rattle.std.specs.List.Sorted.{IsStrictlySortedBy}
use Rattle.std.specs.Option.{option_map}
use Rattle.std.specs.Ordering.{is_eq}
use Rattle.std.specs.FinMap.{get}
use Rattle.std.proofs.lemmas.List.{append_cancel_left}
use Rattle.tuple_codec.specs.Item.{Item, IsTuple}
use Rattle.tuple_codec.specs.Item as item
use Rattle.tuple_codec.specs.Order.{tuple_cmp}
use Rattle.tuple_codec.specs.Spelling.{int_spelling, spelling, Spells}
use Rattle.tuple_codec.specs.Subspace.{BeginsWith, subspace_key}
use Rattle.tuple_codec.proofs.Spellings.{one_tuple, spelling_spells}
use Rattle.tuple_codec.proofs.TupleOrder.{tuple_order}
use Rattle.kv_core.specs.Bytes.{key_cmp}
use Rattle.kv_core.specs.Map.{Map, pairs_in}
use Rattle.kv_core.specs.Range.{contains, point}
use Rattle.kv_core.proofs.Changes.{pairs_in-same}
use Rattle.kv_core.proofs.Order.{contains-point, tied_keys}
use Rattle.kv_core.proofs.Pairs.{contains-point-is}
use Rattle.kv_core.proofs.Stored.{stored, get-stored, pairs_in-stored}
use Rattle.metadata.specs.declared.cells.Cell.{Cell}
use Rattle.metadata.specs.declared.definition.TypeDefinition.{TypeDefinition}
use Rattle.metadata.specs.declared.index.IndexDefinition.{IndexDefinition}
use Rattle.metadata.specs.Cell.{items_of}
use Rattle.metadata.specs.Lawful.{IsLawfulSchema}
use Rattle.metadata.specs.Record.{Record, key_items, primary_key, record_in, record_of}
use Rattle.metadata.specs.Records.{IsStorable, has_primary_key, record_at}
use Rattle.metadata.specs.Schema.{Schema, find_type, type_at}
use Rattle.metadata.specs.Stored.{IsOfNoRecord, IsStoredAs, IsTypeOf, filled}
use Rattle.metadata.proofs.StoredApart.{named_typed, storable}
use Rattle.metadata.proofs.StoredOnce.{made_is, stored_once}
use Rattle.record_store.specs.Store.{Store}
use Rattle.record_store.specs.Layout.{built_place, record_key, record_value, type_range}
use Rattle.record_store.specs.Holds.{HasRecord, Holds, IsOfSchema}
use Rattle.record_store.specs.Form.{IsFirstBad, IsRangePair, IsRecordPair, IsTotalPair, IsWritten}
use Rattle.record_store.proofs.Held.{pair_with, type_held, value_held, value_in}
use Rattle.record_store.proofs.Kept.{not_entry, not_range}
use Rattle.metadata.specs.declared.refusal.Refusal.TheVariants.{UnknownType}
use Rattle.index_maint.proofs.RecordLists.{all_filter}

abbrev Pair : Type 0
Pair = List ℕ × List ℕ

-- ---- the pairs at one key

one_rises : (pair : Pair) → IsStrictlySortedBy key_cmp (pair.0 ∷ [])
unfolding IsStrictlySortedBy
one_rises pair = (tt, tt)

none_rise : IsStrictlySortedBy key_cmp []
unfolding IsStrictlySortedBy
none_rise = tt

-- the pair at a key, if there is one
abbrev pub at_key : List ℕ → Option (List ℕ) → List Pair
at_key key None = []
at_key key (Some value) = (key, value) ∷ []

pub pairs_at : (m : Map) (key : List ℕ) (value : Option (List ℕ)) → get m key ≡ value → pairs_in m (point key) ≡ at_key key value
pairs_at m key None is =
    pairs_in-same m (stored []) (point key) (λ q h. ap (get m) (sym (at q h)) ∙ is ∙ sym (get-stored [] q)) ∙ pairs_in-stored [] (point key) none_rise
  where
    at : (q : List ℕ) → contains (point key) q ≡ true → key ≡ q
    at q h = tied_keys key q (sym (contains-point-is key q) ∙ h)
pairs_at m key (Some value) is =
    pairs_in-same m (stored ((key, value) ∷ [])) (point key) (λ q h. ap (get m) (sym (at q h)) ∙ is ∙ sym (get-stored ((key, value) ∷ []) q ∙ ap (λ b. cond b (Some value) None) (tied q h)))
    ∙ pairs_in-stored ((key, value) ∷ []) (point key) (one_rises (key, value))
    ∙ ap (λ b. cond b ((key, value) ∷ []) []) (contains-point key)
  where
    at : (q : List ℕ) → contains (point key) q ≡ true → key ≡ q
    at q h = tied_keys key q (sym (contains-point-is key q) ∙ h)

    tied : (q : List ℕ) → contains (point key) q ≡ true → is_eq (key_cmp q key) ≡ true
    tied q h = ap (λ k. is_eq (key_cmp k key)) (sym (at q h)) ∙ sym (contains-point-is key key) ∙ contains-point key

-- ---- the written form of places

-- the pairs of records are of the written form
pub all_written : (prefix : List ℕ) (schema : Schema) (pairs : List Pair) → AllByRecursion (IsRecordPair prefix schema) pairs → AllByRecursion (IsWritten prefix schema) pairs
all_written prefix schema [] all = tt
all_written prefix schema (pair ∷ pairs) all = (inl all.0, all_written prefix schema pairs all.1)

-- a pair in the place of records isn't that of a total, nor that of a built range
pub no_other_pair : (prefix : List ℕ) (ns : List Item) (indexes : List IndexDefinition) (pair : Pair) → BeginsWith (subspace_key prefix (item.int (pos 1) ∷ ns)) pair.0 → IsTotalPair prefix indexes pair ⊎ IsRangePair prefix indexes pair → ⊥
no_other_pair prefix ns indexes pair begins (inl total) = not_entry prefix total.index.number 1 ns pair.0 refl begins (spelling (items_of total.group), total.key)
no_other_pair prefix ns indexes pair begins (inr one) =
    not_range prefix one.index.number 1 ns pair.0 refl begins (subst (BeginsWith (built_place prefix one.index.number)) (sym (ap (λ (p : Pair). p.0) one.is)) (spelling (item.bytes one.range.begin ∷ []), refl))

-- ---- records of a schema

-- a record of the schema is made by its definition, which is one of the schema's types, and found by its name
pub own_type : (schema : Schema) (r : Record) → IsLawfulSchema schema → IsOfSchema schema r → IsTypeOf schema r.definition × (record_in r.definition r.cells ≡ Ok r) × (find_type schema r.definition.name ≡ Some r.definition)
own_type schema r lawful typed = by_type (find_type schema r.definition.name) refl typed
  where
    by_type : (type : Option TypeDefinition) → find_type schema r.definition.name ≡ type → record_of schema r.definition.name r.cells ≡ Ok r →
        IsTypeOf schema r.definition × (record_in r.definition r.cells ≡ Ok r) × (find_type schema r.definition.name ≡ Some r.definition)
    by_type None is made = cc
    by_type (Some type) is made =
        let inner : record_in type r.cells ≡ Ok r = cc in
        let same : type ≡ r.definition = ap (λ (one : Record). one.definition) (made_is type r.cells r inner) in
        let found : find_type schema r.definition.name ≡ Some r.definition = is ∙ ap Some same in
        (named_typed schema r.definition.name r.definition lawful found, subst (λ t. record_in t r.cells ≡ Ok r) same inner, found)

-- types of the schema with one number are the same
pub one_type : (schema : Schema) (a b : TypeDefinition) → IsTypeOf schema a → IsTypeOf schema b → a.number ≡ b.number → a ≡ b
one_type schema a b first second same =
    let both : ◌≡◌ {A = Option TypeDefinition} (Some a) (Some b) = sym first ∙ ap (type_at schema.types) same ∙ second in cc

-- the number of the type of a record
number_of_key : (r : Record) (number : ℕ) (cells : List Cell) → primary_key r ≡ key_items number cells → r.definition.number ≡ number
number_of_key r number cells same = by (r.definition.number) number _ _ same
  where
    by : (m n : ℕ) (xs ys : List Item) → ◌≡◌ {A = List Item} (item.int (pos m) ∷ xs) (item.int (pos n) ∷ ys) → m ≡ n
    by m n xs ys is = cc

-- the value is the pack of first cells of the record, which the others fill
pub record HasValue (value : List ℕ) (r : Record) : Type 0 where
  pub first : List Cell
  pub fills : filled r.definition first ≡ Some r.cells
  pub is : value ≡ record_value first

-- STORED: a record of the schema whose type has this number is stored as one of that type
pub stored_as : (schema : Schema) (type : TypeDefinition) (value : List ℕ) (r : Record) → IsLawfulSchema schema → IsTypeOf schema type → IsOfSchema schema r → IsStorable r → r.definition.number ≡ type.number → HasValue value r →
    IsStoredAs type (spelling (primary_key r)) value r
stored_as schema type value r lawful typed made can number has =
    let own = own_type schema r lawful made in
    let same : r.definition ≡ type = one_type schema r.definition type own.0 typed number in record {
      made = subst (λ t. record_in t r.cells ≡ Ok r) same own.1;
      cells = can.cells;
      has_key = refl;
      stored = has.first;
      fills = subst (λ t. filled t has.first ≡ Some r.cells) same has.fills;
      has_value = has.is;
    }

-- the other way round: what is stored as a record of the schema's type is a record of the schema, and can be stored
pub of_stored : (schema : Schema) (type : TypeDefinition) (key value : List ℕ) (r : Record) → IsLawfulSchema schema → find_type schema type.name ≡ Some type → IsStoredAs type key value r → IsOfSchema schema r × IsStorable r
of_stored schema type key value r lawful found is =
    let same : type ≡ r.definition = ap (λ (one : Record). one.definition) (made_is type r.cells r is.made) in (
      subst (λ t. record_of schema t.name r.cells ≡ Ok r) same (ap (λ t. elim t [ None ↦ Err UnknownType | Some one ↦ record_in one r.cells ]) found ∙ is.made),
      storable schema type key value r lawful (named_typed schema type.name type lawful found) is,
    )

-- primary keys that tie are the same
pub tied_tuples : (t u : List Item) → IsTuple t → IsTuple u → is_eq (tuple_cmp t u) ≡ true → t ≡ u
tied_tuples t u h k tie =
    let same : spelling t ≡ spelling u = tied_keys (spelling t) (spelling u) (ap is_eq (tuple_order t u h.items k.items) ∙ tie) in
    one_tuple t u (spelling t) (spelling_spells t h.items h.depth) (subst (Spells u) (sym same) (spelling_spells u k.items k.depth))

-- what is found by a primary key has it, and what holds of all holds of it
pub found_at : (P : Record → Type 0) (key : List Item) (records : List Record) (r : Record) → AllByRecursion P records → record_at key records ≡ Some r → P r × (has_primary_key key r ≡ true)
found_at P key [] r all is = cc
found_at P key (one ∷ records) r all is = by_test (has_primary_key key one) refl is (found_at P key records r all.1)
  where
    by_test : (b : Bool) → has_primary_key key one ≡ b → cond b (Some one) (record_at key records) ≡ Some r → (record_at key records ≡ Some r → P r × (has_primary_key key r ≡ true)) → P r × (has_primary_key key r ≡ true)
    by_test true has some go = let same : one ≡ r = cc in subst (λ x. P x × (has_primary_key key x ≡ true)) same (all.0, has)
    by_test false has some go = go some

module _ (prefix : List ℕ) where
  -- the pair of a record that can be stored is of the written form
  pub record_form : (schema : Schema) (value : List ℕ) (r : Record) → IsOfSchema schema r → IsStorable r → HasValue value r → IsRecordPair prefix schema (record_key prefix (primary_key r), value)
  record_form schema value r typed can has = record { stored = r; typed = typed; storable = can; key = refl; first = has.first; fills = has.fills; value = has.is }

  -- what a map has at the key of a record that it has is a value of the record
  pub has_value : (m : Map) (r : Record) → HasRecord prefix m r → HasValue (value_in prefix m r) r
  has_value m r has = record { first = has.stored; fills = has.fills; is = ap (λ o. unwrap_or o []) has.has }

  pub have_values : (m : Map) (records : List Record) → AllByRecursion (HasRecord prefix m) records → AllByRecursion (λ r. HasValue (value_in prefix m r) r) records
  have_values m [] each = tt
  have_values m (r ∷ records) each = (has_value m r each.0, have_values m records each.1)

  -- the pack of the primary key is found in a record's key
  pub key_bytes : (t u : List Item) → record_key prefix t ≡ record_key prefix u → spelling t ≡ spelling u
  key_bytes t u same = append_cancel_left (int_spelling (pos 1)) (spelling t) (spelling u) (append_cancel_left prefix (int_spelling (pos 1) ++ spelling t) (int_spelling (pos 1) ++ spelling u) same)

  -- NO RECORD: a value that is none's at a type's key is in no pair of the written form
  pub no_record_pair : (schema : Schema) (type : TypeDefinition) (cells : List Cell) (value : List ℕ) → IsLawfulSchema schema → IsTypeOf schema type → IsTuple (key_items type.number cells) →
      IsOfNoRecord type (spelling (key_items type.number cells)) value → IsRecordPair prefix schema (record_key prefix (key_items type.number cells), value) → ⊥
  no_record_pair schema type cells value lawful typed t none pair =
      let bytes = key_bytes (key_items type.number cells) (primary_key pair.stored) pair.key in
      let key = one_tuple (primary_key pair.stored) (key_items type.number cells) (spelling (primary_key pair.stored))
      (spelling_spells (primary_key pair.stored) pair.storable.key.items pair.storable.key.depth)
      (subst (Spells (key_items type.number cells)) bytes (spelling_spells (key_items type.number cells) t.items t.depth)) in
      let put = stored_as schema type value pair.stored lawful typed pair.typed pair.storable (number_of_key pair.stored type.number cells key) (record { first = pair.first; fills = pair.fills; is = pair.value }) in
      none pair.stored (record { made = put.made; cells = put.cells; has_key = bytes; stored = put.stored; fills = put.fills; has_value = put.has_value })

  -- ---- at the key of a record

  module _ (m : Map) (store : Store) (holds : Holds prefix m (Some store)) where
    -- what is found there is of the schema, can be stored, and has the primary key
    there : (key : List Item) (r : Record) → IsTuple key → record_at key store.records ≡ Some r → IsOfSchema store.schema r × IsStorable r × (primary_key r ≡ key) × HasValue (value_in prefix m r) r
    there key r t is =
        let typed = found_at (IsOfSchema store.schema) key store.records r holds.lawful.typed is in
        let can = found_at IsStorable key store.records r holds.lawful.storable is in
        (typed.0, can.0, tied_tuples (primary_key r) key can.0.key t typed.1, (found_at (λ (one : Record). HasValue (value_in prefix m one) one) key store.records r (have_values m store.records holds.records.each) is).0)

    -- FORM: the pair at a record's key is of the written form
    pub key_form : (key : List Item) → IsTuple key → AllByRecursion (IsRecordPair prefix store.schema) (pairs_in m (point (record_key prefix key)))
    key_form key t = by_record (record_at key store.records) refl
      where
        by_record : (found : Option Record) → record_at key store.records ≡ found → AllByRecursion (IsRecordPair prefix store.schema) (pairs_in m (point (record_key prefix key)))
        by_record None is = subst (AllByRecursion (IsRecordPair prefix store.schema)) (sym (pairs_at m (record_key prefix key) None (value_held prefix m store key t holds ∙ ap (option_map (value_in prefix m)) is))) tt
        by_record (Some r) is =
            let at = there key r t is in
            subst (AllByRecursion (IsRecordPair prefix store.schema)) (sym (pairs_at m (record_key prefix key) (Some (value_in prefix m r)) (value_held prefix m store key t holds ∙ ap (option_map (value_in prefix m)) is)))
            (subst (λ k. IsRecordPair prefix store.schema (record_key prefix k, value_in prefix m r)) at.2 (record_form store.schema (value_in prefix m r) r at.0 at.1 at.3), tt)

    -- RECORD: what is stored at a record's key is the record that is there
    pub record_there : (type : TypeDefinition) (cells : List Cell) (value : List ℕ) (r : Record) → IsTypeOf store.schema type → IsTuple (key_items type.number cells) →
        get m (record_key prefix (key_items type.number cells)) ≡ Some value → IsStoredAs type (spelling (key_items type.number cells)) value r → Some r ≡ record_at (key_items type.number cells) store.records
    record_there type cells value r typed t found put = by_record (record_at (key_items type.number cells) store.records) refl
      where
        by_record : (there_is : Option Record) → record_at (key_items type.number cells) store.records ≡ there_is → Some r ≡ there_is
        by_record None is =
            let no : ◌≡◌ {A = Option (List ℕ)} (Some value) None = sym found ∙ value_held prefix m store (key_items type.number cells) t holds ∙ ap (option_map (value_in prefix m)) is in absurd (cc)
        by_record (Some s) is =
            let both : ◌≡◌ {A = Option (List ℕ)} (Some value) (Some (value_in prefix m s)) = sym found ∙ value_held prefix m store (key_items type.number cells) t holds ∙ ap (option_map (value_in prefix m)) is in
            let at = there (key_items type.number cells) s t is in
            let other = stored_as store.schema type (value_in prefix m s) s holds.lawful.schema typed at.0 at.1 (number_of_key s type.number cells at.2) at.3 in
            let same : value ≡ value_in prefix m s = cc in
            ap Some (stored_once type (spelling (key_items type.number cells)) value r s put (record { made = other.made; cells = other.cells; has_key = ap spelling (sym at.2); stored = other.stored; fills = other.fills; has_value = same ∙ other.has_value }))

    pub none_there : (key : List Item) → IsTuple key → get m (record_key prefix key) ≡ None → None ≡ record_at key store.records
    none_there key t found = by_record (record_at key store.records) refl
      where
        by_record : (there_is : Option Record) → record_at key store.records ≡ there_is → None ≡ there_is
        by_record None is = refl
        by_record (Some s) is =
            let both : ◌≡◌ {A = Option (List ℕ)} None (Some (value_in prefix m s)) = sym found ∙ value_held prefix m store key t holds ∙ ap (option_map (value_in prefix m)) is in absurd (cc)

    -- ---- in the range of a type

    all_form : (records : List Record) → AllByRecursion (IsOfSchema store.schema) records → AllByRecursion IsStorable records → AllByRecursion (λ r. HasValue (value_in prefix m r) r) records →
        AllByRecursion (IsRecordPair prefix store.schema) (map (pair_with prefix (value_in prefix m)) records)
    all_form [] typed can have = tt
    all_form (r ∷ records) typed can have = (record_form store.schema (value_in prefix m r) r typed.0 can.0 have.0, all_form records typed.1 can.1 have.1)

    -- what holds of all records holds of those that a test picks, whose pairs are of the written form
    pub some_form : (test : Record → Bool) → AllByRecursion (IsRecordPair prefix store.schema) (map (pair_with prefix (value_in prefix m)) (filter test store.records))
    some_form test =
        all_form (filter test store.records) (all_filter (IsOfSchema store.schema) test store.records holds.lawful.typed) (all_filter IsStorable test store.records holds.lawful.storable)
        (all_filter (λ r. HasValue (value_in prefix m r) r) test store.records (have_values m store.records holds.records.each))

    pub type_form : (n : ℕ) → n < 2 ^ 64 → AllByRecursion (IsRecordPair prefix store.schema) (pairs_in m (type_range prefix n))
    type_form n hn = subst (AllByRecursion (IsRecordPair prefix store.schema)) (sym (type_held prefix m store n hn holds)) (some_form (λ r. r.definition.number == n))

-- DAMAGE: where all pairs are of the form, none is the first that isn't
pub none_bad : {Form : Pair → Type 0} (pairs : List Pair) (key : List ℕ) → AllByRecursion Form pairs → IsFirstBad Form pairs key → ⊥
none_bad {Form = Form} pairs key all bad = bad.malformed (in_middle bad.before (subst (AllByRecursion Form) bad.split all))
  where
    in_middle : (before : List Pair) → AllByRecursion Form (before ++ bad.bad ∷ bad.behind) → Form bad.bad
    in_middle [] all = all.0
    in_middle (pair ∷ before) all = in_middle before all.1
