-- What a map that is exact, a sound type and the codec give a planner: that scans read back the records, and columns go by their names.
use Rattle.std.specs.Prelude.{◌≡◌, ◌≢◌, not, ◌&&◌, take, ℕ, zero, suc, ◌<◌, ◌≤◌, nat_lt, Bool, true, false, cond, List, [], ◌∷◌, ◌++◌, length, map, drop, refl, Option, Some, None, option_and_then, if◌then◌else◌, slice_index_or, All, Any, Contains, bytes_eq, nat_eq, pos}
use Rattle.std.specs.List.{starts_with, position_or_len}
use Rattle.std.specs.Option.{option_map_or}
use Rattle.std.specs.FinMap.Entries.{is_sorted, find, below_all}
use Rattle.std.proofs.Common.{ap, sym, ◌∙◌, subst, arith, append_assoc, inl, inr}
use Rattle.std.proofs.Math.Seq.{drop-append_seam, take-append_seam}
use Rattle.std.proofs.lemmas.Cmp.{tied_itself}
use Rattle.std.proofs.lemmas.Option.{same_Some}
use Rattle.std.proofs.lemmas.List.Sums.{position_or_len_is}
use Rattle.std.specs.Cmp.{first_so, second_so}
use Rattle.std.proofs.lemmas.Slice.Eq.{bytes_eq-Decides}
use Rattle.std.proofs.lemmas.Bool.Decides.{Decides-ltb}
use Rattle.std.proofs.lemmas.List.{get_or-map, length-map, map-append}
use Rattle.std.specs.declared.cmp.Ordering.{Ordering}
use Rattle.std.specs.declared.cmp.Ordering.TheVariants.{Less, Equal, Greater}
use Rattle.std.specs.Ordering.{is_lt, is_eq, ordering_reverse}
use Rattle.std.specs.Cmp.Lexicographic.{nat_list_cmp_total}
use Rattle.metadata.specs.declared.cells.Cell.{Cell}
use Rattle.metadata.specs.declared.cells.Cell.TheVariants.{Null, Int}
use Rattle.metadata.specs.declared.definition.Field.{Field}
use Rattle.metadata.specs.declared.cells.Kind.TheVariants as kind
use Rattle.metadata.specs.declared.index.IndexDefinition.{IndexDefinition}
use Rattle.metadata.specs.Record.{Record, primary_key}
use Rattle.metadata.specs.declared.definition.TypeDefinition.{TypeDefinition}
use Rattle.tuple_codec.specs.Order.{bytes_cmp}
use Rattle.tuple_codec.specs.Spelling.{spelling}
use Rattle.metadata.specs.Cell.{IsCell}
use Rattle.planner.specs.Pack.{pack, pack_cell, unpack}
use Rattle.query.specs.Fields.{cell_named, field_cell}
use Rattle.metadata.specs.Schema.{place_of}
use Rattle.metadata.specs.Entries.{entry_of}
use Rattle.metadata.specs.Layout.{Pair, entries_prefix, entry_pair, record_key, records_prefix}
use Rattle.planner.specs.Layout.{primary_cells, stored_record, entry_primary_key, column_kinds, is_entry}
use Rattle.planner.specs.Layout.{is_primary_key}
use Rattle.metadata.specs.Cell.{all_fit, cell_at, cells_at, is_word, item_of}
use Rattle.planner.proofs.Made.{made_type, made_fits, fit_at}
use Rattle.planner.specs.Match.{name_at}
use Rattle.planner.specs.Meaning.{fetched}
use Rattle.planner.specs.Exact.{IsOf, AreThose, IsExact, own_pair}
use Rattle.planner.proofs.Ranges.{Each}
use Rattle.planner.proofs.Residual.{Member, each_member, each_map, each_append}
use Rattle.planner.proofs.Scans.{Holds, Differ, front_or_later}
use Rattle.planner.proofs.Paths.{IsGoodIndex, IsGoodType, entry_cells}
use Rattle.planner.proofs.Lists.{member_at, member_contained, contains_member, all_each, Pairwise}

-- what is asked of the codec, besides the order of packs: packs of cells are read back
abbrev pub ReadsBack : (Cell → Type 0) → Type 0
ReadsBack IsCell = (cells : List Cell) → Each IsCell cells → unpack (pack cells) ≡ Some cells

-- ---- names and places

text_itself : (a : List ℕ) → bytes_eq a a ≡ true
text_itself a = (bytes_eq-Decides a a).1 refl

-- a test by the bytes of names fails where the names differ
name_apart : (a b : List ℕ) → a ≢ b → bytes_eq a b ≡ false
name_apart a b n = by (bytes_eq a b) refl
  where
    by : (t : Bool) → bytes_eq a b ≡ t → t ≡ false
    by true e = absurd (n ((bytes_eq-Decides a b).0 e))
    by false e = refl

no_field : Field
no_field = record { name = []; kind = kind.Int }

-- the first n fields of the type have different names
pub record AreNamed (t : TypeDefinition) (n : ℕ) : Type 0 where
  pub in_range : n ≤ length t.fields
  pub differ : (i j : ℕ) (d : Field) → i < j → j < n → (slice_index_or t.fields i d).name ≢ (slice_index_or t.fields j d).name

-- a field's name leads back to its place
place_named : (t : TypeDefinition) (n : ℕ) → AreNamed t n → (p : ℕ) → p < n → place_of t.fields (name_at t p) ≡ Some p
place_named t n named p l =
    (λ i. cond (nat_lt (first_is i) (length t.fields)) (Some (first_is i)) None) ∙ ap (λ b. cond b (Some p) None) ((Decides-ltb p (length t.fields)).1 (omega (arith, l, named.in_range)))
  where
    its_name : name_at t p ≡ (slice_index_or t.fields p no_field).name
    its_name = get_or-map (λ f. f.name) t.fields p no_field [] (omega (arith, l, named.in_range))

    first_is : position_or_len (λ f. bytes_eq f.name (name_at t p)) t.fields ≡ p
    first_is = position_or_len_is (λ f. bytes_eq f.name (name_at t p)) t.fields p no_field (omega (arith, l, named.in_range))
        (λ k h. name_apart (slice_index_or t.fields k no_field).name (name_at t p) (λ e. named.differ k p no_field h l (e ∙ its_name)))
        (λ h. ap (bytes_eq (slice_index_or t.fields p no_field).name) its_name ∙ text_itself (slice_index_or t.fields p no_field).name)

-- columns go by their names
pub columns_named : (t : TypeDefinition) (n : ℕ) → AreNamed t n → (r : Record) → r.definition ≡ t → (places : List ℕ) → Each (λ p. p < n) places →
    map (field_cell r) places ≡ map (cell_named r) (map (name_at t) places)
columns_named t n named r same [] e = refl
columns_named t n named r same (p ∷ places) e =
    λ i. sym (ap (λ d. option_map_or (field_cell r) (place_of d.fields (name_at t p)) Null) same ∙ ap (λ o. option_map_or (field_cell r) o Null) (place_named t n named p e.0)) i
    ∷ columns_named t n named r same places e.1 i

-- ---- pairs in order

below_each : (k : List ℕ) (pairs : List Pair) → below_all bytes_cmp k pairs ≡ true → Each (λ q. bytes_cmp k q.0 ≡ Less) pairs
below_each k [] h = tt
below_each k (q ∷ pairs) h = (less (bytes_cmp k q.0) (first_so _ _ h), below_each k pairs (second_so (is_lt (bytes_cmp k q.0)) _ h))
  where
    less : (o : Ordering) → is_lt o ≡ true → o ≡ Less
    less Less e = refl
    less Equal e = cc
    less Greater e = cc

-- the keys of the pairs rise
pub rising : (pairs : List Pair) → is_sorted bytes_cmp pairs ≡ true → Pairwise (λ p q. bytes_cmp p.0 q.0 ≡ Less) pairs
rising [] h = tt
rising (p ∷ pairs) h = (below_each p.0 pairs (first_so _ _ h), rising pairs (second_so (below_all bytes_cmp p.0 pairs) _ h))

not_less : Less ≡ Equal → ⊥
not_less e = cc

pairs_apart : (pairs : List Pair) → Pairwise (λ p q. bytes_cmp p.0 q.0 ≡ Less) pairs → Differ (λ p. p.0) pairs
pairs_apart [] h = tt
pairs_apart (p ∷ pairs) h = (
  each_map (λ q. bytes_cmp p.0 q.0 ≡ Less) (λ q. p.0 ≢ q.0) (λ q e same. not_less (sym e ∙ ap (bytes_cmp p.0) (sym same) ∙ tied_itself nat_list_cmp_total p.0)) pairs h.0,
  pairs_apart pairs h.1,
)

-- a look-up of a pair's key finds its value
pub find_member : (pairs : List Pair) → Pairwise (λ p q. bytes_cmp p.0 q.0 ≡ Less) pairs → (p : Pair) → Member p pairs → find bytes_cmp p.0 pairs ≡ Some p.1
find_member [] h p m = elim m [ ]
find_member (q ∷ pairs) h p m = elim (front_or_later p q pairs m) [
  | inl e ↦ ap (λ t. cond t (Some q.1) (find bytes_cmp p.0 pairs)) (ap is_eq (ap (λ x. bytes_cmp p.0 x.0) (sym e) ∙ tied_itself nat_list_cmp_total p.0)) ∙ ap (λ x. Some x.1) (sym e)
  | inr k ↦
      ap (λ t. cond t (Some q.1) (find bytes_cmp p.0 pairs)) (ap is_eq (nat_list_cmp_total.antisymm p.0 q.0 ∙ ap ordering_reverse (each_member (λ x. bytes_cmp q.0 x.0 ≡ Less) h.0 k)))
      ∙ find_member pairs h.1 p k
]

-- ---- what stands behind a key

pub begins : (key rest : List ℕ) → starts_with nat_eq (key ++ rest) key ≡ true
begins key rest = ap (bytes_eq key) (take-append_seam key rest) ∙ text_itself key

-- the pairs behind a key are those of the records
pub holds_those : {X : Type 0} (key : List ℕ) (pairs : List Pair) (records : List Record) (form : Record → Pair) (rest_of : Record → List ℕ) (read : Pair → Option X) (result : Record → X) →
    Pairwise (λ p q. bytes_cmp p.0 q.0 ≡ Less) pairs → AreThose key form records pairs →
    ((r : Record) → Member r records → (form r).0 ≡ key ++ rest_of r) → ((r : Record) → Member r records → read (form r) ≡ Some (result r)) → Holds key pairs records form rest_of read result
holds_those key pairs records form rest_of read result rises those keys reads = record {
  once = pairs_apart pairs rises;
  has = λ r m. let c : Contains records r = contains_member r records m in member_contained (form r) pairs ((those (form r)).1 (c.0, r, c.1, c.2, refl)).0;
  only = λ p rest m e.
      let a : Any (λ r. p ≡ form r) records = (those p).0 (contains_member p pairs m, ap (λ k. starts_with nat_eq k key) e ∙ begins key rest) in
      (a.1, member_at a.1 records a.0 a.2 a.3, a.4);
  keys = keys;
  reads = reads;
}

-- ---- cells that the codec packs

cell_stored : (cells : List Cell) → Each IsCell cells → (k : ℕ) → IsCell (cell_at cells k)
cell_stored [] e k = tt
cell_stored (c ∷ cells) e zero = e.0
cell_stored (c ∷ cells) e (suc k) = cell_stored cells e.1 k

cells_stored : (r : Record) → Each IsCell r.cells → (places : List ℕ) → Each IsCell (map (field_cell r) places)
cells_stored r e [] = tt
cells_stored r e (p ∷ places) = (cell_stored r.cells e p, cells_stored r e places)

pack_append : (xs ys : List Cell) → pack (xs ++ ys) ≡ pack xs ++ pack ys
pack_append [] ys = refl
pack_append (x ∷ xs) ys = ap (λ w. pack_cell x ++ w) (pack_append xs ys) ∙ sym (append_assoc (pack_cell x) (pack xs) (pack ys))

-- the key of a record's entry is the pack of its cells behind the index's prefix
entry_begins : (prefix : List ℕ) (i : IndexDefinition) (r : Record) → (entry_pair prefix i.number (entry_of i r)).0 ≡ entries_prefix prefix i.number ++ pack (entry_cells i r)
entry_begins prefix i r = ap (λ items. entries_prefix prefix i.number ++ spelling items) (sym (map-append item_of (cells_at r.cells i.columns) (primary_cells r)))

module _ (reads_back : ReadsBack IsCell) (prefix : List ℕ) (pairs : List Pair) (t : TypeDefinition) (indexes : List IndexDefinition) (records : List Record) (exact : IsExact prefix pairs t indexes records)
    (n : ℕ) (named : AreNamed t n) (key_in : All (λ p. p < n) t.key) (number_fits : is_word (pos t.number) ≡ true) where
  of_type : (r : Record) → Member r records → IsOf t r
  of_type r m = exact.of_type r (contains_member r records m)

  its_type : (r : Record) → Member r records → r.definition ≡ t
  its_type r m = made_type t r (of_type r m).made

  its_cells_stored : (r : Record) → Member r records → Each IsCell r.cells
  its_cells_stored r m = all_each IsCell r.cells (of_type r m).are_stored

  key_stored : (r : Record) → Member r records → Each IsCell (primary_cells r)
  key_stored r m = (subst (λ d. is_word (pos d.number) ≡ true) (sym (its_type r m)) number_fits, cells_stored r (its_cells_stored r m) r.definition.key)

  rises : Pairwise (λ p q. bytes_cmp p.0 q.0 ≡ Less) pairs
  rises = rising pairs exact.in_order

  -- a record's pair is read back as the record
  record_reads : (r : Record) → Member r records → stored_record prefix t (own_pair prefix pairs r) ≡ Some r
  record_reads r m = exact.stored r (contains_member r records m)

  record_keys : (r : Record) → Member r records → (own_pair prefix pairs r).0 ≡ records_prefix prefix t.number ++ pack (map (field_cell r) t.key)
  record_keys r m =
      ap (λ d. prefix ++ pack (Int (pos 1) ∷ Int (pos d.number) ∷ map (field_cell r) d.key)) (its_type r m)
      ∙ ap (λ w. prefix ++ w) (pack_append (Int (pos 1) ∷ Int (pos t.number) ∷ []) (map (field_cell r) t.key))
      ∙ sym (append_assoc prefix (pack (Int (pos 1) ∷ Int (pos t.number) ∷ [])) (pack (map (field_cell r) t.key)))

  holds_records : Holds (records_prefix prefix t.number) pairs records (own_pair prefix pairs) (λ r. pack (map (field_cell r) t.key)) (stored_record prefix t) (λ r. r)
  holds_records = holds_those (records_prefix prefix t.number) pairs records (own_pair prefix pairs) (λ r. pack (map (field_cell r) t.key)) (stored_record prefix t) (λ r. r) rises exact.records_are record_keys record_reads

  record_loads : (r : Record) → Member r records → fetched prefix pairs t (primary_cells r) ≡ Some r
  record_loads r m =
      ap (option_and_then (λ value. stored_record prefix t (record_key prefix (primary_key r), value))) (find_member pairs rises (own_pair prefix pairs r) (holds_records.has r m))
      ∙ record_reads r m

  -- the records of an exact map, as the planner's proofs take them
  pub good_type : IsGoodType IsCell prefix pairs t records
  good_type = record {
    holds = holds_records;
    loads = record_loads;
    keyed = λ r s m k e. same_Some r s (sym (record_loads r m) ∙ ap (fetched prefix pairs t) e ∙ record_loads s k);
    keys_are = λ r m. ap (λ d. Int (pos d.number) ∷ map (field_cell r) d.key) (its_type r m);
    stored = λ r m. cells_stored r (its_cells_stored r m) t.key;
    named = λ r m. columns_named t n named r (its_type r m) t.key (all_each (λ p. p < n) t.key key_in);
  }

  entry_stored : (i : IndexDefinition) (r : Record) → Member r records → Each IsCell (entry_cells i r)
  entry_stored i r m = each_append IsCell (map (field_cell r) i.columns) (primary_cells r) (cells_stored r (its_cells_stored r m) i.columns) (key_stored r m)

  fields_in : (places : List ℕ) → Each (λ p. p < n) places → Each (λ p. p < length t.fields) places
  fields_in places e = each_map (λ p. p < n) (λ p. p < length t.fields) (λ p l. omega (arith, l, named.in_range)) places e

  -- a record's primary key is one of its type
  key_is : (r : Record) → Member r records → is_primary_key t (primary_cells r) ≡ true
  key_is r m =
      let fit = made_fits t r.cells r (of_type r m).made in
      subst (λ d. is_primary_key t (Int (pos d.number) ∷ cells_at r.cells d.key) ≡ true) (sym (its_type r m))
      ((λ i. text_itself (pack (Int (pos t.number) ∷ [])) i && (fit_at t.fields r.cells fit.0 t.key (fields_in t.key (all_each (λ p. p < n) t.key key_in)) i && not (fit.1 i))))

  -- an entry is read back as the primary key of its record
  entry_reads : (i : IndexDefinition) → All (λ p. p < n) i.columns → (r : Record) → Member r records → entry_primary_key prefix t i (entry_pair prefix i.number (entry_of i r)) ≡ Some (primary_cells r)
  entry_reads i places r m =
      ap (λ w. option_and_then cut (unpack (drop (length (entries_prefix prefix i.number)) w))) (entry_begins prefix i r)
      ∙ ap (λ w. option_and_then cut (unpack w)) (drop-append_seam (entries_prefix prefix i.number) (pack (entry_cells i r)))
      ∙ ap (option_and_then cut) (reads_back (entry_cells i r) (entry_stored i r m))
      ∙ ap (λ b. if b then Some (drop (length i.columns) (entry_cells i r)) else None) its_entry
      ∙ ap Some behind
    where
      cut : List Cell → Option (List Cell)
      cut cells = if is_entry t i cells then Some (drop (length i.columns) cells) else None

      behind : drop (length i.columns) (entry_cells i r) ≡ primary_cells r
      behind = ap (λ k. drop k (entry_cells i r)) (sym (length-map i.columns (field_cell r))) ∙ drop-append_seam (map (field_cell r) i.columns) (primary_cells r)

      front : take (length i.columns) (entry_cells i r) ≡ cells_at r.cells i.columns
      front = ap (λ k. take k (entry_cells i r)) (sym (length-map i.columns (field_cell r))) ∙ take-append_seam (map (field_cell r) i.columns) (primary_cells r)

      its_entry : is_entry t i (entry_cells i r) ≡ true
      its_entry =
          (λ k. all_fit (column_kinds t i) (front k) && is_primary_key t (behind k))
          ∙ (λ k. fit_at t.fields r.cells (made_fits t r.cells r (of_type r m).made).0 i.columns (fields_in i.columns (all_each (λ p. p < n) i.columns places)) k && key_is r m k)

  -- the same of an index whose entries they have
  pub good_index : (i : IndexDefinition) → Contains indexes i → All (λ p. p < n) i.columns → IsGoodIndex IsCell prefix pairs t records i
  good_index i c places = record {
    holds = holds_those (entries_prefix prefix i.number) pairs records (λ r. entry_pair prefix i.number (entry_of i r)) (λ r. pack (entry_cells i r)) (entry_primary_key prefix t i) primary_cells rises (exact.entries_are i c) (λ r m. entry_begins prefix i r) (entry_reads i places);
    stored = entry_stored i;
    named = λ r m. columns_named t n named r (its_type r m) i.columns (all_each (λ p. p < n) i.columns places);
  }
