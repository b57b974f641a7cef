-- What the codec gives the planner: packs of cells are ordered as cells, their ranges are those of bounds, and they are read back.
use Rattle.std.specs.Prelude.{◌≡◌, ◌↔◌, refl, ℕ, true, ◌&&◌, nat_eq, List, [], ◌∷◌, ◌++◌, length, take, drop, Some, None, Option, unwrap_or, bytes_eq}
use Rattle.std.specs.List.{starts_with}
use Rattle.std.proofs.Common.{ap, sym, ◌∙◌, subst, arith}
use Rattle.std.proofs.lemmas.List.{take-append-drop}
use Rattle.std.specs.Cmp.{both_ways, first_so, second_so}
use Rattle.std.specs.declared.cmp.Ordering.{Ordering}
use Rattle.std.specs.declared.cmp.Ordering.TheVariants.{Less, Equal, Greater}
use Rattle.std.specs.Ordering.{is_le, is_lt, ordering_reverse}
use Rattle.std.specs.Cmp.Lexicographic.{nat_list_cmp_total}
use Rattle.std.proofs.Math.Seq.{take-append_seam}
use Rattle.std.proofs.lemmas.Slice.Eq.{bytes_eq-Decides}
use Rattle.tuple_codec.specs.Order.{bytes_cmp}
use Rattle.tuple_codec.specs.Spelling.{escaped, outer}
use Rattle.tuple_codec.specs.Subspace.{BeginsWith, IsBefore, IsWithin, raised_last, strinc}
use Rattle.tuple_codec.proofs.ClosedStrings.{AreLow}
use Rattle.tuple_codec.proofs.Outcome.{bytes_from_low, low_from_bytes}
use Rattle.tuple_codec.proofs.Prefixes.{prefix_is_range}
use Rattle.tuple_codec.proofs.Spellings.{spelling_spells}
use Rattle.tuple_codec.proofs.TupleOrder.{begins}
use Rattle.metadata.specs.declared.cells.Cell.{Cell}
use Rattle.metadata.specs.declared.cells.Cell.TheVariants.{Null, Int, Text, Bytes}
use Rattle.metadata.specs.Cell.{IsCell, item_of, items_of}
use Rattle.metadata.specs.Order.{BeginsAs, is_stop, is_string, is_tail, open_pack}
use Rattle.metadata.proofs.CellItems.{cells_of-items_of, is_tuple-items_of}
use Rattle.metadata.proofs.PackBegins.{low, null_first, opens}
use Rattle.metadata.proofs.PackOrder.{decides}
use Rattle.query.specs.Truth.{known, is_true, prefix_test}
use Rattle.planner.specs.Pack.{behind_all, pack, pack_cell}
use Rattle.planner.proofs.Ranges.{IsNonEmpty, PackLaws, known_true, low_append}
use Rattle.planner.proofs.LowBytes.{low_escaped, low_pack_cell, low_text}
use Rattle.planner.proofs.Lists.{each_all}
use Rattle.planner.proofs.Sound.{ReadsBack}
use Rattle.planner.proofs.Unpacked.{unpack_spelled}

-- ---- prefixes

-- a list begins with another one
pub begins_so : (p t : List ℕ) → BeginsWith p t → starts_with nat_eq t p ≡ true
begins_so p t b = ap (λ w. starts_with nat_eq w p) b.1 ∙ ap (bytes_eq p) (take-append_seam p b.0) ∙ (bytes_eq-Decides p p).1 refl

pub so_begins : (p t : List ℕ) → starts_with nat_eq t p ≡ true → BeginsWith p t
so_begins p t e = let same : p ≡ take (length p) t = (bytes_eq-Decides p (take (length p) t)).0 e in (drop (length p) t, sym (take-append-drop (length p) t) ∙ ap (λ w. w ++ drop (length p) t) (sym same))

string_end : (s : Cell) → is_string s ≡ true → strinc (open_pack s) ≡ Some (behind_all (open_pack s))
string_end Null e = cc
string_end (Int z) e = cc
string_end (Text t) e = by (strinc (escaped t))
  where
    by : (o : Option (List ℕ)) → raised_last 2 o ≡ Some (unwrap_or (raised_last 2 o) [])
    by None = refl
    by (Some end) = refl
string_end (Bytes t) e = by (strinc (escaped t))
  where
    by : (o : Option (List ℕ)) → raised_last 1 o ≡ Some (unwrap_or (raised_last 1 o) [])
    by None = refl
    by (Some end) = refl

string_stop : (s : Cell) → is_string s ≡ true → (is_tail (open_pack s) ≡ true) × (is_stop (behind_all (open_pack s)) ≡ true)
string_stop Null e = cc
string_stop (Int z) e = cc
string_stop (Text t) e = (refl, by (strinc (escaped t)))
  where
    by : (o : Option (List ℕ)) → is_stop (unwrap_or (raised_last 2 o) []) ≡ true
    by None = refl
    by (Some []) = refl
    by (Some (b ∷ end)) = refl
string_stop (Bytes t) e = (refl, by (strinc (escaped t)))
  where
    by : (o : Option (List ℕ)) → is_stop (unwrap_or (raised_last 1 o) []) ≡ true
    by None = refl
    by (Some []) = refl
    by (Some (b ∷ end)) = refl

low_open : (s : Cell) → IsCell s → AreLow (open_pack s)
low_open Null is = tt
low_open (Int z) is = tt
low_open (Text t) is = (omega arith, low_escaped t (low_text t is))
low_open (Bytes t) is = (omega arith, low_escaped t (low_from_bytes t is))

-- a test by prefix is true where the cell begins as the prefix
test_begins : (c s : Cell) → is_string s ≡ true → is_true (prefix_test c s) ≡ true → BeginsAs s c
test_begins c Null e h = cc
test_begins c (Int z) e h = cc
test_begins Null (Text p) e h = cc
test_begins (Int z) (Text p) e h = cc
test_begins (Bytes b) (Text p) e h = cc
test_begins (Text t) (Text p) e h = so_begins p t (sym (known_true (starts_with nat_eq t p)) ∙ h)
test_begins Null (Bytes p) e h = cc
test_begins (Int z) (Bytes p) e h = cc
test_begins (Text b) (Bytes p) e h = cc
test_begins (Bytes t) (Bytes p) e h = so_begins p t (sym (known_true (starts_with nat_eq t p)) ∙ h)

begins_test : (c s : Cell) → BeginsAs s c → is_true (prefix_test c s) ≡ true
begins_test Null Null h = absurd h
begins_test (Int z) Null h = absurd h
begins_test (Text t) Null h = absurd h
begins_test (Bytes t) Null h = absurd h
begins_test Null (Int w) h = absurd h
begins_test (Int z) (Int w) h = absurd h
begins_test (Text t) (Int w) h = absurd h
begins_test (Bytes t) (Int w) h = absurd h
begins_test Null (Text p) h = absurd h
begins_test (Int z) (Text p) h = absurd h
begins_test (Bytes b) (Text p) h = absurd h
begins_test (Text t) (Text p) h = ap (λ b. is_true (known b)) (begins_so p t h)
begins_test Null (Bytes p) h = absurd h
begins_test (Int z) (Bytes p) h = absurd h
begins_test (Text b) (Bytes p) h = absurd h
begins_test (Bytes t) (Bytes p) h = ap (λ b. is_true (known b)) (begins_so p t h)

-- ---- ranges as tests

not_less_le : (a b : List ℕ) → (bytes_cmp b a ≡ Less → ⊥) → is_le (bytes_cmp a b) ≡ true
not_less_le a b never = by (bytes_cmp b a) refl
  where
    by : (o : Ordering) → bytes_cmp b a ≡ o → is_le (bytes_cmp a b) ≡ true
    by Less e = absurd (never e)
    by Equal e = ap is_le (nat_list_cmp_total.antisymm a b ∙ ap ordering_reverse e)
    by Greater e = ap is_le (nat_list_cmp_total.antisymm a b ∙ ap ordering_reverse e)

le_not_less : (a b : List ℕ) → is_le (bytes_cmp a b) ≡ true → bytes_cmp b a ≡ Less → ⊥
le_not_less a b h e = let bad : is_le Greater ≡ true = ap is_le (ap ordering_reverse (sym e) ∙ sym (nat_list_cmp_total.antisymm a b)) ∙ h in cc

is_less : (o : Ordering) → is_lt o ≡ true → o ≡ Less
is_less Less e = refl
is_less Equal e = cc
is_less Greater e = cc

prefix_range : (c s : Cell) (y : List ℕ) → IsCell c → IsCell s → is_string s ≡ true → is_tail y ≡ true → AreLow y →
    (is_le (bytes_cmp (open_pack s) (pack_cell c ++ y)) && is_lt (bytes_cmp (pack_cell c ++ y) (behind_all (open_pack s)))) ≡ is_true (prefix_test c s)
prefix_range c s y is_c is_s string tail low_y =
    let key : List ℕ = pack_cell c ++ y in
    let range : BeginsWith (open_pack s) key ↔ IsWithin (open_pack s) (strinc (open_pack s)) key =
    prefix_is_range (open_pack s) key (bytes_from_low (open_pack s) (low_open s is_s)) (bytes_from_low key (low_append (pack_cell c) y (low_pack_cell c is_c) low_y)) in
    let opened : BeginsWith (open_pack s) key ↔ BeginsAs s c = opens s c y string is_c tail in
    both_ways (is_le (bytes_cmp (open_pack s) key) && is_lt (bytes_cmp key (behind_all (open_pack s)))) (is_true (prefix_test c s))
    (λ h. begins_test c s (opened.0 (range.1 (
      le_not_less (open_pack s) key (first_so _ _ h),
      subst (IsBefore key) (sym (string_end s string)) (is_less (bytes_cmp key (behind_all (open_pack s))) (second_so (is_le (bytes_cmp (open_pack s) key)) _ h)),
    ))))
    (λ h. let w : IsWithin (open_pack s) (strinc (open_pack s)) key = range.0 (opened.1 (test_begins c s string h)) in
    λ i. not_less_le (open_pack s) key w.0 i && is_lt (subst (IsBefore key) (string_end s string) w.1 i))

some_byte : (c : Cell) (y : List ℕ) → IsNonEmpty (pack_cell c ++ y)
some_byte c y = subst (λ s. IsNonEmpty (s ++ y)) (sym (begins outer (item_of c))) tt

-- what is asked of the codec
pub codec_laws : PackLaws IsCell
codec_laws = record {
  decides = decides;
  some_byte = some_byte;
  low = low;
  null_first = null_first;
  prefixes = prefix_range;
  bytes = low_pack_cell;
  prefix_ends = λ s is string. string_stop s string;
}

-- packs of cells are read back
pub reads_back : ReadsBack IsCell
reads_back cells each =
    let all = each_all IsCell cells each in
    let t = is_tuple-items_of cells all in
    unpack_spelled (items_of cells) (pack cells) (spelling_spells (items_of cells) t.items t.depth) ∙ cells_of-items_of cells all
