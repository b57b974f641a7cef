-- The ranges that pairs stand for, and those that a map has with their first gap, are told by functions.
use Rattle.std.proofs.Common.{◌≡◌, ◌&&◌, ℕ, Bool, true, false, cond, List, [], ◌∷◌, map, Some, None, refl, sym, ap, subst, ◌∙◌, IsTrue}
use Rattle.std.specs.Prelude.{bytes_eq, option_and_then}
use Rattle.std.specs.List.{AllByRecursion, list_all}
use Rattle.std.specs.Option.{option_map_or}
use Rattle.std.proofs.Math.Seq.{drop-append-add}
use Rattle.std.proofs.lemmas.Bool.{and_parts, lt-ltb, ltb-true}
use Rattle.std.proofs.lemmas.Slice.Eq.{bytes_eq-Decides}
use Rattle.tuple_codec.specs.Item.{bytes}
use Rattle.tuple_codec.specs.Reading.{closed_at}
use Rattle.tuple_codec.specs.Spelling.{spelling}
use Rattle.tuple_codec.proofs.ClosedStrings.{AreLow, closed_again}
use Rattle.tuple_codec.proofs.Outcome.{bytes_from_low, low_from_bytes}
use Rattle.kv_core.specs.Bytes.{end_of_keys, key_le, key_lt}
use Rattle.kv_core.specs.Map.{Map, pairs_in}
use Rattle.kv_core.specs.Range.{KeyRange}
use Rattle.kv_core.proofs.Order.{le_from_lt}
use Rattle.range_set.specs.Gaps.{first_gap}
use Rattle.range_set.specs.Stored.{ArePairsOf, AreStored, HasSet, IsStoredRange, range_key, range_pair, whole_range}
use Rattle.range_set.specs.Told.{GapTold, RangesTold, are_bytes, are_in_order, are_written, begin_in, is_range_pair, is_stored, range_in, ranges_in, stored_in}
use Rattle.range_set.proofs.Gaps.{same_gap}
use Rattle.range_set.proofs.Inserts.{all_later}
use Rattle.range_set.proofs.RangeRows.{all_from}
use Rattle.range_set.proofs.WholeRead.{whole_read}

abbrev Pair : Type 0
Pair = List ℕ × List ℕ

-- ---- one range

low_told : (bs : List ℕ) → are_bytes bs ≡ true → AreLow bs
low_told [] told = tt
low_told (b ∷ bs) told = let parts = and_parts _ (are_bytes bs) told in (ltb-true b 256 parts.0, low_told bs parts.1)

low_tells : (bs : List ℕ) → AreLow bs → are_bytes bs ≡ true
low_tells [] low = refl
low_tells (b ∷ bs) low = λ i. lt-ltb b 256 low.0 i && low_tells bs low.1 i

-- a range may be stored where the test holds, and only there
stored_told : (range : KeyRange) → is_stored range ≡ true → IsStoredRange range
stored_told range told =
    let last = and_parts (key_lt range.begin range.end && key_le range.end end_of_keys && are_bytes range.begin) (are_bytes range.end) told in
    let bytes_begin = and_parts (key_lt range.begin range.end && key_le range.end end_of_keys) (are_bytes range.begin) last.0 in
    let ends = and_parts (key_lt range.begin range.end) (key_le range.end end_of_keys) bytes_begin.0 in
    record {
      some = ends.0;
      upto = ends.1;
      begin = bytes_from_low range.begin (low_told range.begin bytes_begin.1);
      end = bytes_from_low range.end (low_told range.end last.1);
    }

stored_tells : (range : KeyRange) → IsStoredRange range → is_stored range ≡ true
stored_tells range is = λ i.
    is.some i && is.upto i && low_tells range.begin (low_from_bytes range.begin is.begin) i && low_tells range.end (low_from_bytes range.end is.end) i

-- the begin is read off the range's key again
begin_again : (place begin : List ℕ) → begin_in place (range_key place begin) ≡ begin
begin_again place begin =
    ap (λ read. option_map_or (λ (x : Pair). x.0) read [])
    (ap closed_at (drop-append-add place (spelling (bytes begin ∷ [])) 1) ∙ closed_again begin [] tt)

-- ---- ranges

module _ (place : List ℕ) where
  range_again : (range : KeyRange) → range_in place (range_pair place range) ≡ range
  range_again range = λ i. record { begin = begin_again place range.begin i; end = range.end }

  ranges_again : (ranges : List KeyRange) → map (range_in place) (map (range_pair place) ranges) ≡ ranges
  ranges_again [] = refl
  ranges_again (range ∷ ranges) = λ i. range_again range i ∷ ranges_again ranges i

  -- the pair of a range that may be stored passes, and what passes is the pair of such a range
  pair_passes : (range : KeyRange) → IsStoredRange range → is_range_pair place (range_pair place range) ≡ true
  pair_passes range is = λ i.
      (bytes_eq-Decides (range_key place range.begin) (range_key place (begin_in place (range_key place range.begin)))).1 (ap (range_key place) (sym (begin_again place range.begin))) i
      && (ap is_stored (range_again range) ∙ stored_tells range is) i

  all_pass : (ranges : List KeyRange) → AreStored ranges → list_all (is_range_pair place) (map (range_pair place) ranges) ≡ true
  all_pass [] stored = refl
  all_pass (range ∷ ranges) stored = λ i. pair_passes range stored.0 i && all_pass ranges stored.2 i

  pair_passed : (pair : Pair) → is_range_pair place pair ≡ true → IsStoredRange (range_in place pair) × (pair ≡ range_pair place (range_in place pair))
  pair_passed pair passed =
      let parts = and_parts (bytes_eq pair.0 (range_key place (begin_in place pair.0))) (is_stored (range_in place pair)) passed in (
        stored_told (range_in place pair) parts.1,
        λ i. ((bytes_eq-Decides pair.0 (range_key place (begin_in place pair.0))).0 parts.0 i, pair.1),
      )

  all_passed : (pairs : List Pair) → list_all (is_range_pair place) pairs ≡ true → pairs ≡ map (range_pair place) (map (range_in place) pairs)
  all_passed [] passed = refl
  all_passed (pair ∷ pairs) passed =
      let parts = and_parts (is_range_pair place pair) (list_all (is_range_pair place) pairs) passed in
      λ i. (pair_passed pair parts.0).1 i ∷ all_passed pairs parts.1 i

-- ---- their order

-- ranges that may be stored together are in order
order_tells : (end : List ℕ) (ranges : List KeyRange) → AreStored ranges → AllByRecursion (λ later. IsTrue (key_le end later.begin)) ranges → are_in_order end ranges ≡ true
order_tells end [] stored all = refl
order_tells end (range ∷ ranges) stored all = λ i. all.0 i && order_tells range.end ranges stored.2 stored.1 i

-- and those in order may be, where each may
order_told : (place end : List ℕ) (pairs : List Pair) → list_all (is_range_pair place) pairs ≡ true → are_in_order end (map (range_in place) pairs) ≡ true →
    AreStored (map (range_in place) pairs) × AllByRecursion (λ later. IsTrue (key_le end later.begin)) (map (range_in place) pairs)
order_told place end [] passed order = (tt, tt)
order_told place end (pair ∷ pairs) passed order =
    let range = range_in place pair in
    let parts = and_parts (is_range_pair place pair) (list_all (is_range_pair place) pairs) passed in
    let ordered = and_parts (key_le end range.begin) (are_in_order range.end (map (range_in place) pairs)) order in
    let one = (pair_passed place pair parts.0).0 in
    let rest = order_told place range.end pairs parts.1 ordered.1 in (
      (one, rest.1, rest.0),
      (ordered.0, all_later end range.begin (map (range_in place) pairs) ordered.0 (all_later range.begin range.end (map (range_in place) pairs) (le_from_lt range.begin range.end one.some) rest.1)),
    )

-- ---- what pairs tell

-- TELLS: of the pairs of ranges these are told
pub ranges_tell : (place : List ℕ) (pairs : List Pair) (ranges : List KeyRange) → ArePairsOf place pairs ranges → ranges_in place pairs ≡ Some ranges
ranges_tell place pairs ranges are =
    ap (ranges_in place) are.are
    ∙ (λ i. cond (all_pass place ranges are.stored i && in_order i) (Some (ranges_again place ranges i)) None)
  where
    in_order : are_in_order [] (map (range_in place) (map (range_pair place) ranges)) ≡ true
    in_order = ap (are_in_order []) (ranges_again place ranges) ∙ order_tells [] ranges are.stored (all_from ranges)

pub some_ranges : (a b : List KeyRange) → Some a ≡ Some b → a ≡ b
some_ranges a b same = cc

-- TOLD: and ranges that are told are those of the pairs
pub ranges_told : (place : List ℕ) (pairs : List Pair) (ranges : List KeyRange) → ranges_in place pairs ≡ Some ranges → ArePairsOf place pairs ranges
ranges_told place pairs ranges told = by_test (are_written place pairs) refl told
  where
    by_test : (b : Bool) → are_written place pairs ≡ b → cond b (Some (map (range_in place) pairs)) None ≡ Some ranges → ArePairsOf place pairs ranges
    by_test true passed is =
        let parts = and_parts (list_all (is_range_pair place) pairs) (are_in_order [] (map (range_in place) pairs)) passed in
        subst (ArePairsOf place pairs) (some_ranges (map (range_in place) pairs) ranges is) record {
          stored = (order_told place [] pairs parts.0 parts.1).0;
          are = all_passed place pairs parts.0;
        }
    by_test false passed is = cc

pub ranges_are_told : RangesTold
ranges_are_told place pairs ranges = (ranges_tell place pairs ranges, ranges_told place pairs ranges)

-- SET: those of a set that a map has are told
pub set_told : (place : List ℕ) (set : List KeyRange) (m : Map) → (has : HasSet place set m) → stored_in place m ≡ Some has.ranges
set_told place set m has = ranges_tell place (pairs_in m (whole_range place)) has.ranges (record { stored = has.stored; are = whole_read place set m has })

-- GAP: and so is its first gap
pub gap_is_told : GapTold
gap_is_told place set m has = ap (option_and_then first_gap) (set_told place set m has) ∙ same_gap has.ranges set has.same
