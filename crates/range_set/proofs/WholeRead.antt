-- A read of all ranges of a set finds them in order.
use Rattle.std.proofs.Common.{◌≡◌, ℕ, true, not, cond, ◌&&◌, List, [], ◌∷◌, map, refl, sym, ap, ◌∙◌}
use Rattle.std.specs.Ordering.{is_lt}
use Rattle.tuple_codec.specs.Item.{bytes}
use Rattle.tuple_codec.specs.Spelling.{spelling}
use Rattle.tuple_codec.proofs.Prefixes.{cmp_behind}
use Rattle.kv_core.specs.Map.{Map, pairs_in}
use Rattle.kv_core.specs.Range.{KeyRange, contains, entries_in}
use Rattle.kv_core.proofs.Stored.{pairs_in-stored, stored}
use Rattle.range_set.specs.Gaps.{SamePositions, has_position}
use Rattle.range_set.specs.Stored.{ArePairsOf, AreStored, AreWritten, HasSet, range_key, range_pair, whole_range}
use Rattle.range_set.proofs.PlacePairs.{keys_rise, one_range, place_pairs}

module _ (place : List ℕ) where
  -- the key of each range is in the range of all
  pub inside : (begin : List ℕ) → contains (whole_range place) (range_key place begin) ≡ true
  inside begin = λ i.
      not (is_lt (cmp_behind place (spelling (bytes begin ∷ [])) (0 ∷ []) i)) && is_lt (cmp_behind place (spelling (bytes begin ∷ [])) (255 ∷ []) i)

  all_inside : (ranges : List KeyRange) → entries_in (whole_range place) (map (range_pair place) ranges) ≡ map (range_pair place) ranges
  all_inside [] = refl
  all_inside (range ∷ ranges) =
      ap (λ b. cond b (range_pair place range ∷ entries_in (whole_range place) (map (range_pair place) ranges)) (entries_in (whole_range place) (map (range_pair place) ranges))) (inside range.begin)
      ∙ ap (λ ps. range_pair place range ∷ ps) (all_inside ranges)

  -- ALL: the pairs of stored ranges are read in order
  pub all_read : (ranges : List KeyRange) → AreStored ranges → pairs_in (stored (map (range_pair place) ranges)) (whole_range place) ≡ map (range_pair place) ranges
  all_read ranges h = pairs_in-stored (map (range_pair place) ranges) (whole_range place) (keys_rise place ranges h) ∙ all_inside ranges

  -- WHOLE READ: so a read of all gives the pairs of the ranges that a map has
  pub whole_read : (set : List KeyRange) (m : Map) → (has : HasSet place set m) → pairs_in m (whole_range place) ≡ map (range_pair place) has.ranges
  whole_read set m has = place_pairs place has.ranges m (0 ∷ []) (255 ∷ []) has.has ∙ all_read has.ranges has.stored

  -- FORM: and they are of the written form
  pub all_written : (set : List KeyRange) (m : Map) → HasSet place set m → AreWritten place (pairs_in m (whole_range place))
  all_written set m has = (has.ranges, record { stored = has.stored; are = whole_read set m has })

  pub same_ranges : (ranges others : List KeyRange) → AreStored ranges → AreStored others → map (range_pair place) ranges ≡ map (range_pair place) others → ranges ≡ others
  same_ranges [] [] h k same = refl
  same_ranges [] (other ∷ others) h k same = cc
  same_ranges (range ∷ ranges) [] h k same = cc
  same_ranges (range ∷ ranges) (other ∷ others) h k same =
      let first : range_pair place range ≡ range_pair place other = cc in
      let rest : map (range_pair place) ranges ≡ map (range_pair place) others = cc in
      (λ i. one_range place range other h.0 k.0 first i ∷ same_ranges ranges others h.2 k.2 rest i)

  -- POSITIONS: the ranges read have the positions of each set that the map has
  pub positions_read : (set ranges : List KeyRange) (m : Map) → ArePairsOf place (pairs_in m (whole_range place)) ranges → HasSet place set m → SamePositions ranges set
  positions_read set ranges m read has position =
      ap (λ rs. has_position rs position) (same_ranges ranges has.ranges read.stored has.stored (sym read.are ∙ whole_read set m has)) ∙ has.same position
