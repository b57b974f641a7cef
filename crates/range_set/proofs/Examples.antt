-- Worked examples: gaps of sets, the pair of a range, and what is written to insert one.
use Rattle.std.proofs.Common.{◌≡◌, ℕ, true, false, List, [], ◌∷◌, Some, None, refl}
use Rattle.tuple_codec.specs.Reading.{closed_at}
use Rattle.kv_core.specs.Bytes.{end_of_keys}
use Rattle.kv_core.specs.Range.{KeyRange, point}
use Rattle.kv_core.specs.declared.change.Mutation.TheVariants.{ClearRange, Set}
use Rattle.range_set.specs.Gaps.{first_gap, has_position, is_whole}
use Rattle.range_set.specs.Stored.{insertion, range_pair}
use Rattle.range_set.specs.Told.{ranges_in}

abbrev from : List ℕ → List ℕ → KeyRange
from begin end = record { begin = begin; end = end }

-- of no range the first gap is all
empty : first_gap [] ≡ Some (from [] end_of_keys)
empty = refl

-- a range at the beginning: the gap begins where it ends
behind_the_first : first_gap (from [] (5 ∷ []) ∷ []) ≡ Some (from (5 ∷ []) end_of_keys)
behind_the_first = refl

-- a range further on: the gap ends where it begins
before_the_first : first_gap (from (5 ∷ []) (7 ∷ []) ∷ []) ≡ Some (from [] (5 ∷ []))
before_the_first = refl

-- ranges that touch, in any order, have no gap between
touching : first_gap (from (5 ∷ []) (7 ∷ []) ∷ from (9 ∷ []) end_of_keys ∷ from [] (5 ∷ []) ∷ []) ≡ Some (from (7 ∷ []) (9 ∷ []))
touching = refl

-- up to the end of positions nothing is left
whole : is_whole (from (5 ∷ []) end_of_keys ∷ from [] (5 ∷ []) ∷ []) ≡ true
whole = refl

not_whole : is_whole (from [] (254 ∷ 255 ∷ []) ∷ []) ≡ false
not_whole = refl

-- a range has its begin, and not its end
at_the_begin : has_position (from (5 ∷ []) (7 ∷ []) ∷ []) (5 ∷ []) ≡ true
at_the_begin = refl

at_the_end : has_position (from (5 ∷ []) (7 ∷ []) ∷ []) (7 ∷ []) ≡ false
at_the_end = refl

-- the begin is packed as bytes, in which a zero byte is followed by FF
stored_so : range_pair (21 ∷ 6 ∷ []) (from (5 ∷ 0 ∷ []) (7 ∷ [])) ≡ (21 ∷ 6 ∷ 1 ∷ 5 ∷ 0 ∷ 255 ∷ 0 ∷ [], 7 ∷ [])
stored_so = refl

-- and is read back so
read_back : ranges_in (21 ∷ 6 ∷ []) ((21 ∷ 6 ∷ 1 ∷ 5 ∷ 0 ∷ 255 ∷ 0 ∷ [], 7 ∷ []) ∷ []) ≡ Some (from (5 ∷ 0 ∷ []) (7 ∷ []) ∷ [])
unfolding closed_at
read_back = refl

-- pairs under another place stand for no ranges, and so do those of an empty range and of ranges that overlap
elsewhere : ranges_in (21 ∷ 7 ∷ []) ((21 ∷ 6 ∷ 1 ∷ 5 ∷ 0 ∷ [], 7 ∷ []) ∷ []) ≡ None
unfolding closed_at
elsewhere = refl

empty_range : ranges_in (21 ∷ []) ((21 ∷ 1 ∷ 5 ∷ 0 ∷ [], 5 ∷ []) ∷ []) ≡ None
unfolding closed_at
empty_range = refl

overlapping : ranges_in (21 ∷ []) ((21 ∷ 1 ∷ 5 ∷ 0 ∷ [], 9 ∷ []) ∷ (21 ∷ 1 ∷ 7 ∷ 0 ∷ [], 10 ∷ []) ∷ []) ≡ None
unfolding closed_at
overlapping = refl

-- touching ones may stand together
side_by_side : ranges_in [] ((1 ∷ 5 ∷ 0 ∷ [], 7 ∷ []) ∷ (1 ∷ 7 ∷ 0 ∷ [], 255 ∷ []) ∷ []) ≡ Some (from (5 ∷ []) (7 ∷ []) ∷ from (7 ∷ []) end_of_keys ∷ [])
unfolding closed_at
side_by_side = refl

-- where [5, 7) and [9, FF) stand, [7, 9) touches both: the first one's pair gets the last one's end, whose own pair goes
touches_both : insertion (21 ∷ []) (from (5 ∷ []) (7 ∷ []) ∷ from (9 ∷ []) end_of_keys ∷ []) (from (7 ∷ []) (9 ∷ []))
    ≡ Set (21 ∷ 1 ∷ 5 ∷ 0 ∷ []) end_of_keys ∷ ClearRange (point (21 ∷ 1 ∷ 9 ∷ 0 ∷ [])) ∷ []
touches_both = refl

-- [7, 8) touches the first one: its pair gets the new end
touches_left : insertion (21 ∷ []) (from (5 ∷ []) (7 ∷ []) ∷ from (9 ∷ []) end_of_keys ∷ []) (from (7 ∷ []) (8 ∷ [])) ≡ Set (21 ∷ 1 ∷ 5 ∷ 0 ∷ []) (8 ∷ []) ∷ []
touches_left = refl

-- [8, 9) touches the last one: a pair with its end is put, and its own goes
touches_right : insertion (21 ∷ []) (from (5 ∷ []) (7 ∷ []) ∷ from (9 ∷ []) end_of_keys ∷ []) (from (8 ∷ []) (9 ∷ []))
    ≡ Set (21 ∷ 1 ∷ 8 ∷ 0 ∷ []) end_of_keys ∷ ClearRange (point (21 ∷ 1 ∷ 9 ∷ 0 ∷ [])) ∷ []
touches_right = refl

-- [1, 2) touches none, and stands beside them
touches_none : insertion (21 ∷ []) (from (5 ∷ []) (7 ∷ []) ∷ from (9 ∷ []) end_of_keys ∷ []) (from (1 ∷ []) (2 ∷ [])) ≡ Set (21 ∷ 1 ∷ 1 ∷ 0 ∷ []) (2 ∷ []) ∷ []
touches_none = refl
