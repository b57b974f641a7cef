-- Which ranges the pairs of a map stand for, their first gap, and what is written to insert one, as functions.
use Rattle.std.specs.Prelude.{◌≡◌, ◌↔◌, ◌+◌, ◌&&◌, ℕ, Bool, true, false, nat_lt, bytes_eq, if◌then◌else◌}
use Rattle.std.specs.Prelude.{List, [], ◌∷◌, length, drop, map, Option, Some, None, option_and_then, unwrap_or}
use Rattle.std.specs.List.{list_all}
use Rattle.std.specs.Option.{option_map_or}
use Rattle.tuple_codec.specs.Reading.{closed_at}
use Rattle.kv_core.specs.Bytes.{end_of_keys, key_le}
use Rattle.kv_core.specs.Map.{Map, pairs_in}
use Rattle.kv_core.specs.Range.{KeyRange, has_keys}
use Rattle.kv_core.specs.declared.change.CommitRequest.{CommitRequest}
use Rattle.kv_core.specs.declared.change.Mutation.{Mutation}
use Rattle.txn.specs.Runs.{Ran}
use Rattle.range_set.specs.Gaps.{first_gap}
use Rattle.range_set.specs.Stored.{ArePairsOf, HasSet, IsInGap, begins_at, ends_at, insertion, range_key}
use Rattle.range_set.specs.Stored.{whole_range}

-- ---- one pair

-- each is a byte
abbrev pub are_bytes : List ℕ → Bool
are_bytes bs = list_all (λ b. nat_lt b 256) bs

-- the range may be stored: it has a position, ends at the end of positions or before it, and its ends are bytes
abbrev pub is_stored : KeyRange → Bool
is_stored range =
    has_keys range && key_le range.end end_of_keys && are_bytes range.begin && are_bytes range.end

-- the begin in a key: of what stands after the place and one byte, the bytes up to the closing 00, unescaped
abbrev pub begin_in : List ℕ → List ℕ → List ℕ
begin_in place key = option_map_or (λ read. read.0) (closed_at (drop (length place + 1) key)) []

-- the range that a pair stands for, if it stands for one
abbrev pub range_in : List ℕ → List ℕ × List ℕ → KeyRange
range_in place pair = record { begin = begin_in place pair.0; end = pair.1 }

-- the pair stands for that range: it has the range's key, and the range may be stored
abbrev pub is_range_pair : List ℕ → List ℕ × List ℕ → Bool
is_range_pair place pair =
    bytes_eq pair.0 (range_key place (range_in place pair).begin) && is_stored (range_in place pair)

-- ---- all pairs

-- the first range doesn't begin before this end, and no later one before the one before it ends
abbrev pub are_in_order : List ℕ → List KeyRange → Bool
are_in_order end [] = true
are_in_order end (range ∷ ranges) = key_le end range.begin && are_in_order range.end ranges

-- the pairs are of the written form: each stands for its range, and these are in order
abbrev pub are_written : List ℕ → List (List ℕ × List ℕ) → Bool
are_written place pairs =
    list_all (is_range_pair place) pairs && are_in_order [] (map (range_in place) pairs)

-- the ranges that pairs stand for; None where they aren't of the written form
abbrev pub ranges_in : List ℕ → List (List ℕ × List ℕ) → Option (List KeyRange)
ranges_in place pairs = if are_written place pairs then Some (map (range_in place) pairs) else None

-- ---- a map

-- the ranges that a map's pairs under the place stand for; None where they aren't of the written form
abbrev pub stored_in : List ℕ → Map → Option (List KeyRange)
stored_in place m = ranges_in place (pairs_in m (whole_range place))

-- their first gap; None where there is none, and where the pairs aren't of the written form
abbrev pub gap_in : List ℕ → Map → Option KeyRange
gap_in place m = option_and_then first_gap (stored_in place m)

-- what is written to insert a range beside them; as beside none where the pairs aren't of the written form
abbrev pub insertion_in : List ℕ → Map → KeyRange → List Mutation
insertion_in place m range = insertion place (unwrap_or (stored_in place m) []) range

-- ---- what is proved of them

-- the function tells the ranges that pairs stand for, just where these are of the written form
abbrev pub RangesTold : Type 0
RangesTold =
    (place : List ℕ) (pairs : List (List ℕ × List ℕ)) (ranges : List KeyRange) →
    ArePairsOf place pairs ranges ↔ (ranges_in place pairs ≡ Some ranges)

-- the gap that a map tells is the first one of each set that the map has
abbrev pub GapTold : Type 0
GapTold = (place : List ℕ) (set : List KeyRange) (m : Map) → HasSet place set m → gap_in place m ≡ first_gap set

-- once a range was inserted into a gap of these, the map tells ranges of which none ends where that one begins, and
-- none begins where it ends: so no two touch there
abbrev pub ApartAt : List ℕ → KeyRange → List KeyRange → Map → Type 0
ApartAt place range ranges n =
    IsInGap range ranges →
    (left : List KeyRange) × (stored_in place n ≡ Some left)
    × (ends_at left range.begin ≡ false) × (begins_at left range.end ≡ false)

-- a call was answered with the ranges that the map tells, whatever else it has: the call added the range of all ranges
-- to those read, and wrote nothing
abbrev pub AreRangesIn : (ℕ → Map) → List ℕ → CommitRequest → CommitRequest → List KeyRange → Type 0
AreRangesIn maps place old new ranges =
    Ran maps (whole_range place ∷ []) old new [] (λ m. stored_in place m ≡ Some ranges)

-- a call was answered with the gap that the map tells, whatever else the map has: it added the range of all ranges to
-- those read, and wrote nothing
abbrev pub IsGapIn : (ℕ → Map) → List ℕ → CommitRequest → CommitRequest → Option KeyRange → Type 0
IsGapIn maps place old new gap = Ran maps (whole_range place ∷ []) old new [] (λ m. gap ≡ gap_in place m)
