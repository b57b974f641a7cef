-- Sets of positions: lists of ranges of which only the covered positions count, and the gaps in them.
use Rattle.std.specs.Prelude.{◌≡◌, ◌&&◌, ℕ, Bool, true, false, not, IsTrue, if◌then◌else◌, is_none}
use Rattle.std.specs.Prelude.{List, [], ◌∷◌, Option, Some, None, map, filter}
use Rattle.kv_core.specs.Bytes.{end_of_keys, key_le, key_lt}
use Rattle.kv_core.specs.Range.{KeyRange, contains, covers}

-- the position is in the set: one of its ranges has it
abbrev pub has_position : List KeyRange → List ℕ → Bool
has_position set position = covers set position

-- both sets have the same positions
abbrev pub SamePositions : List KeyRange → List KeyRange → Type 0
SamePositions set other = (position : List ℕ) → has_position set position ≡ has_position other position

-- the least of a key and some keys
abbrev pub least_key : List ℕ → List (List ℕ) → List ℕ
least_key least [] = least
least_key least (key ∷ keys) = least_key (if key_lt key least then key else least) keys

-- where the first gap begins: of the first position and those where ranges end the least one that isn't in the set, or
-- the end of positions where each is
abbrev pub gap_begin : List KeyRange → List ℕ
gap_begin set =
    least_key end_of_keys (filter (λ key. not (has_position set key)) ([] ∷ map (λ range. range.end) set))

-- where a gap ends that begins so: where the next range with a position begins, or at the end of positions
abbrev pub gap_end : List KeyRange → List ℕ → List ℕ
gap_end set begin =
    least_key end_of_keys
    (filter (λ key. key_lt begin key && has_position set key) (map (λ range. range.begin) set))

-- the first range of positions that aren't in the set
abbrev pub first_gap : List KeyRange → Option KeyRange
first_gap set =
    let begin = gap_begin set in
    if key_lt begin end_of_keys then Some (record { begin = begin; end = gap_end set begin }) else None

-- every position is in the set
abbrev pub is_whole : List KeyRange → Bool
is_whole set = is_none (first_gap set)

-- what a first gap is, by the test of positions alone
pub record IsGap (is_in : List ℕ → Bool) (gap : KeyRange) : Type 0 where
  -- all positions before it are in the set
  pub before : (position : List ℕ) → IsTrue (key_lt position gap.begin) → is_in position ≡ true
  -- none in it is
  pub within : (position : List ℕ) → IsTrue (contains gap position) → is_in position ≡ false
  -- it has a position
  pub some : IsTrue (key_lt gap.begin gap.end)
  -- it ends at the end of positions, or before it
  pub upto : IsTrue (key_le gap.end end_of_keys)
  -- where it ends before it, that position is in the set
  pub ends : IsTrue (key_lt gap.end end_of_keys) → is_in gap.end ≡ true

-- there is no gap where every position is in the set, and else this is the first one
abbrev pub IsFirstGap : (List ℕ → Bool) → Option KeyRange → Type 0
IsFirstGap is_in None = (position : List ℕ) → IsTrue (key_lt position end_of_keys) → is_in position ≡ true
IsFirstGap is_in (Some gap) = IsGap is_in gap

-- the first gap of a set is the first range of positions that aren't in it
abbrev pub FirstGapIs : Type 0
FirstGapIs = (set : List KeyRange) → IsFirstGap (has_position set) (first_gap set)

-- it depends on the set's positions alone
abbrev pub SameGap : Type 0
SameGap = (set other : List KeyRange) → SamePositions set other → first_gap set ≡ first_gap other
