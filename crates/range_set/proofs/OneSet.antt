-- Which set a map has under a place.
use Rattle.std.proofs.Common.{◌≡◌, ℕ, List, [], ◌++◌, None, refl, sym, ap, ◌∙◌}
use Rattle.std.specs.FinMap.{get}
use Rattle.kv_core.specs.Map.{Map}
use Rattle.kv_core.specs.Range.{KeyRange}
use Rattle.kv_core.proofs.Stored.{get-stored}
use Rattle.range_set.specs.Gaps.{SamePositions, has_position}
use Rattle.range_set.specs.Stored.{HasSet}
use Rattle.range_set.proofs.WholeRead.{same_ranges, whole_read}

-- ONE: the pairs that it has there tell the ranges, and these the positions
pub one_set : (place : List ℕ) (set other : List KeyRange) (m : Map) → HasSet place set m → HasSet place other m → SamePositions set other
one_set place set other m has had position =
    sym (has.same position)
    ∙ ap (λ ranges. has_position ranges position) (same_ranges place has.ranges had.ranges has.stored had.stored (sym (whole_read place set m has) ∙ whole_read place other m had))
    ∙ had.same position

-- WITHIN: nothing else of the map matters
pub set_within : (place : List ℕ) (set other : List KeyRange) (m n : Map) → ((rest : List ℕ) → get m (place ++ rest) ≡ get n (place ++ rest)) → SamePositions set other → HasSet place set m → HasSet place other n
set_within place set other m n there same has = record {
  ranges = has.ranges;
  stored = has.stored;
  has = λ rest. sym (there rest) ∙ has.has rest;
  same = λ position. has.same position ∙ same position;
}

-- EMPTY: nothing there is no range
pub empty_set : (place : List ℕ) (m : Map) → ((rest : List ℕ) → get m (place ++ rest) ≡ None) → HasSet place [] m
empty_set place m none = record {
  ranges = [];
  stored = tt;
  has = λ rest. none rest ∙ sym (get-stored [] (place ++ rest));
  same = λ position. refl;
}
