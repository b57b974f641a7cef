-- Private: single keys that are kept by their hashes, each with the newest place that wrote it, and between which keys
-- they lie.
use Rattle.std.specs.Prelude.{◌≡◌, ℕ, zero, ◌&&◌, Bool, IsTrue, Option, Some, List, [], map}
use Rattle.std.specs.Map.{lookup}
use Rattle.std.specs.Ordering.{eq_by_cmp}
use Rattle.kv_core.specs.Bytes.{key_cmp, key_le, key_lt, next_key}
use Rattle.kv_core.specs.Range.{KeyRange}
use Rattle.cluster_core.specs.declared.points.Hull.{Hull}
use Rattle.cluster_core.specs.declared.segments.Segment.{Segment}

-- whether the key is neither before the least one nor after the greatest
abbrev pub spans : Hull → List ℕ → Bool
spans hull key = key_le hull.least key && key_le key hull.greatest

-- whether a range ends after the least key, and begins at the greatest or before it
abbrev pub reaches : Hull → KeyRange → Bool
reaches hull range = key_lt hull.least range.end && key_le range.begin hull.greatest

-- the place of a key
abbrev pub kept_place : List (List ℕ × ℕ) → List ℕ → Option ℕ
kept_place places key = lookup (eq_by_cmp key_cmp key) places

-- the hull spans each of the keys
abbrev pub AreSpanned : Hull → List (List ℕ × ℕ) → Type 0
AreSpanned hull places = (key : List ℕ) (place : ℕ) → kept_place places key ≡ Some place → IsTrue (spans hull key)

-- a segment for each of the keys, which has no other one
abbrev pub points_of : List (List ℕ × ℕ) → List (List ℕ × Segment)
points_of places = map (λ e. (e.0, record { end = next_key e.0; place = e.1 })) places

-- what points are seen as: their segments, and the place from which on they are all that was written
pub record PointsState : Type 0 where
  pub segments : List (List ℕ × Segment)
  pub whole_from : ℕ

-- no points
abbrev pub no_points : PointsState
no_points = record { segments = []; whole_from = zero }
