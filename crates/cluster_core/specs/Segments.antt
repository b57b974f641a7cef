-- Private: segments, which are runs of keys by their begins, each with an end and the place of the last request that
-- wrote there. Where one begins within another, the later begin decides.
use Rattle.std.specs.Prelude.{◌≡◌, ◌⊎◌, ℕ, ◌≤◌, IsTrue, Bool, Option, None, Some, List}
use Rattle.std.specs.Map.{lookup}
use Rattle.std.specs.BTreeMap.{is_at}
use Rattle.kv_core.specs.Bytes.{key_cmp, key_le, key_lt}
use Rattle.kv_core.specs.Range.{KeyRange, contains}
use Rattle.cluster_core.specs.declared.segments.Segment.{Segment}

-- this segment begins with the key
abbrev pub Begins : List (List ℕ × Segment) → List ℕ → Segment → Type 0
Begins segments begin segment = lookup (is_at (key_cmp begin)) segments ≡ Some segment

-- there is a key in each segment
abbrev pub HaveKeys : List (List ℕ × Segment) → Type 0
HaveKeys segments =
    (begin : List ℕ) (segment : Segment) → Begins segments begin segment → IsTrue (key_lt begin segment.end)

-- a segment with this place has the key
pub record SegmentHolds (segments : List (List ℕ × Segment)) (key : List ℕ) (place : ℕ) : Type 0 where
  pub begin : List ℕ
  pub segment : Segment
  pub stands : Begins segments begin segment
  pub from : IsTrue (key_le begin key)
  pub before : IsTrue (key_lt key segment.end)
  pub placed : segment.place ≡ place

-- of the segments that begin at the key or before it this one begins last, and it has the key
pub record IsOver (segments : List (List ℕ × Segment)) (key begin : List ℕ) (segment : Segment) : Type 0 where
  pub stands : Begins segments begin segment
  pub from : IsTrue (key_le begin key)
  pub before : IsTrue (key_lt key segment.end)
  pub last :
      (other : List ℕ) (next : Segment) → Begins segments other next → IsTrue (key_le other key) →
      IsTrue (key_le other begin)

-- the segment over the key has this place or a later one
pub record IsCovered (segments : List (List ℕ × Segment)) (key : List ℕ) (place : ℕ) : Type 0 where
  pub begin : List ℕ
  pub segment : Segment
  pub over : IsOver segments key begin segment
  pub placed : place ≤ segment.place

-- the part from a key on of the segment over it, where that one begins before the key: it has the same end and place
pub record IsPartFrom (segments : List (List ℕ × Segment)) (key : List ℕ) (part : Option Segment) : Type 0 where
  pub found :
      (own : Segment) → part ≡ Some own →
      (begin : List ℕ) × IsOver segments key begin own × IsTrue (key_lt begin key)
  pub none :
      part ≡ None → (begin : List ℕ) (segment : Segment) → IsOver segments key begin segment →
      IsTrue (key_le key begin)

-- the segments cut at a key: what has a key or covers one is as before, and over the keys from that one on is no
-- segment that begins before it
pub record IsCutAt (cut : List ℕ) (old new : List (List ℕ × Segment)) : Type 0 where
  pub holds : (key : List ℕ) (place : ℕ) → SegmentHolds new key place → SegmentHolds old key place
  pub kept : (key : List ℕ) (place : ℕ) → IsCovered old key place → IsCovered new key place
  pub begun :
      (key begin : List ℕ) (segment : Segment) → IsOver new key begin segment → IsTrue (key_le cut key) →
      IsTrue (key_le cut begin)

-- after a write at a place of keys that pass a test: a segment that has a key has the place of one that had it before,
-- or else this one, where the key was written; and what was covered up to this place still is
pub record Overlays (written : List ℕ → Bool) (place : ℕ) (old new : List (List ℕ × Segment)) : Type 0 where
  pub holds :
      (key : List ℕ) (at : ℕ) → SegmentHolds new key at → SegmentHolds old key at
      ⊎ (IsTrue (written key) × (at ≡ place))
  pub kept : (key : List ℕ) (at : ℕ) → at ≤ place → IsCovered old key at → IsCovered new key at

-- the keys from one on and before another
abbrev pub from_to : List ℕ → List ℕ → KeyRange
from_to begin end = record { begin = begin; end = end }

-- the newest place in a range: some key of the range is in a segment with it, and no key is covered by a later one
pub record IsNewestOver (segments : List (List ℕ × Segment)) (range : KeyRange) (newest : Option ℕ) : Type 0 where
  pub found :
      (place : ℕ) → newest ≡ Some place → (key : List ℕ) × IsTrue (contains range key) × SegmentHolds segments key place
  pub others :
      (key : List ℕ) (place : ℕ) → IsTrue (contains range key) → IsCovered segments key place →
      (later : ℕ) × (newest ≡ Some later) × (place ≤ later)
