-- Private: segments in the order of their begins, and what a tree of them answers.
use Rattle.std.specs.Prelude.{◌≡◌, ◌≤◌, ◌+◌, ◌*◌, ◌^◌, ◌&&◌, ℕ, max, IsTrue, Option, None, Some}
use Rattle.std.specs.Prelude.{List, [], ◌∷◌, ◌++◌, length}
use Rattle.std.specs.List.{AllByRecursion, filter}
use Rattle.kv_core.specs.Bytes.{key_le, key_lt}
use Rattle.cluster_core.specs.declared.segments.Segment.{Segment}
use Rattle.cluster_core.specs.Segments.{Begins}

-- what a tree is seen as: its segments in order, and how many nodes there are from its top down to the farthest
pub record Shape : Type 0 where
  pub entries : List (List ℕ × Segment)
  pub height : ℕ

abbrev pub empty : Shape
empty = record { entries = []; height = 0 }

-- a node with a tree on each side
abbrev pub forked : Shape → List ℕ → Segment → Shape → Shape
forked left begin segment right = record {
  entries = left.entries ++ (begin, segment) ∷ right.entries;
  height = max left.height right.height + 1;
}

-- neither height is by more than this above the other one
abbrev pub AreNear : ℕ → ℕ → ℕ → Type 0
AreNear by left right = (left ≤ right + by) × (right ≤ left + by)

-- the height is at most twice the binary logarithm of the number of segments and one
abbrev pub IsShallow : Shape → Type 0
IsShallow tree = 2 ^ tree.height ≤ (length tree.entries + 1) * (length tree.entries + 1)

-- the segments of two trees with one between them, in a tree that is as high as the higher one, or by one higher
pub record IsJoined (left : Shape) (begin : List ℕ) (segment : Segment) (right new : Shape) : Type 0 where
  pub entries : new.entries ≡ left.entries ++ (begin, segment) ∷ right.entries
  pub least : max left.height right.height ≤ new.height
  pub most : new.height ≤ max left.height right.height + 1

-- each begins before those that follow it
abbrev pub InOrder : List (List ℕ × Segment) → Type 0
InOrder [] = Unit {0}
InOrder (e ∷ es) = AllByRecursion (λ next. IsTrue (key_lt e.0 next.0)) es × InOrder es

-- the later of two places, where either may not be there
abbrev pub later : Option ℕ → Option ℕ → Option ℕ
later None other = other
later (Some own) None = Some own
later (Some own) (Some other) = Some (max own other)

-- the newest place of these segments
abbrev pub newest_of : List (List ℕ × Segment) → Option ℕ
newest_of [] = None
newest_of (e ∷ es) = later (Some e.1.place) (newest_of es)

-- the segments that begin after one key and before another
abbrev pub between : List ℕ → List ℕ → List (List ℕ × Segment) → List (List ℕ × Segment)
between low high = filter (λ e. key_lt low e.0 && key_lt e.0 high)

-- of the segments that begin at the key or before it this one begins last
pub record IsLastUpto (segments : List (List ℕ × Segment)) (key begin : List ℕ) (segment : Segment) : Type 0 where
  pub stands : Begins segments begin segment
  pub from : IsTrue (key_le begin key)
  pub last :
      (other : List ℕ) (next : Segment) → Begins segments other next → IsTrue (key_le other key) →
      IsTrue (key_le other begin)

-- these are the segments that begin before the key, and those that begin from it on
pub record IsSplit (segments : List (List ℕ × Segment)) (key : List ℕ) (before after : List (List ℕ × Segment)) :
    Type 0 where
  pub whole : segments ≡ before ++ after
  pub below : AllByRecursion (λ e. IsTrue (key_lt e.0 key)) before
  pub from : AllByRecursion (λ e. IsTrue (key_le key e.0)) after

-- the segments that begin from this one's begin on and before its end are gone, and it stands in their place, and
-- behind it the rest
pub record IsLaid (begin : List ℕ) (segment : Segment) (rest old new : List (List ℕ × Segment)) : Type 0 where
  pub before : List (List ℕ × Segment)
  pub onward : List (List ℕ × Segment)
  pub within : List (List ℕ × Segment)
  pub after : List (List ℕ × Segment)
  pub begun : IsSplit old begin before onward
  pub ended : IsSplit onward segment.end within after
  pub made : new ≡ before ++ (begin, segment) ∷ (rest ++ after)

-- no segment, or one that begins with the key
abbrev pub at_key : List ℕ → Option Segment → List (List ℕ × Segment)
at_key key None = []
at_key key (Some segment) = (key, segment) ∷ []
