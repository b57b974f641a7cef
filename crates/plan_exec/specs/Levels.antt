-- Private: of streams among others, what they have still to give where the next things may be known already.
use Rattle.std.specs.Prelude.{◌≡◌, List, [], ◌∷◌, Option, Some, None}
use Rattle.std.specs.declared.cmp.Ordering.{Ordering}
use Rattle.std.specs.declared.cmp.Ordering.TheVariants.{Less, Equal, Greater}
use Rattle.metadata.specs.declared.cells.Cell.{Cell}
use Rattle.metadata.specs.Layout.{Pair}
use Rattle.metadata.specs.Order.{cells_cmp}
use Rattle.plan_exec.specs.Course.{Course, finds, joined, merged}
use Rattle.plan_exec.specs.declared.level.Level.{Level}

-- a course after what is known of it
abbrev pub head_then : {A : Type 0} → Option A → Course A → Course A
head_then None course = course
head_then (Some a) course = finds a ∷ course

-- the order of the keys of two things; one that isn't there comes last
abbrev pub heads_cmp : {A : Type 0} → (A → List Cell) → Option A → Option A → Ordering
heads_cmp key None other = Greater
heads_cmp key (Some a) None = Less
heads_cmp key (Some a) (Some b) = cells_cmp (key a) (key b)

-- of two things with keys one is taken by the order of these, and so much is left of them
module _ {A : Type 0} (key : A → List Cell) (head other taken head_left other_left : Option A) where
  -- that with the lower key; of two with the same key the first one is dropped and the second one taken
  abbrev pub takes_next : Ordering → Type 0
  takes_next Less = (taken ≡ head) × (head_left ≡ None) × (other_left ≡ other)
  takes_next Equal = (taken ≡ other) × (head_left ≡ None) × (other_left ≡ None)
  takes_next Greater = (taken ≡ other) × (head_left ≡ head) × (other_left ≡ None)

  abbrev pub TakesNext : Type 0
  TakesNext = takes_next (heads_cmp key head other)

  -- that with the lower key is dropped; of two with the same key the first one is taken and the second one dropped
  abbrev pub takes_shared : Ordering → Type 0
  takes_shared Less = (taken ≡ None) × (head_left ≡ None) × (other_left ≡ other)
  takes_shared Equal = (taken ≡ head) × (head_left ≡ None) × (other_left ≡ None)
  takes_shared Greater = (taken ≡ None) × (head_left ≡ head) × (other_left ≡ None)

  abbrev pub TakesShared : Type 0
  TakesShared = takes_shared (heads_cmp key head other)

-- levels of streams with these courses
module _ {R A : Type 0} (course : R → List Pair → Course A) (key : A → List Cell) where
  -- all levels merged
  abbrev pub merged_levels : List (Level R A) → List Pair → Course A
  merged_levels [] pairs = []
  merged_levels (level ∷ levels) pairs =
      merged key (head_then level.head (course level.stream pairs))
      (head_then level.other (merged_levels levels pairs))

  -- all levels joined
  abbrev pub joined_levels : List (Level R A) → List Pair → Course A
  joined_levels [] pairs = []
  joined_levels (level ∷ []) pairs = head_then level.head (course level.stream pairs)
  joined_levels (level ∷ next ∷ levels) pairs =
      joined key key (head_then level.head (course level.stream pairs))
      (head_then level.other (joined_levels (next ∷ levels) pairs))
