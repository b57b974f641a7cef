-- How a map has a set of positions under a place: as the pairs of disjoint ranges.
use Rattle.std.specs.Prelude.{◌≡◌, ℕ, Bool, IsTrue, false, if◌then◌else◌, List, [], ◌∷◌, ◌++◌, map, None}
use Rattle.std.specs.FinMap.{from_entries, get}
use Rattle.std.specs.List.{AllByRecursion, list_any}
use Rattle.std.specs.Ordering.{is_eq}
use Rattle.tuple_codec.specs.Item.{AreBytes, bytes}
use Rattle.tuple_codec.specs.Subspace.{range_begin, range_end, subspace_key}
use Rattle.kv_core.specs.Bytes.{end_of_keys, key_cmp, key_le, key_lt, next_key}
use Rattle.kv_core.specs.Map.{Map}
use Rattle.kv_core.specs.Range.{KeyRange, contains, point}
use Rattle.kv_core.specs.declared.change.Mutation.{Mutation}
use Rattle.kv_core.specs.declared.change.Mutation.TheVariants.{ClearRange, Set}
use Rattle.range_set.specs.Gaps.{SamePositions, has_position}

-- a range that may be stored: it has a position, ends at the end of positions or before it, and its ends are bytes
pub record IsStoredRange (range : KeyRange) : Type 0 where
  pub some : IsTrue (key_lt range.begin range.end)
  pub upto : IsTrue (key_le range.end end_of_keys)
  pub begin : AreBytes range.begin
  pub end : AreBytes range.end

-- ranges that may be stored together, in order: each ends where a later one begins, or before that
abbrev pub AreStored : List KeyRange → Type 0
AreStored [] = Unit {0}
AreStored (range ∷ ranges) =
    IsStoredRange range × AllByRecursion (λ later. IsTrue (key_le range.end later.begin)) ranges × AreStored ranges

-- the key of the range that begins at a position: the pack of its bytes, after the place
abbrev pub range_key : List ℕ → List ℕ → List ℕ
range_key place begin = subspace_key place (bytes begin ∷ [])

-- the keys of all ranges of a set
abbrev pub whole_range : List ℕ → KeyRange
whole_range place = record { begin = range_begin place; end = range_end place }

-- the keys of those ranges that begin at a position or before it
abbrev pub upto_range : List ℕ → List ℕ → KeyRange
upto_range place position = record { begin = range_begin place; end = next_key (range_key place position) }

-- the pair that stands for a range
abbrev pub range_pair : List ℕ → KeyRange → List ℕ × List ℕ
range_pair place range = (range_key place range.begin, range.end)

-- the map of the pairs that stand for ranges
abbrev pub ranges_map : List ℕ → List KeyRange → Map
ranges_map place ranges = from_entries (map (range_pair place) ranges)

-- a map has just these ranges under the place
abbrev pub HasRanges : List ℕ → List KeyRange → Map → Type 0
HasRanges place ranges m = (rest : List ℕ) → get m (place ++ rest) ≡ get (ranges_map place ranges) (place ++ rest)

-- a map has a set under the place: ranges that may be stored together, and have just the set's positions
pub record HasSet (place : List ℕ) (set : List KeyRange) (m : Map) : Type 0 where
  pub ranges : List KeyRange
  pub stored : AreStored ranges
  pub has : HasRanges place ranges m
  pub same : SamePositions ranges set

-- the range lies in a gap: none of its positions is in the set
abbrev pub IsInGap : KeyRange → List KeyRange → Type 0
IsInGap range set = (position : List ℕ) → IsTrue (contains range position) → has_position set position ≡ false

-- one of these ranges begins at the position
abbrev pub begins_at : List KeyRange → List ℕ → Bool
begins_at ranges position = list_any (λ range. is_eq (key_cmp range.begin position)) ranges

-- one of these ranges ends at the position
abbrev pub ends_at : List KeyRange → List ℕ → Bool
ends_at ranges position = list_any (λ range. is_eq (key_cmp range.end position)) ranges

-- where the one of these ranges begins that ends at the position, or the position itself if none does
abbrev pub begin_of_left : List KeyRange → List ℕ → List ℕ
begin_of_left [] position = position
begin_of_left (range ∷ ranges) position =
    if is_eq (key_cmp range.end position) then range.begin else begin_of_left ranges position

-- where the one of these ranges ends that begins at the position, or the position itself if none does
abbrev pub end_of_right : List KeyRange → List ℕ → List ℕ
end_of_right [] position = position
end_of_right (range ∷ ranges) position =
    if is_eq (key_cmp range.begin position) then range.end else end_of_right ranges position

-- a range with those of these ranges that touch it: from where the left one begins to where the right one ends
abbrev pub with_neighbours : List KeyRange → KeyRange → KeyRange
with_neighbours ranges range =
    record { begin = begin_of_left ranges range.begin; end = end_of_right ranges range.end }

-- what is written to insert a range beside these: it is put with its neighbours, and the right one's pair goes
abbrev pub insertion : List ℕ → List KeyRange → KeyRange → List Mutation
insertion place ranges range =
    Set (range_key place (with_neighbours ranges range).begin) (with_neighbours ranges range).end
    ∷ (if begins_at ranges range.end then ClearRange (point (range_key place range.end)) ∷ [] else [])

-- a range in a gap joins each set that a map has, where the map becomes another one
abbrev pub Joins : List ℕ → KeyRange → Map → Map → Type 0
Joins place range m n = (set : List KeyRange) → IsInGap range set → HasSet place set m → HasSet place (range ∷ set) n

-- a map has one set at most under a place, by its positions
abbrev pub OneSet : Type 0
OneSet =
    (place : List ℕ) (set other : List KeyRange) (m : Map) → HasSet place set m → HasSet place other m →
    SamePositions set other

-- so has each map that has the same under the place, whatever it has elsewhere
abbrev pub SetsWithin : Type 0
SetsWithin =
    (place : List ℕ) (set other : List KeyRange) (m n : Map) →
    ((rest : List ℕ) → get m (place ++ rest) ≡ get n (place ++ rest)) → SamePositions set other →
    HasSet place set m → HasSet place other n

-- where a map has nothing under a place, it has the set without positions
abbrev pub EmptySet : Type 0
EmptySet =
    (place : List ℕ) (m : Map) → ((rest : List ℕ) → get m (place ++ rest) ≡ None) → HasSet place [] m

-- pairs stand for these ranges, which may be stored together
pub record ArePairsOf (place : List ℕ) (pairs : List (List ℕ × List ℕ)) (ranges : List KeyRange) : Type 0 where
  pub stored : AreStored ranges
  pub are : pairs ≡ map (range_pair place) ranges

-- pairs are of the written form
abbrev pub AreWritten : List ℕ → List (List ℕ × List ℕ) → Type 0
AreWritten place pairs = (ranges : List KeyRange) × ArePairsOf place pairs ranges

-- the first pair that is damaged has this key: those before it are of the written form, and with it they aren't, since
-- it stands for no range that may be stored, or for one that begins before the range of the pair before it ends
pub record IsFirstDamaged (place : List ℕ) (pairs : List (List ℕ × List ℕ)) (key : List ℕ) : Type 0 where
  pub before : List (List ℕ × List ℕ)
  pub bad : List ℕ × List ℕ
  pub behind : List (List ℕ × List ℕ)
  pub split : pairs ≡ before ++ bad ∷ behind
  pub good : AreWritten place before
  pub damaged : AreWritten place (before ++ bad ∷ []) → ⊥
  pub at : key ≡ bad.0
