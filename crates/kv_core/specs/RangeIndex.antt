-- Private: what is known of a list of ranges: which one is the last of each bucket, and which one of the same bucket
-- comes before each.
use Rattle.std.specs.Prelude.{◌≡◌, ℕ, ◌<◌, ◌≤◌, ◌-◌, List, [], ◌∷◌, ◌++◌, length, map, slice_index, bit_and}
use Rattle.std.specs.Hash.FoldHasher.{initial, write, finish}
use Rattle.kv_core.specs.Range.{KeyRange}
use Rattle.kv_core.specs.declared.range_index.RangeIndex.{RangeIndex}

-- the number that std's hasher makes of a range's begin and end
unfoldable pub range_hash : KeyRange → ℕ
range_hash range = finish (write (write initial range.begin) range.end)

-- in which of so many buckets a range stands
abbrev pub bucket_of : ℕ → KeyRange → ℕ
bucket_of count range = bit_and (range_hash range) (count - 1)

-- the last of the first so many items that is of this bucket, as its place and 1, or 0 where there is none
pub record IsLastIn (bucket : ℕ) (buckets : List ℕ) (count last : ℕ) : Type 0 where
  pub within : last ≤ count
  pub is_of : 0 < last → slice_index buckets (last - 1) ≡ bucket
  pub is_last : (place : ℕ) → place < count → slice_index buckets place ≡ bucket → place < last

-- which item is the last of each bucket, and which one of its bucket comes before each, where the items are of these
pub record IsChained (last before buckets : List ℕ) : Type 0 where
  pub as_long : length before ≡ length buckets
  pub of_each : (bucket : ℕ) → bucket < length last → IsLastIn bucket buckets (length buckets) (slice_index last bucket)
  pub before_each :
      (place : ℕ) → place < length buckets →
      IsLastIn (slice_index buckets place) buckets place (slice_index before place)

-- what is known of a list of ranges, where there are buckets
abbrev pub HasIndex : RangeIndex → List KeyRange → Type 0
HasIndex index ranges = 0 < length index.last.items →
    IsChained index.last.items index.before.items (map (bucket_of (length index.last.items)) ranges)

-- there are, and it is known
abbrev pub IsIndexOf : RangeIndex → List KeyRange → Type 0
IsIndexOf index ranges = (0 < length index.last.items) × HasIndex index ranges

-- what is known of the same list
abbrev pub IsKept : RangeIndex → RangeIndex → Type 0
IsKept old new = (ranges : List KeyRange) → HasIndex old ranges → HasIndex new ranges

-- what is known of the list with one range of this bucket more at its end
abbrev pub IsMore : ℕ → RangeIndex → RangeIndex → Type 0
IsMore bucket old new = (length new.last.items ≡ length old.last.items) × ((ranges : List KeyRange) (range : KeyRange) →
    bucket ≡ bucket_of (length old.last.items) range → HasIndex old ranges → HasIndex new (ranges ++ range ∷ []))
