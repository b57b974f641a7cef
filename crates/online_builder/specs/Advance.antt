-- That steps of a builder come to an end: none leaves more to be built, and each leaves less of something.
use Rattle.std.specs.Prelude.{◌≡◌, ◌⊎◌, ◌+◌, ◌≤◌, ◌<◌, ℕ, zero, suc, not, List, ◌∷◌, Some, None, length, filter}
use Rattle.kv_core.specs.Range.{KeyRange}
use Rattle.range_set.specs.Gaps.{first_gap, has_position}
use Rattle.metadata.specs.declared.index.IndexDefinition.{IndexDefinition}
use Rattle.metadata.specs.Records.{of_type}
use Rattle.index_maint.specs.Built.{position}
use Rattle.index_maint.specs.Kept.{records_within}
use Rattle.index_maint.specs.Parts.{first_part}
use Rattle.record_store.specs.Building.{gap_of}
use Rattle.record_store.specs.Holds.{IsLawful}
use Rattle.record_store.specs.Store.{Store, built, built_of}

-- a set of positions has so many gaps: once the first one is filled, again and again, so often, every position is in it
abbrev pub HasGaps : List KeyRange → ℕ → Type 0
HasGaps set zero = first_gap set ≡ None
HasGaps set (suc count) = (gap : KeyRange) × (first_gap set ≡ Some gap) × HasGaps (gap ∷ set) count

-- each set has a number of gaps, and no other
abbrev pub GapsAreCounted : Type 0
GapsAreCounted = (set : List KeyRange) → (count : ℕ) × HasGaps set count

abbrev pub GapsAreCountedOnce : Type 0
GapsAreCountedOnce = (set : List KeyRange) (count other : ℕ) → HasGaps set count → HasGaps set other → count ≡ other

-- how many records of an index's type are at positions that aren't built
abbrev pub unbuilt : Store → IndexDefinition → ℕ
unbuilt store index =
    length
    (filter (λ r. not (has_position (built_of store index.number) (position r)))
    (of_type index.type_number store.records))

-- after a step that built so many records there are as many unbuilt ones fewer; there are no more gaps than before, and
-- where no record was built there are fewer
pub record HasAdvanced (index : IndexDefinition) (old new : Store) (gaps count : ℕ) : Type 0 where
  pub left : ℕ
  pub counted : HasGaps (built_of new index.number) left
  pub no_more : left ≤ gaps
  pub records : unbuilt new index + count ≡ unbuilt old index
  pub fewer : (left < gaps) ⊎ (1 ≤ count)

-- a step of at most so many records, in the first gap of a lawful store's built positions, is such a one
abbrev pub StepsAdvance : Type 0
StepsAdvance =
    (store : Store) (index : IndexDefinition) (limit gaps : ℕ) (gap : KeyRange) → 1 ≤ limit → IsLawful store →
    HasGaps (built_of store index.number) gaps → gap_of store index.number ≡ Some gap →
    let part = first_part limit gap index store.records in
    HasAdvanced index store (built store index.number part) gaps (length (records_within part index store.records))
