-- The part of a gap that a step of a builder builds.
use Rattle.std.specs.Prelude.{◌≡◌, ◌≤◌, ℕ, zero, suc, IsTrue, List, [], ◌∷◌, take}
use Rattle.std.specs.List.{AllByRecursion}
use Rattle.kv_core.specs.Bytes.{key_le, next_key}
use Rattle.kv_core.specs.Range.{KeyRange, contains, has_keys}
use Rattle.metadata.specs.declared.index.IndexDefinition.{IndexDefinition}
use Rattle.metadata.specs.Record.{Record}
use Rattle.metadata.specs.Records.{AreOrdered, IsStorable}
use Rattle.index_maint.specs.Built.{position}
use Rattle.index_maint.specs.Kept.{records_within}

-- the position behind so many records, or this end where there are fewer
abbrev pub end_behind : ℕ → List Record → List ℕ → List ℕ
end_behind zero records end = end
end_behind (suc count) [] end = end
end_behind (suc zero) (r ∷ records) end = next_key (position r)
end_behind (suc (suc count)) (r ∷ records) end = end_behind (suc count) records end

-- the part of a gap up to behind so many records of the type, or all of it where there are fewer
abbrev pub first_part : ℕ → KeyRange → IndexDefinition → List Record → KeyRange
first_part limit gap index records =
    record { begin = gap.begin; end = end_behind limit (records_within gap index records) gap.end }

-- a part of a gap that has just the first records there, at most so many
pub record IsFirstPart (limit : ℕ) (gap part : KeyRange) (index : IndexDefinition) (records : List Record) : Type 0
  where
    pub first : records_within part index records ≡ take limit (records_within gap index records)
    -- each of its positions is one of the gap
    pub inside : (at : List ℕ) → IsTrue (contains part at) → IsTrue (contains gap at)
    -- it ends where the gap does, or before that
    pub upto : IsTrue (key_le part.end gap.end)
    -- it has a position where the gap has one
    pub some : IsTrue (has_keys gap) → IsTrue (has_keys part)

-- the part up to behind so many records, one at least, is such a part
abbrev pub FirstParts : Type 0
FirstParts =
    (limit : ℕ) (gap : KeyRange) (index : IndexDefinition) (records : List Record) → 1 ≤ limit →
    AreOrdered records → AllByRecursion IsStorable records →
    IsFirstPart limit gap (first_part limit gap index records) index records
