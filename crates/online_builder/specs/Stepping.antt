-- What a step of a builder reads, answers, leaves and writes.
use Rattle.std.specs.Prelude.{ℕ, Bool, true, false, List, [], ◌∷◌, length, Option, Some, None, Ok, nat_lt}
use Rattle.std.specs.Prelude.{if◌then◌else◌}
use Rattle.kv_core.specs.Bytes.{next_key}
use Rattle.kv_core.specs.Map.{Map}
use Rattle.kv_core.specs.Range.{KeyRange, part_before}
use Rattle.kv_core.specs.declared.change.Mutation.{Mutation}
use Rattle.range_set.specs.Told.{gap_in}
use Rattle.metadata.specs.declared.index.IndexDefinition.{IndexDefinition}
use Rattle.metadata.specs.Record.{Record}
use Rattle.index_maint.specs.Built.{position}
use Rattle.index_maint.specs.Kept.{records_within}
use Rattle.index_maint.specs.Parts.{first_part}
use Rattle.record_store.specs.Building.{built_writes, gap_of, limited_to, positions_range}
use Rattle.record_store.specs.Call.{Call, Footprint, Opened, Reading, call_on, whole}
use Rattle.record_store.specs.Layout.{built_place, built_range}
use Rattle.record_store.specs.Meaning.{Meaning, write_only_named}
use Rattle.record_store.specs.Store.{Store, built}
use Rattle.online_builder.specs.declared.progress.Progress.{Progress}
use Rattle.online_builder.specs.declared.progress.Progress.TheVariants.{Built, Finished}

-- what a builder builds: the index of this name, by at most so many records in a step
pub record BuildTask : Type 0 where
  pub name : List ℕ
  pub limit : ℕ

-- a step built something
abbrev pub has_built : Progress → Bool
has_built (Built records range) = true
has_built Finished = false

-- what a step answers by the first gap: the gap's part up to behind so many records, or all of it where there are
-- fewer, and how many records are there
abbrev pub progress_in : ℕ → IndexDefinition → Store → Option KeyRange → Progress
progress_in limit index store None = Finished
progress_in limit index store (Some gap) =
    let part = first_part limit gap index store.records in
    Built (length (records_within part index store.records)) part

-- the store after it: that part is built
abbrev pub stepped : ℕ → IndexDefinition → Store → Option KeyRange → Store
stepped limit index store None = store
stepped limit index store (Some gap) = built store index.number (first_part limit gap index store.records)

-- what it writes, by the map that is there
abbrev pub step_writes : List ℕ → ℕ → IndexDefinition → Map → Store → Option KeyRange → List Mutation
step_writes prefix limit index m store None = []
step_writes prefix limit index m store (Some gap) =
    built_writes prefix index (first_part limit gap index store.records) m store.records

-- what it reads after the built ranges by the first gap that they leave: the first records in it
abbrev pub reading_behind : Opened → ℕ → IndexDefinition → Option KeyRange → Reading
reading_behind opened limit index None = whole []
reading_behind opened limit index (Some gap) = limited_to limit (positions_range opened.prefix index.type_number gap)

-- all built ranges, and what is read after them
abbrev pub reading_by : Opened → ℕ → IndexDefinition → Option KeyRange → Reading
reading_by opened limit index gap = record {
  asked = λ m. built_range opened.prefix index.number ∷ (reading_behind opened limit index gap).asked m;
  added = λ m. built_range opened.prefix index.number ∷ (reading_behind opened limit index gap).added m;
  set = Some index.number;
  pairs = λ m. (reading_behind opened limit index gap).pairs m;
}

-- what it reads of a map, by the gap that the map tells
abbrev pub step_reading : Opened → ℕ → IndexDefinition → Reading
step_reading opened limit index = record {
  asked = λ m. (reading_by opened limit index (gap_in (built_place opened.prefix index.number) m)).asked m;
  added = λ m. (reading_by opened limit index (gap_in (built_place opened.prefix index.number) m)).added m;
  set = Some index.number;
  pairs = λ m. (reading_by opened limit index (gap_in (built_place opened.prefix index.number) m)).pairs m;
}

-- STEP: a part of the first gap is built
abbrev pub step_meaning : ℕ → IndexDefinition → Meaning Progress
step_meaning limit index = record {
  answer = λ store. Ok (progress_in limit index store (gap_of store index.number));
  after = λ store. stepped limit index store (gap_of store index.number);
  changes = has_built;
}

abbrev pub step_footprint : Opened → ℕ → IndexDefinition → Footprint
step_footprint opened limit index = record {
  reading = step_reading opened limit index;
  writes = λ m store. step_writes opened.prefix limit index m store (gap_of store index.number);
}

abbrev pub step_call : Opened → BuildTask → Call Progress
step_call opened plan =
    call_on (step_meaning plan.limit) (step_footprint opened plan.limit)
    (write_only_named opened.schema opened.states plan.name)

-- ---- beneath the call

-- Private: the position after the last of some records, or this end where there are none
abbrev pub last_position : List Record → List ℕ → List ℕ
last_position [] end = end
last_position (r ∷ rows) end = last_position rows (next_key (position r))

-- Private: the part of a gap that is made by the records that were found in it: all of it where they are fewer than so
-- many
abbrev pub part_made : ℕ → List Record → KeyRange → KeyRange
part_made limit rows gap = if nat_lt (length rows) limit then gap else part_before (last_position rows gap.end) gap
