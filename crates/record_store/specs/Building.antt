-- What a builder of a write-only index reads, writes and leaves in one step, by the first gap in the built positions.
use Rattle.std.specs.Prelude.{◌≡◌, ℕ, false, List, [], ◌∷◌, ◌++◌, Option, None, take}
use Rattle.std.specs.List.{AllByRecursion}
use Rattle.kv_core.specs.Map.{Map}
use Rattle.kv_core.specs.Range.{KeyRange}
use Rattle.kv_core.specs.Read.{range_read, read_of}
use Rattle.kv_core.specs.declared.change.CommitRequest.{CommitRequest}
use Rattle.kv_core.specs.declared.change.Mutation.{Mutation}
use Rattle.metadata.specs.declared.index.IndexDefinition.{IndexDefinition}
use Rattle.metadata.specs.Layout.{records_prefix}
use Rattle.metadata.specs.Record.{Record}
use Rattle.range_set.specs.Gaps.{first_gap}
use Rattle.range_set.specs.Told.{insertion_in}
use Rattle.index_maint.specs.Kept.{build_writes, records_within}
use Rattle.record_store.specs.Call.{AtStore, Opened, Reading}
use Rattle.record_store.specs.Form.{IsWritten}
use Rattle.record_store.specs.Layout.{built_place}
use Rattle.record_store.specs.Steps.{DidRead}
use Rattle.record_store.specs.Store.{Store, built_of}

-- the first gap in the built positions of the index with this number
abbrev pub gap_of : Store → ℕ → Option KeyRange
gap_of store number = first_gap (built_of store number)

-- what is written to build a range of positions: what each record there defines, and then what inserts the range
-- beside the built ranges that the map has
abbrev pub built_writes : List ℕ → IndexDefinition → KeyRange → Map → List Record → List Mutation
built_writes prefix index range m records =
    build_writes prefix index (records_within range index records)
    ++ insertion_in (built_place prefix index.number) m range

-- the keys of the records of the type with this number at positions of a range
abbrev pub positions_range : List ℕ → ℕ → KeyRange → KeyRange
positions_range prefix number range = record {
  begin = records_prefix prefix number ++ range.begin;
  end = records_prefix prefix number ++ range.end;
}

-- the first pairs of a range are read, up to a limit
abbrev pub limited_to : ℕ → KeyRange → Reading
limited_to limit range = record {
  asked = λ m. range ∷ [];
  added = λ m. range_read range limit false (read_of m range limit false) ∷ [];
  set = None;
  pairs = λ m. read_of m range limit false;
}

-- the first records of an index's type at positions of a range were read, up to a limit: what was read is of the
-- written form, and these are the records that are there
abbrev pub ArePartRead : Opened → ℕ → IndexDefinition → KeyRange → List Record → KeyRange → Map → Type 0
ArePartRead opened limit index range rows added m =
    let asked = positions_range opened.prefix index.type_number range in
    (added ≡ range_read asked limit false (read_of m asked limit false))
    × AllByRecursion (IsWritten opened.prefix opened.schema) (read_of m asked limit false)
    × AtStore opened m (λ store. rows ≡ take limit (records_within range index store.records))

pub record HasReadPart (maps : ℕ → Map) (opened : Opened) (limit : ℕ) (index : IndexDefinition) (range : KeyRange)
    (rows : List Record) (old new : CommitRequest) : Type 0 where
  pub added : KeyRange
  pub ran : DidRead maps (added ∷ []) old new (ArePartRead opened limit index range rows added)
