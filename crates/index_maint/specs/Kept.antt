-- What a map has of an index, by its kind and its state, and what is written for it.
use Rattle.std.specs.Prelude.{◌≡◌, ℕ, Bool, if◌then◌else◌, List, [], ◌++◌, Option, Some, None, filter}
use Rattle.std.specs.FinMap.{get}
use Rattle.std.specs.List.{flat_map}
use Rattle.kv_core.specs.Map.{Map}
use Rattle.kv_core.specs.Range.{KeyRange, contains}
use Rattle.kv_core.specs.declared.change.Mutation.{Mutation}
use Rattle.metadata.specs.declared.index.IndexDefinition.{IndexDefinition}
use Rattle.metadata.specs.declared.index.IndexKind.{IndexKind}
use Rattle.metadata.specs.declared.index.IndexKind.TheVariants.{Value, Count, Sum}
use Rattle.metadata.specs.declared.index.State.{State}
use Rattle.metadata.specs.declared.index.State.TheVariants.{Readable, WriteOnly, Disabled}
use Rattle.metadata.specs.Record.{Record}
use Rattle.metadata.specs.Records.{of_type}
use Rattle.index_maint.specs.Built.{HasSomeEntries, built_records, position}
use Rattle.index_maint.specs.Changes.{HasEntries, value_changes}
use Rattle.index_maint.specs.Layout.{entries_prefix}
use Rattle.index_maint.specs.Totals.{HasCounts, HasSums, count_changes, sum_changes}

-- ---- what a map has

-- a map has what the records define, by the index's kind
abbrev pub HasDefined : IndexKind → List ℕ → IndexDefinition → List Record → Map → Type 0
HasDefined Value prefix index records m = HasEntries prefix index records m
HasDefined Count prefix index records m = HasCounts prefix index records m
HasDefined Sum prefix index records m = HasSums prefix index records m

-- a map has what is built of a write-only index, by the index's kind: of a VALUE index only entries of the records, and
-- all those of the records at built positions; of a COUNT or SUM the totals over just the records at built positions
abbrev pub HasPart : IndexKind → List ℕ → IndexDefinition → List KeyRange → List Record → Map → Type 0
HasPart Value prefix index built records m = HasSomeEntries prefix index built records m
HasPart Count prefix index built records m = HasCounts prefix index (built_records built records) m
HasPart Sum prefix index built records m = HasSums prefix index (built_records built records) m

-- what a map has of an index by its state: what the records define where it is readable, what is built of that where it
-- is write-only, nothing where it is disabled
abbrev pub HasKept : State → List ℕ → IndexDefinition → List KeyRange → List Record → Map → Type 0
HasKept Readable prefix index built records m = HasDefined index.kind prefix index records m
HasKept WriteOnly prefix index built records m = HasPart index.kind prefix index built records m
HasKept Disabled prefix index built records m =
    (bytes : List ℕ) → get m (entries_prefix prefix index.number ++ bytes) ≡ None

-- ---- what is written

-- what is written where one record of the index's type gives way to another, by the index's kind
abbrev pub changes_by : IndexKind → List ℕ → IndexDefinition → Option Record → Option Record → List Mutation
changes_by Value prefix index old new = value_changes prefix index old new
changes_by Count prefix index old new = count_changes prefix index old new
changes_by Sum prefix index old new = sum_changes prefix index old new

-- so for a write-only index: an entry always, a total only where the records' position is built
abbrev pub part_changes_by :
    IndexKind → List ℕ → IndexDefinition → Bool → Option Record → Option Record → List Mutation
part_changes_by Value prefix index at_built old new = value_changes prefix index old new
part_changes_by Count prefix index at_built old new = if at_built then count_changes prefix index old new else []
part_changes_by Sum prefix index at_built old new = if at_built then sum_changes prefix index old new else []

-- what is written for an index of the records' type, by its state
abbrev pub kept_writes : State → List ℕ → IndexDefinition → Bool → Option Record → Option Record → List Mutation
kept_writes Readable prefix index at_built old new = changes_by index.kind prefix index old new
kept_writes WriteOnly prefix index at_built old new = part_changes_by index.kind prefix index at_built old new
kept_writes Disabled prefix index at_built old new = []

-- ---- what a builder writes

-- the records of an index's type at positions of a range
abbrev pub records_within : KeyRange → IndexDefinition → List Record → List Record
records_within range index records = filter (λ r. contains range (position r)) (of_type index.type_number records)

-- what is written to build some of them: what each defines
abbrev pub build_writes : List ℕ → IndexDefinition → List Record → List Mutation
build_writes prefix index records = flat_map (λ r. changes_by index.kind prefix index None (Some r)) records
