-- Private: what the rows of a step have still to give.
use Rattle.std.specs.Prelude.{ℕ, suc, not, List, [], ◌∷◌, ◌++◌, map, sum, None}
use Rattle.std.specs.BTreeSet.{contains}
use Rattle.metadata.specs.Layout.{Pair}
use Rattle.metadata.specs.Order.{cells_cmp}
use Rattle.metadata.specs.Record.{Record}
use Rattle.query.specs.Filter.{Filter}
use Rattle.query.specs.Truth.{selects}
use Rattle.query.specs.View.{filter_of}
use Rattle.planner.specs.Layout.{primary_cells}
use Rattle.plan_exec.specs.Course.{Course, first_course, kept_course}
use Rattle.plan_exec.specs.Levels.{merged_levels}
use Rattle.plan_exec.specs.Sources.{source_left}
use Rattle.plan_exec.specs.Streams.{pair_course, records_fetched, records_made}
use Rattle.plan_exec.specs.declared.distinct.PrimaryKeys.{PrimaryKeys}
use Rattle.plan_exec.specs.declared.level.Level.{Level}
use Rattle.plan_exec.specs.declared.rows.Rows.{Rows, fold-Rows}
use Rattle.plan_exec.specs.declared.rows.Rows.TheOpen.{Rows-F}
use Rattle.plan_exec.specs.declared.rows.Step.{Step}
use Rattle.plan_exec.specs.declared.rows.Step.TheVariants.{Scanned, Fetched, Kept, First, Merged, Chained}

-- what the rows of a part have still to give, by the pairs of a map, and the next things that are known
abbrev pub RowsLevel : Type 0
RowsLevel = Level (List Pair → Course Record) Record

-- a part of which nothing is known yet
abbrev pub new_level : (List Pair → Course Record) → RowsLevel
new_level course = record { stream = course; head = None; other = None }

-- the rows of one part after another
abbrev pub chained_levels : List RowsLevel → List Pair → Course Record
chained_levels [] pairs = []
chained_levels (level ∷ levels) pairs = level.stream pairs ++ chained_levels levels pairs

-- those at which a filter is true
abbrev pub kept_rows : Filter → List RowsLevel → List Pair → Course Record
kept_rows condition levels pairs = kept_course (selects condition) (chained_levels levels pairs)

-- those whose primary key isn't in the set and didn't stand before
abbrev pub first_rows : PrimaryKeys → List RowsLevel → List Pair → Course Record
first_rows seen levels pairs =
    kept_course (λ row. not (contains cells_cmp seen.keys (primary_cells row)))
    (first_course primary_cells (chained_levels levels pairs))

-- the rows of a step, by what its parts have still to give
abbrev pub step_course : Step → List RowsLevel → List Pair → Course Record
step_course (Scanned records) levels pairs = records_made records.records.now (pair_course records.pairs pairs)
step_course (Fetched records) levels pairs =
    records_fetched records.records.now pairs (source_left records.entries pairs)
step_course (Kept condition) levels pairs = kept_rows (filter_of condition.now) levels pairs
step_course (First seen) levels pairs = first_rows seen levels pairs
step_course Merged levels pairs = merged_levels (λ stream. stream) primary_cells levels pairs
step_course Chained levels pairs = chained_levels levels pairs

-- one level of rows, by those of its parts
abbrev pub level_step : Rows-F RowsLevel → RowsLevel
level_step rows = record { stream = step_course rows.step rows.parts.items; head = rows.head; other = rows.other }

abbrev pub level_of : Rows → RowsLevel
level_of = fold-Rows RowsLevel level_step

-- how many steps rows have, themselves and below them
abbrev pub weight : Rows → ℕ
weight = fold-Rows ℕ (λ rows. suc (sum rows.parts.items))

abbrev pub weights : List Rows → ℕ
weights parts = sum (map weight parts)
