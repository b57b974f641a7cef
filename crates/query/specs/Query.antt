-- What a query asks for. No index and no key of a database occurs.
use Rattle.std.specs.Prelude.{◌≢◌, ◌↔◌, ℕ, Bool, List, map, if◌then◌else◌}
use Rattle.std.specs.Prelude.{IsTrue, Contains, AllPairs, IsSortedByKey}
use Rattle.std.specs.declared.cmp.Ordering.{Ordering}
use Rattle.std.specs.Ordering.{flip_args}
use Rattle.metadata.specs.declared.cells.Cell.{Cell}
use Rattle.metadata.specs.Record.{Record}
use Rattle.metadata.specs.Order.{cells_cmp}
use Rattle.query.specs.Fields.{cell_named}
use Rattle.metadata.specs.Record.{primary_key}
use Rattle.query.specs.Filter.{Filter}
use Rattle.query.specs.Truth.{selects}

-- the records of a type that a filter selects, sorted by the fields of these names
pub record Query : Type 0 where
  pub record_type : List ℕ
  pub filter : Filter
  pub sort : List (List ℕ)
  pub reverse : Bool

-- the record's cells in the sort fields
abbrev pub sort_cells : List (List ℕ) → Record → List Cell
sort_cells names r = map (cell_named r) names

-- null first and rising, or turned round
abbrev pub sort_cmp : Bool → List Cell → List Cell → Ordering
sort_cmp reversed = if reversed then flip_args cells_cmp else cells_cmp

-- the rows are an answer to the query over the records of its type
pub record Allows (query : Query) (records rows : List Record) : Type 0 where
  pub exactly : (r : Record) → Contains rows r ↔ (Contains records r × IsTrue (selects query.filter r))
  pub once : AllPairs (λ r s. primary_key r ≢ primary_key s) rows
  pub in_order : IsSortedByKey (sort_cells query.sort) (sort_cmp query.reverse) rows
