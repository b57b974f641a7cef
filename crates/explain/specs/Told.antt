-- What is told of a range of keys: the cells of its first columns, and bounds on the next one.
use Rattle.std.specs.Prelude.{ℕ, ◌==◌, Bool, false, List, [], ◌∷◌, ◌++◌, length, take, drop, Option, Some, None}
use Rattle.std.specs.Prelude.{if◌then◌else◌, bytes_eq, option_map, option_and_then, take_while}
use Rattle.std.specs.List.{zip}
use Rattle.std.specs.Option.{option_map_or, option_or}
use Rattle.std.specs.Ordering.{is_eq}
use Rattle.tuple_codec.specs.Subspace.{strinc}
use Rattle.metadata.specs.declared.cells.Cell.{Cell}
use Rattle.metadata.specs.Order.{cell_cmp, is_string}
use Rattle.planner.specs.Pack.{unpack}
use Rattle.planner.specs.Range.{PlanRange, Bound, above, from, below, up_to, prefixed}
use Rattle.explain.specs.declared.edges.Edge.{Edge}
use Rattle.explain.specs.declared.edges.Passed.{Passed}
use Rattle.explain.specs.declared.edges.Passed.TheVariants.{Nothing, Null, All}

-- a list without its last item, and that item
abbrev pub parted : {A : Type 0} → List A → Option (List A × A)
parted [] = None
parted (x ∷ []) = Some ([], x)
parted (x ∷ y ∷ xs) = option_map (λ p. (x ∷ p.0, p.1)) (parted (y ∷ xs))

-- ---- edges

-- an edge behind some of the keys that begin with its cells
abbrev pub edge : Passed → List Cell → Edge
edge passed cells = record { cells = cells; passed = passed }

-- what a byte behind the pack of an edge's cells says is passed: 01 the keys that go on with null, FF all
abbrev pub passed_by : ℕ → Option Passed
passed_by byte = if byte == 0x01 then Some Null else if byte == 0xff then Some All else None

-- the edge at the pack of cells and a byte behind it
abbrev pub edge_behind : List ℕ × ℕ → Option Edge
edge_behind p = option_and_then (λ passed. option_map (edge passed) (unpack p.0)) (passed_by p.1)

-- the edge at which a range begins or ends: the pack of cells, or that and one byte
abbrev pub edge_in : List ℕ → Option Edge
edge_in bytes =
    option_or (option_map (edge Nothing) (unpack bytes)) (option_and_then edge_behind (parted bytes))

-- ---- bounds

-- the bound that the first edge sets on a column, from its cell and what it passes
abbrev pub lower : List Cell → Passed → Option Bound
lower (cell ∷ []) Nothing = Some (from cell)
lower (cell ∷ []) All = Some (above cell)
lower cells passed = None

-- the bound that the second edge sets
abbrev pub upper : List Cell → Passed → Option Bound
upper (cell ∷ []) Nothing = Some (below cell)
upper (cell ∷ []) All = Some (up_to cell)
upper cells passed = None

-- a list of one bound, and of two, where there are as many
abbrev pub one : Option Bound → Option (List Bound)
one bound = option_map (λ b. b ∷ []) bound

abbrev pub both_bounds : Option Bound → Option Bound → Option (List Bound)
both_bounds low high = option_and_then (λ l. option_map (λ h. l ∷ h ∷ []) high) low

-- the bounds that two edges set on a column: none, an upper one alone, where the first edge has passed null, a lower
-- one alone, or both
abbrev pub bounds_between : List Cell → Passed → List Cell → Passed → Option (List Bound)
bounds_between [] Nothing [] All = Some []
bounds_between [] Null end to = one (upper end to)
bounds_between begin since [] All = one (lower begin since)
bounds_between begin since end to = both_bounds (lower begin since) (upper end to)

-- ---- ranges

-- what is told: the cells of the first columns, and the bounds on the next one
pub record Told : Type 0 where
  pub fixed : List Cell
  pub bounds : List Bound

-- two cells are the same
abbrev pub is_same : Cell × Cell → Bool
is_same p = is_eq (cell_cmp p.0 p.1)

-- how many cells two lists have first alike
abbrev pub shared_cells : List Cell → List Cell → ℕ
shared_cells xs ys = length (take_while is_same (zip xs ys))

-- what two edges tell: the cells that they share, and the bounds behind them
abbrev pub told_between : Edge → Edge → Option Told
told_between begin end =
    let n = shared_cells begin.cells end.cells in
    option_map (λ bounds. record { fixed = take n begin.cells; bounds = bounds })
    (bounds_between (drop n begin.cells) begin.passed (drop n end.cells) end.passed)

-- what the edges of a range tell
abbrev pub told_by_edges : PlanRange → Option Told
told_by_edges range =
    option_and_then (λ begin. option_and_then (told_between begin) (edge_in range.end)) (edge_in range.begin)

-- whether a range has all keys that begin as it does
abbrev pub has_all : PlanRange → Bool
has_all range = option_map_or (bytes_eq range.end) (strinc range.begin) false

-- the cells whose pack the beginning of a range is but for the closing 00, where the range has all keys that begin so
abbrev pub open_cells : PlanRange → Option (List Cell)
open_cells range = if has_all range then unpack (range.begin ++ 0 ∷ []) else None

-- what cells tell of which the last one is a text or a byte string that begins so
abbrev pub told_prefix : List Cell × Cell → Option Told
told_prefix p = if is_string p.1 then Some (record { fixed = p.0; bounds = prefixed p.1 ∷ [] }) else None

-- what a range tells that has all keys that begin as it does
abbrev pub told_by_prefix : PlanRange → Option Told
told_by_prefix range = option_and_then told_prefix (option_and_then parted (open_cells range))

-- what is told of a range, if something can be
abbrev pub range_told : PlanRange → Option Told
range_told range = option_or (told_by_edges range) (told_by_prefix range)
