-- The words that show people a range of keys.
use Rattle.std.specs.Prelude.{ℕ, List, [], ◌∷◌, ◌++◌, codes, length, map, Option, Some, slice_get, bytes_eq}
use Rattle.std.specs.Prelude.{if◌then◌else◌, option_map}
use Rattle.std.specs.List.{zip}
use Rattle.std.specs.Option.{option_map_or}
use Rattle.serde_json.specs.Written.{compact_text}
use Rattle.json_forms.specs.CellJson.{cell_data}
use Rattle.metadata.specs.declared.cells.Cell.{Cell}
use Rattle.metadata.specs.declared.cells.Cell.TheVariants.{Null}
use Rattle.metadata.specs.declared.definition.TypeDefinition.{TypeDefinition}
use Rattle.planner.specs.Match.{name_at}
use Rattle.planner.specs.Range.{PlanRange, Bound, above, from, below, up_to, prefixed}
use Rattle.explain.specs.Told.{Told, range_told}

-- a column and a cell, with a word between them
abbrev pub compared : List ℕ → List ℕ → Cell → List ℕ
compared name word cell = name ++ word ++ compact_text (cell_data cell)

-- the cell of a column
abbrev pub equality : List ℕ → Cell → List ℕ
equality name Null = name ++ codes " is null"
equality name cell = compared name (codes " = ") cell

-- a bound on a column
abbrev pub bound_text : List ℕ → Bound → List ℕ
bound_text name (above cell) = compared name (codes " > ") cell
bound_text name (from cell) = compared name (codes " >= ") cell
bound_text name (below cell) = compared name (codes " < ") cell
bound_text name (up_to cell) = compared name (codes " <= ") cell
bound_text name (prefixed cell) = compared name (codes " starts ") cell

module _ (t : TypeDefinition) (columns : List ℕ) where
  -- the cells of the first columns
  abbrev pub equalities : List Cell → List (List ℕ)
  equalities cells = map (λ p. equality (name_at t p.0) p.1) (zip columns cells)

  -- the name of the column behind so many others
  abbrev pub name_behind : ℕ → List ℕ
  name_behind fixed = option_map_or (name_at t) (slice_get columns fixed) []

  -- the conditions on the columns
  abbrev pub conditions : Told → List (List ℕ)
  conditions told =
      equalities told.fixed ++ map (bound_text (name_behind (length told.fixed))) told.bounds

-- conditions, with `and` between each two; `all` where there is none
abbrev pub and_all : List (List ℕ) → List ℕ
and_all [] = codes "all"
and_all (c ∷ []) = c
and_all (c ∷ d ∷ cs) = c ++ codes " and " ++ and_all (d ∷ cs)

abbrev pub told_text : TypeDefinition → List ℕ → Told → List ℕ
told_text t columns told = and_all (conditions t columns told)

-- what a range says of the columns at some places of a type, if that can be told
abbrev pub range_words : TypeDefinition → List ℕ → PlanRange → Option (List ℕ)
range_words t columns range =
    if bytes_eq range.begin range.end then Some (codes "nothing")
    else option_map (told_text t columns) (range_told range)
