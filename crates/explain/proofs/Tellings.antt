-- What is told of ranges, step by step.
use Rattle.std.proofs.Common.{◌≡◌, ◌∙◌, ℕ, List, [], ◌∷◌, ◌++◌, Option, Some, None, option_map, option_and_then, refl, ap, sym}
use Rattle.std.specs.Option.{option_or}
use Rattle.metadata.specs.declared.cells.Cell.{Cell}
use Rattle.metadata.specs.declared.definition.TypeDefinition.{TypeDefinition}
use Rattle.planner.specs.Range.{PlanRange}
use Rattle.explain.specs.Shown.{equalities, told_text}
use Rattle.explain.specs.Told.{Told, open_cells, parted, range_told, told_by_edges, told_by_prefix, told_prefix}
use Rattle.explain.proofs.Packs.{parted_more}

-- no cells are told of nothing
pub equalities_of_none : (t : TypeDefinition) (columns : List ℕ) → equalities t columns [] ≡ []
equalities_of_none t [] = refl
equalities_of_none t (column ∷ columns) = refl

-- a range whose cells are these and a last one
pub told_open : (range : PlanRange) (cells front : List Cell) (last : Cell) → Some cells ≡ open_cells range → cells ≡ front ++ last ∷ [] → told_by_prefix range ≡ told_prefix (front, last)
told_open range cells front last is e =
    ap (λ o. option_and_then told_prefix (option_and_then parted o)) (sym is) ∙ ap (option_and_then told_prefix) (ap parted e ∙ parted_more front last)

-- what the edges tell is told, and else what the beginning tells
pub told_first : (text : Told → List ℕ) (range : PlanRange) (words : List ℕ) → Some words ≡ option_map text (told_by_edges range) → Some words ≡ option_map text (range_told range)
told_first text range words e = by (told_by_edges range) e
  where
    by : (o : Option Told) → Some words ≡ option_map text o → Some words ≡ option_map text (option_or o (told_by_prefix range))
    by None h = cc
    by (Some t) h = h

pub told_second : (text : Told → List ℕ) (range : PlanRange) → None ≡ option_map text (told_by_edges range) → option_map text (range_told range) ≡ option_map text (told_by_prefix range)
told_second text range e = by (told_by_edges range) e
  where
    by : (o : Option Told) → None ≡ option_map text o → option_map text (option_or o (told_by_prefix range)) ≡ option_map text (told_by_prefix range)
    by None h = refl
    by (Some t) h = cc
