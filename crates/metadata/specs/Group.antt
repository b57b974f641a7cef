-- Which cells may be a group of an index.
use Rattle.std.specs.Prelude.{ℕ, Bool, true, false, ◌&&◌, List, [], ◌∷◌, Option, Some, None}
use Rattle.std.specs.Option.{option_map_or}
use Rattle.metadata.specs.declared.cells.Cell.{Cell}
use Rattle.metadata.specs.declared.cells.Kind.{Kind}
use Rattle.metadata.specs.declared.definition.Field.{Field}
use Rattle.metadata.specs.declared.index.IndexDefinition.{IndexDefinition}
use Rattle.metadata.specs.Cell.{fits}
use Rattle.metadata.specs.Schema.{Schema, kind_at, type_at}

-- a cell may stand in a field of this kind, if there is such a field
abbrev pub fits_field : Option Kind → Cell → Bool
fits_field None cell = false
fits_field (Some kind) cell = fits kind cell

-- as many cells as places of fields, each null or of the kind of the field there
abbrev pub fits_places : List Field → List ℕ → List Cell → Bool
fits_places fields [] [] = true
fits_places fields (place ∷ places) (cell ∷ cells) =
    fits_field (kind_at fields place) cell && fits_places fields places cells
fits_places fields places cells = false

-- the cells may be a group of the index: one for each of its columns, null or of the column's kind
abbrev pub fits_group : Schema → IndexDefinition → List Cell → Bool
fits_group schema index group =
    option_map_or (λ type. fits_places type.fields index.columns group) (type_at schema.types index.type_number) false
