-- A record, its primary key, and what is refused as a record or as a key.
use Rattle.std.specs.Prelude.{ℕ, Bool, true, false, List, ◌∷◌, Option, Some, None, pos, Result, Ok, Err}
use Rattle.std.specs.List.{list_any}
use Rattle.tuple_codec.specs.Item.{Item, int}
use Rattle.metadata.specs.declared.cells.Cell.{Cell}
use Rattle.metadata.specs.declared.definition.TypeDefinition.{TypeDefinition}
use Rattle.metadata.specs.declared.refusal.Refusal.{Refusal}
use Rattle.metadata.specs.declared.refusal.Refusal.TheVariants.{UnknownType, WrongKind, NullKey}
use Rattle.metadata.specs.Cell.{all_fit, cells_at, is_null, items_of}
use Rattle.metadata.specs.Schema.{Schema, find_type, field_kinds, key_kinds}

-- a record: its type's definition, and a cell for each field
pub record Record : Type 0 where
  pub definition : TypeDefinition
  pub cells : List Cell

-- the primary key of the record with these key cells: the type's number, then the key cells
abbrev pub key_items : ℕ → List Cell → List Item
key_items number cells = int (pos number) ∷ items_of cells

-- the cells of a record in its key fields
abbrev pub key_cells : Record → List Cell
key_cells «record» = cells_at «record».cells «record».definition.key

-- the primary key of a record
abbrev pub primary_key : Record → List Item
primary_key «record» = key_items «record».definition.number (key_cells «record»)

-- the record of this type with these cells, or the first refusal
abbrev pub record_in : TypeDefinition → List Cell → Result Record Refusal
record_in type cells = sized (all_fit (field_kinds type) cells)
  where
    keyed : Bool → Result Record Refusal
    keyed true = Err NullKey
    keyed false = Ok (record { definition = type; cells = cells })

    sized : Bool → Result Record Refusal
    sized false = Err WrongKind
    sized true = keyed (list_any is_null (cells_at cells type.key))

-- the record of the type of this name with these cells, or the first refusal
abbrev pub record_of : Schema → List ℕ → List Cell → Result Record Refusal
record_of schema name cells = elim (find_type schema name) [ None ↦ Err UnknownType | Some type ↦ record_in type cells ]

-- the primary key of the record of this type with these key cells, or the first refusal
abbrev pub key_in : TypeDefinition → List Cell → Result (List Item) Refusal
key_in type cells = sized (all_fit (key_kinds type) cells)
  where
    keyed : Bool → Result (List Item) Refusal
    keyed true = Err NullKey
    keyed false = Ok (key_items type.number cells)

    sized : Bool → Result (List Item) Refusal
    sized false = Err WrongKind
    sized true = keyed (list_any is_null cells)

-- the primary key of the type of this name with these key cells, or the first refusal
abbrev pub key_of : Schema → List ℕ → List Cell → Result (List Item) Refusal
key_of schema name cells = elim (find_type schema name) [ None ↦ Err UnknownType | Some type ↦ key_in type cells ]
