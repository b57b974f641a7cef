-- The bytes that a record is stored in: its primary key's pack, and the pack of its first cells.
use Rattle.std.specs.Prelude.{◌≡◌, ℕ, ◌-◌, Bool, true, nat_le, if◌then◌else◌, List, ◌++◌, length, replicate, All}
use Rattle.std.specs.Prelude.{Ok, Option}
use Rattle.std.specs.Prelude.{Some, None}
use Rattle.tuple_codec.specs.Spelling.{spelling}
use Rattle.tuple_codec.specs.Unpacking.{StandsFirst}
use Rattle.metadata.specs.declared.cells.Cell.{Cell}
use Rattle.metadata.specs.declared.cells.Cell.TheVariants.{Null}
use Rattle.metadata.specs.declared.definition.TypeDefinition.{TypeDefinition}
use Rattle.metadata.specs.Cell.{IsCell, item_of, items_of}
use Rattle.metadata.specs.Record.{Record, primary_key, record_in}
use Rattle.metadata.specs.Schema.{Schema, type_at}

-- the cells of a record of this type by those that are stored: null in the fields that they leave out, none of which
-- the type was added with
abbrev pub filled : TypeDefinition → List Cell → Option (List Cell)
filled type stored =
    if nat_le type.first_fields (length stored)
    then Some (stored ++ replicate (length type.fields - length stored) Null)
    else None

-- the record is one of this type, and has this key and this value: the pack of its first cells, all of those that the
-- type was added with and perhaps more; the others are null
pub record IsStoredAs (type : TypeDefinition) (key value : List ℕ) (r : Record) : Type 0 where
  pub made : record_in type r.cells ≡ Ok r
  pub cells : All IsCell r.cells
  pub has_key : key ≡ spelling (primary_key r)
  pub stored : List Cell
  pub fills : filled type stored ≡ Some r.cells
  pub has_value : value ≡ spelling (items_of stored)

-- no record of this type has this key and this value
abbrev pub IsOfNoRecord : TypeDefinition → List ℕ → List ℕ → Type 0
IsOfNoRecord type key value = (r : Record) → IsStoredAs type key value r → ⊥

-- the value is that of these cells
pub record AreStoredAs (value : List ℕ) (stored : List Cell) : Type 0 where
  pub cells : All IsCell stored
  pub has_value : value ≡ spelling (items_of stored)

-- the value is that of no cells
abbrev pub IsOfNoCells : List ℕ → Type 0
IsOfNoCells value = (stored : List Cell) → AreStoredAs value stored → ⊥

-- bytes begin with the pack of this cell, and these are after it
abbrev pub BeginsWithCell : Cell → List ℕ → List ℕ → Type 0
BeginsWithCell cell rest bytes = IsCell cell × StandsFirst (item_of cell) rest bytes

-- bytes begin with the pack of a cell of which this is so, and these are after it
abbrev pub BeginsWithOne : (Cell → Bool) → List ℕ → List ℕ → Type 0
BeginsWithOne so rest bytes = (cell : Cell) × (so cell ≡ true) × BeginsWithCell cell rest bytes

-- the type is one of the schema's
abbrev pub IsTypeOf : Schema → TypeDefinition → Type 0
IsTypeOf schema type = type_at schema.types type.number ≡ Some type
