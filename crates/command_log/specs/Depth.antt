-- Private: how deep tuples nest in the form of an entry.
use Rattle.std.specs.Prelude.{◌≡◌, refl, ℕ, ◌≤◌, ◌<◌, Option, Some, None, List, [], ◌∷◌, map}
use Rattle.std.proofs.Common.{arith}
use Rattle.tuple_codec.specs.Item.{item_depth, nesting, text}
use Rattle.metadata.specs.declared.cells.Cell.{Cell}
use Rattle.metadata.specs.declared.cells.Cell.TheVariants as cell
use Rattle.metadata.specs.declared.definition.Field.{Field}
use Rattle.metadata.specs.declared.definition.TypeRequest.{TypeRequest}
use Rattle.metadata.specs.declared.index.IndexRequest.{IndexRequest}
use Rattle.metadata.specs.Cell.{item_of}
use Rattle.metadata.specs.Written.{field_item}
use Rattle.command_log.specs.declared.change.Change.{Change}
use Rattle.command_log.specs.declared.change.Change.TheVariants as changes
use Rattle.command_log.specs.declared.entry.Entry.{Entry}
use Rattle.command_log.specs.Form.{asked_index_item, asked_type_item, change_item, change_parts, summed_name}
use Rattle.command_log.specs.Form.{tuple_of_entry}

pub nesting-names : (names : List (List ℕ)) → nesting (map text names) ≡ 0
nesting-names [] = refl
nesting-names (name ∷ names) = omega (arith, nesting-names names)

pub nesting-cells : (cells : List Cell) → nesting (map item_of cells) ≡ 0
nesting-cells [] = refl
nesting-cells (cell.Null ∷ cells) = omega (arith, nesting-cells cells)
nesting-cells ((cell.Int value) ∷ cells) = omega (arith, nesting-cells cells)
nesting-cells ((cell.Text value) ∷ cells) = omega (arith, nesting-cells cells)
nesting-cells ((cell.Bytes value) ∷ cells) = omega (arith, nesting-cells cells)

pub nesting-fields : (fields : List Field) → nesting (map field_item fields) ≤ 1
nesting-fields [] = omega arith
nesting-fields (field ∷ fields) = omega (arith, nesting-fields fields)

pub depth-type : (type : TypeRequest) → item_depth (asked_type_item type) ≤ 3
depth-type type = omega (arith, nesting-fields type.fields, nesting-names type.key)

pub nesting-types : (types : List TypeRequest) → nesting (map asked_type_item types) ≤ 3
nesting-types [] = omega arith
nesting-types (type ∷ types) = omega (arith, depth-type type, nesting-types types)

pub depth-summed : (summed : Option (List ℕ)) → item_depth (summed_name summed) ≡ 0
depth-summed None = refl
depth-summed (Some name) = refl

pub depth-index : (index : IndexRequest) → item_depth (asked_index_item index) ≤ 2
depth-index index = omega (arith, nesting-names index.columns, depth-summed index.summed)

pub nesting-indexes : (indexes : List IndexRequest) → nesting (map asked_index_item indexes) ≤ 2
nesting-indexes [] = omega arith
nesting-indexes (index ∷ indexes) = omega (arith, depth-index index, nesting-indexes indexes)

pub nesting-parts : (change : Change) → nesting (change_parts change) ≤ 4
nesting-parts (changes.Create request) = omega (arith, nesting-types request.types, nesting-indexes request.indexes)
nesting-parts (changes.«Type» request) = omega (arith, depth-type request)
nesting-parts (changes.Field name field) = omega arith
nesting-parts (changes.Index request) = omega (arith, depth-index request)
nesting-parts (changes.Save name cells) = omega (arith, nesting-cells cells)
nesting-parts (changes.Remove name cells) = omega (arith, nesting-cells cells)
nesting-parts (changes.Drop name) = omega arith
nesting-parts (changes.Disable name) = omega arith
nesting-parts (changes.WriteOnly name) = omega arith
nesting-parts (changes.Readable name) = omega arith
nesting-parts (changes.Build name limit) = omega arith

pub nesting-changes : (made : List Change) → nesting (map change_item made) ≤ 5
nesting-changes [] = omega arith
nesting-changes (change ∷ made) = omega (arith, nesting-parts change, nesting-changes made)

pub nesting-entry : (entry : Entry) → nesting (tuple_of_entry entry) ≤ 6
nesting-entry entry = omega (arith, nesting-changes entry.changes)

-- several nest fewer than 16 deep
pub shallow-names : (names : List (List ℕ)) → nesting (map text names) < 16
shallow-names names = omega (arith, nesting-names names)

pub shallow-cells : (cells : List Cell) → nesting (map item_of cells) < 16
shallow-cells cells = omega (arith, nesting-cells cells)

pub shallow-fields : (fields : List Field) → nesting (map field_item fields) < 16
shallow-fields fields = omega (arith, nesting-fields fields)

pub shallow-types : (types : List TypeRequest) → nesting (map asked_type_item types) < 16
shallow-types types = omega (arith, nesting-types types)

pub shallow-indexes : (indexes : List IndexRequest) → nesting (map asked_index_item indexes) < 16
shallow-indexes indexes = omega (arith, nesting-indexes indexes)

pub shallow-changes : (made : List Change) → nesting (map change_item made) < 16
shallow-changes made = omega (arith, nesting-changes made)
