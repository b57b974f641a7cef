-- The form of an entry: a tuple, and the pack of it.
use Rattle.std.specs.Prelude.{◌<◌, ◌^◌, ℕ, Option, Some, None, List, [], ◌∷◌, map, All, ⊤}
use Rattle.tuple_codec.specs.Item.{Item, IsTuple, bool, null, text}
use Rattle.tuple_codec.specs.Spelling.{spelling}
use Rattle.metadata.specs.declared.definition.TypeRequest.{TypeRequest}
use Rattle.metadata.specs.declared.index.IndexRequest.{IndexRequest}
use Rattle.metadata.specs.Cell.{IsCell, items_of}
use Rattle.metadata.specs.Written.{field_item, index_kind_number, nested_item, number_item}
use Rattle.command_log.specs.declared.change.Change.{Change}
use Rattle.command_log.specs.declared.change.Change.TheVariants.{Create, «Type», Field, Index, Save, Remove}
use Rattle.command_log.specs.declared.change.Change.TheVariants.{Drop, Disable, WriteOnly, Readable, Build}
use Rattle.command_log.specs.declared.entry.Entry.{Entry}

-- names, in order
abbrev pub names_item : List (List ℕ) → Item
names_item names = nested_item (map text names)

-- (name, ((field name, kind)..), (name of a key field..)), where kinds are 1 whole number, 2 text, 3 bytes
abbrev pub asked_type_parts : TypeRequest → List Item
asked_type_parts type = text type.name ∷ nested_item (map field_item type.fields) ∷ names_item type.key ∷ []

abbrev pub asked_type_item : TypeRequest → Item
asked_type_item type = nested_item (asked_type_parts type)

-- the name of the summed field, or null
abbrev pub summed_name : Option (List ℕ) → Item
summed_name (Some name) = text name
summed_name None = null

-- (name, kind, name of the type, (name of a column..), name of the summed field or null, whether it is cleared at
-- zero), where kinds are 1 VALUE, 2 COUNT, 3 SUM
abbrev pub asked_index_parts : IndexRequest → List Item
asked_index_parts index =
    text index.name ∷ number_item (index_kind_number index.kind) ∷ text index.type_name ∷ names_item index.columns
    ∷ summed_name index.summed ∷ bool index.clear_when_zero ∷ []

abbrev pub asked_index_item : IndexRequest → Item
asked_index_item index = nested_item (asked_index_parts index)

-- a change: its number, and what it says
abbrev pub change_parts : Change → List Item
change_parts (Create request) =
    number_item 1 ∷ nested_item (map asked_type_item request.types)
    ∷ nested_item (map asked_index_item request.indexes) ∷ []
change_parts («Type» request) = number_item 2 ∷ asked_type_item request ∷ []
change_parts (Field name field) = number_item 3 ∷ text name ∷ field_item field ∷ []
change_parts (Index request) = number_item 4 ∷ asked_index_item request ∷ []
change_parts (Save name cells) = number_item 5 ∷ text name ∷ nested_item (items_of cells) ∷ []
change_parts (Remove name cells) = number_item 6 ∷ text name ∷ nested_item (items_of cells) ∷ []
change_parts (Drop name) = number_item 7 ∷ text name ∷ []
change_parts (Disable name) = number_item 8 ∷ text name ∷ []
change_parts (WriteOnly name) = number_item 9 ∷ text name ∷ []
change_parts (Readable name) = number_item 10 ∷ text name ∷ []
change_parts (Build name limit) = number_item 11 ∷ text name ∷ number_item limit ∷ []

abbrev pub change_item : Change → Item
change_item change = nested_item (change_parts change)

-- (form, version, client, number, store, (change..)), where the form is 1
abbrev pub tuple_of_entry : Entry → List Item
tuple_of_entry entry =
    number_item 1 ∷ number_item entry.version ∷ number_item entry.client ∷ number_item entry.number
    ∷ number_item entry.store ∷ nested_item (map change_item entry.changes) ∷ []

-- the bytes of an entry
abbrev pub bytes_of_entry : Entry → List ℕ
bytes_of_entry entry = spelling (tuple_of_entry entry)

-- cells and limits are values of their types
abbrev pub IsChange : Change → Type 0
IsChange (Save name cells) = All IsCell cells
IsChange (Remove name cells) = All IsCell cells
IsChange (Build name limit) = limit < 2 ^ 32
IsChange other = ⊤

-- all of an entry is of its type: whole numbers have 64 bits, texts are UTF-8
pub record IsEntry (entry : Entry) : Type 0 where
  pub tuple : IsTuple (tuple_of_entry entry)
  pub changes : All IsChange entry.changes
