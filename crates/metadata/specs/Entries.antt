-- The entries that records define.
use Rattle.std.specs.Prelude.{Bool, List, ◌++◌, ◌==◌, map}
use Rattle.tuple_codec.specs.Item.{Item}
use Rattle.metadata.specs.declared.cells.Cell.{Cell}
use Rattle.metadata.specs.declared.index.IndexDefinition.{IndexDefinition}
use Rattle.metadata.specs.Cell.{cells_at, items_of}
use Rattle.metadata.specs.Record.{Record, primary_key}
use Rattle.metadata.specs.Records.{of_type}

-- an entry of a VALUE index: the cells of its columns, and the primary key of its record
pub record IndexEntry : Type 0 where
  pub columns : List Cell
  pub key : List Item

-- the record is of the index's type
abbrev pub is_indexed : IndexDefinition → Record → Bool
is_indexed index «record» = «record».definition.number == index.type_number

-- the entry of a record
abbrev pub entry_of : IndexDefinition → Record → IndexEntry
entry_of index «record» = record { columns = cells_at «record».cells index.columns; key = primary_key «record» }

-- the entries of records: that of each record of the index's type, once, in the records' order
abbrev pub index_entries : IndexDefinition → List Record → List IndexEntry
index_entries index records = map (entry_of index) (of_type index.type_number records)

-- the tuple of an entry: its columns, then the primary key
abbrev pub entry_items : IndexEntry → List Item
entry_items entry = items_of entry.columns ++ entry.key
