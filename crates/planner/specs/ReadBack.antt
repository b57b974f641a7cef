-- What bytes and pairs are read as, by the relation of spelling: as what they are written for, and as nothing else.
use Rattle.std.specs.Prelude.{◌≡◌, ◌↔◌, ℕ, List, ◌++◌, length, All, Some, IsTrue}
use Rattle.tuple_codec.specs.Item.{Item, AreBytes}
use Rattle.tuple_codec.specs.Spelling.{Spells, spelling}
use Rattle.tuple_codec.specs.Subspace.{BeginsWith}
use Rattle.metadata.specs.declared.cells.Cell.{Cell}
use Rattle.metadata.specs.declared.definition.TypeDefinition.{TypeDefinition}
use Rattle.metadata.specs.declared.index.IndexDefinition.{IndexDefinition}
use Rattle.metadata.specs.Cell.{IsCell, all_fit, items_of}
use Rattle.metadata.specs.Layout.{Pair, entries_prefix, entry_pair, record_key}
use Rattle.metadata.specs.Record.{Record, primary_key}
use Rattle.metadata.specs.Stored.{AreStoredAs, IsStoredAs}
use Rattle.planner.specs.Layout.{column_kinds, entry_primary_key, is_primary_key, stored_record}
use Rattle.planner.specs.Pack.{tuple_in, unpack}

-- TUPLES: bytes are read as a tuple exactly where they are a spelling of it
abbrev pub TuplesAreReadBack : Type 0
TuplesAreReadBack =
    (bytes : List ℕ) (tuple : List Item) → AreBytes bytes → (tuple_in bytes ≡ Some tuple) ↔ Spells tuple bytes

-- CELLS: bytes are unpacked as cells exactly where cells are stored in them
abbrev pub CellsAreReadBack : Type 0
CellsAreReadBack = (bytes : List ℕ) (cells : List Cell) → (unpack bytes ≡ Some cells) ↔ AreStoredAs bytes cells

-- a pair of a record of the type: its key, and a value that the record is stored as
pub record IsStoredPair (prefix : List ℕ) (t : TypeDefinition) (pair : Pair) (r : Record) : Type 0 where
  pub key : pair.0 ≡ record_key prefix (primary_key r)
  pub stored : IsStoredAs t (spelling (primary_key r)) pair.1 r

-- RECORDS: a pair stands for a record exactly where it is a pair of this record of the type
abbrev pub RecordsAreReadBack : Type 0
RecordsAreReadBack =
    (prefix : List ℕ) (t : TypeDefinition) (pair : Pair) (r : Record) →
    (stored_record prefix t pair ≡ Some r) ↔ IsStoredPair prefix t pair r

-- the cells of an entry, which the codec packs: one for each column, null or of its kind, and a primary key of the type
pub record AreOfEntry (t : TypeDefinition) (i : IndexDefinition) (columns key : List Cell) : Type 0 where
  pub count : length columns ≡ length i.columns
  pub fit : IsTrue (all_fit (column_kinds t i) columns)
  pub primary : IsTrue (is_primary_key t key)
  pub are_stored : All IsCell (columns ++ key)

-- ENTRIES: a pair among those of an index has a primary key exactly where it is the pair of an entry with that key
abbrev pub EntriesAreReadBack : Type 0
EntriesAreReadBack =
    (prefix : List ℕ) (t : TypeDefinition) (i : IndexDefinition) (pair : Pair) (key : List Cell) →
    BeginsWith (entries_prefix prefix i.number) pair.0 →
    (entry_primary_key prefix t i pair ≡ Some key)
    ↔ ((columns : List Cell) × AreOfEntry t i columns key
    × (pair ≡ entry_pair prefix i.number (record { columns = columns; key = items_of key })))
