-- The keys and values that stand for records, and for the entries of indexes, under a store's prefix.
use Rattle.std.specs.Prelude.{ℕ, pos, List, [], ◌∷◌, map}
use Rattle.tuple_codec.specs.Item.{Item, int}
use Rattle.tuple_codec.specs.Spelling.{spelling}
use Rattle.tuple_codec.specs.Subspace.{subspace_key}
use Rattle.metadata.specs.declared.cells.Cell.{Cell}
use Rattle.metadata.specs.declared.index.IndexDefinition.{IndexDefinition}
use Rattle.metadata.specs.Cell.{items_of}
use Rattle.metadata.specs.Record.{Record}
use Rattle.metadata.specs.Entries.{IndexEntry, entry_items, index_entries}

-- a key of the database and its value
abbrev pub Pair : Type 0
Pair = List ℕ × List ℕ

-- ---- places: the number of its place is the first element of a key behind the store's prefix

abbrev pub place_of_schema : ℕ
place_of_schema = 0

abbrev pub place_of_records : ℕ
place_of_records = 1

-- of the entries of VALUE indexes, and of the totals of the others
abbrev pub place_of_entries : ℕ
place_of_entries = 2

abbrev pub place_of_states : ℕ
place_of_states = 5

abbrev pub place_of_built_ranges : ℕ
place_of_built_ranges = 6

-- what the keys of a place begin with: the store's prefix, and the pack of the place's number
abbrev pub place : List ℕ → ℕ → List ℕ
place prefix number = subspace_key prefix (int (pos number) ∷ [])

-- ---- records

-- the key (1, primary key) of the record with this primary key
abbrev pub record_key : List ℕ → List Item → List ℕ
record_key prefix key = subspace_key prefix (int (pos place_of_records) ∷ key)

-- what the key of each record of the type with this number begins with: the key (1, number) under the store's prefix
abbrev pub records_prefix : List ℕ → ℕ → List ℕ
records_prefix prefix number = record_key prefix (int (pos number) ∷ [])

-- the value of a record with these cells
abbrev pub record_value : List Cell → List ℕ
record_value cells = spelling (items_of cells)

-- ---- entries

-- what the key of each entry of the index with this number begins with: the key (2, number) under the store's prefix
abbrev pub entries_prefix : List ℕ → ℕ → List ℕ
entries_prefix prefix number = subspace_key prefix (int (pos place_of_entries) ∷ int (pos number) ∷ [])

-- the key of an entry
abbrev pub entry_key : List ℕ → ℕ → IndexEntry → List ℕ
entry_key prefix number entry = subspace_key (entries_prefix prefix number) (entry_items entry)

-- the pair that stands for an entry, which has no bytes as its value
abbrev pub entry_pair : List ℕ → ℕ → IndexEntry → Pair
entry_pair prefix number entry = (entry_key prefix number entry, [])

-- the pairs that stand for the entries of records
abbrev pub entry_pairs : List ℕ → IndexDefinition → List Record → List Pair
entry_pairs prefix index records = map (entry_pair prefix index.number) (index_entries index records)
