-- What the pairs that stand for records and for entries of an index are read as.
use Rattle.std.specs.Prelude.{ℕ, Bool, false, not, ◌&&◌, ◌==◌, List, [], ◌∷◌, length, take, drop}
use Rattle.std.specs.Prelude.{Option, Some, None, option_and_then, pos, if◌then◌else◌, bytes_eq}
use Rattle.std.specs.Result.{result_ok}
use Rattle.std.specs.List.{filter_map, list_any}
use Rattle.metadata.specs.declared.cells.Cell.{Cell}
use Rattle.metadata.specs.declared.cells.Cell.TheVariants.{Int}
use Rattle.metadata.specs.declared.cells.Kind.{Kind}
use Rattle.metadata.specs.declared.definition.TypeDefinition.{TypeDefinition}
use Rattle.metadata.specs.declared.index.IndexDefinition.{IndexDefinition}
use Rattle.metadata.specs.Cell.{all_fit, is_null}
use Rattle.metadata.specs.Layout.{Pair, entries_prefix, record_key}
use Rattle.metadata.specs.Record.{Record, key_cells, primary_key, record_in}
use Rattle.metadata.specs.Schema.{key_kinds, kind_at}
use Rattle.metadata.specs.Stored.{filled}
use Rattle.planner.specs.Pack.{pack, unpack}

-- the cells of a record's primary key: the number of its type, then its key fields
abbrev pub primary_cells : Record → List Cell
primary_cells r = Int (pos r.definition.number) ∷ key_cells r

-- the record, where it has this key
abbrev pub keyed : List ℕ → List ℕ → Record → Option Record
keyed prefix key r = if bytes_eq key (record_key prefix (primary_key r)) then Some r else None

-- the record that a pair stands for, if its bytes are of the written form; fields that are left out are null
abbrev pub stored_record : List ℕ → TypeDefinition → Pair → Option Record
stored_record prefix t pair =
    option_and_then (keyed prefix pair.0) (option_and_then (λ cells. result_ok (record_in t cells))
    (option_and_then (filled t) (unpack pair.1)))

-- the kinds of an entry's columns
abbrev pub column_kinds : TypeDefinition → IndexDefinition → List Kind
column_kinds t i = filter_map (kind_at t.fields) i.columns

-- these cells are the primary key of a record of the type: its number, then cells of the key fields' kinds, none of
-- them null
abbrev pub is_primary_key : TypeDefinition → List Cell → Bool
is_primary_key t [] = false
is_primary_key t (number ∷ cells) =
    bytes_eq (pack (number ∷ [])) (pack (Int (pos t.number) ∷ []))
    && (all_fit (key_kinds t) cells && not (list_any is_null cells))

-- these cells are those of an entry: of the columns' kinds, then a primary key
abbrev pub is_entry : TypeDefinition → IndexDefinition → List Cell → Bool
is_entry t i cells =
    all_fit (column_kinds t i) (take (length i.columns) cells)
    && is_primary_key t (drop (length i.columns) cells)

-- the primary key in an entry, which has no value
abbrev pub entry_primary_key : List ℕ → TypeDefinition → IndexDefinition → Pair → Option (List Cell)
entry_primary_key prefix t i pair =
    if length pair.1 == 0 then
    option_and_then (λ cells. if is_entry t i cells then Some (drop (length i.columns) cells) else None)
    (unpack (drop (length (entries_prefix prefix i.number)) pair.0))
    else None
