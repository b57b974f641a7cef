-- How a VALUE index is kept: what a map has of it, and what is written where a record gives way to another.
use Rattle.std.specs.Prelude.{◌≡◌, ℕ, List, [], ◌∷◌, ◌++◌, Option, Some, None, if◌then◌else◌}
use Rattle.std.specs.Option.{option_map}
use Rattle.std.specs.FinMap.{from_entries, get}
use Rattle.kv_core.specs.Map.{Map}
use Rattle.kv_core.specs.Range.{point}
use Rattle.kv_core.specs.declared.change.Mutation.{Mutation}
use Rattle.kv_core.specs.declared.change.Mutation.TheVariants.{Set, ClearRange}
use Rattle.metadata.specs.declared.index.IndexDefinition.{IndexDefinition}
use Rattle.metadata.specs.Record.{Record}
use Rattle.index_maint.specs.Entries.{IndexEntry, entry_of, same_entry}
use Rattle.index_maint.specs.Layout.{entries_prefix, entry_key, entry_pairs}

-- the map of the pairs that stand for the entries of records
abbrev pub entries_map : List ℕ → IndexDefinition → List Record → Map
entries_map prefix index records = from_entries (entry_pairs prefix index records)

-- under the index's prefix a map has just the entries of the records
abbrev pub HasEntries : List ℕ → IndexDefinition → List Record → Map → Type 0
HasEntries prefix index records m =
    (bytes : List ℕ) → get m (entries_prefix prefix index.number ++ bytes)
    ≡ get (entries_map prefix index records) (entries_prefix prefix index.number ++ bytes)

-- to take an entry out, and to put one in
abbrev pub clear_entry : List ℕ → ℕ → IndexEntry → Mutation
clear_entry prefix number entry = ClearRange (point (entry_key prefix number entry))

abbrev pub set_entry : List ℕ → ℕ → IndexEntry → Mutation
set_entry prefix number entry = Set (entry_key prefix number entry) []

-- what is written where one entry gives way to another: the old one is taken out before the new one is put in, and
-- nothing is written where they are the same
abbrev pub entry_changes : List ℕ → ℕ → Option IndexEntry → Option IndexEntry → List Mutation
entry_changes prefix number None None = []
entry_changes prefix number None (Some new) = set_entry prefix number new ∷ []
entry_changes prefix number (Some old) None = clear_entry prefix number old ∷ []
entry_changes prefix number (Some old) (Some new) =
    if same_entry old new then [] else (clear_entry prefix number old ∷ set_entry prefix number new ∷ [])

-- what is written where one record of the index's type gives way to another
abbrev pub value_changes : List ℕ → IndexDefinition → Option Record → Option Record → List Mutation
value_changes prefix index old new =
    entry_changes prefix index.number (option_map (entry_of index) old) (option_map (entry_of index) new)
