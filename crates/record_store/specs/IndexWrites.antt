-- What calls on a store with indexes write.
use Rattle.std.specs.Prelude.{ℕ, Bool, ◌==◌, if◌then◌else◌, List, [], ◌∷◌, Option, Some, None, filter}
use Rattle.std.specs.List.{flat_map}
use Rattle.tuple_codec.specs.Item.{Item}
use Rattle.kv_core.specs.Range.{point}
use Rattle.kv_core.specs.declared.change.Mutation.{Mutation}
use Rattle.kv_core.specs.declared.change.Mutation.TheVariants.{Set, ClearRange}
use Rattle.metadata.specs.declared.index.IndexDefinition.{IndexDefinition}
use Rattle.metadata.specs.declared.index.State.{State}
use Rattle.metadata.specs.declared.index.State.TheVariants.{Readable, WriteOnly, Disabled}
use Rattle.metadata.specs.IndexChange.{with_index, without_index}
use Rattle.metadata.specs.Record.{Record, primary_key}
use Rattle.metadata.specs.Records.{of_type, record_at}
use Rattle.metadata.specs.Written.{schema_bytes}
use Rattle.range_set.specs.Gaps.{has_position}
use Rattle.index_maint.specs.Built.{position_of}
use Rattle.index_maint.specs.Kept.{kept_writes}
use Rattle.record_store.specs.Store.{Store, built_of, new_state, state_in, state_of}
use Rattle.record_store.specs.Call.{Opened}
use Rattle.record_store.specs.Layout.{built_range, entries_range, record_key, record_value, schema_key, state_key}
use Rattle.record_store.specs.Layout.{state_value}

-- the position of a primary key is built in the index with this number
abbrev pub is_built : Store → ℕ → List Item → Bool
is_built store number key = has_position (built_of store number) (position_of key)

-- Private: what is written for one index where a record of the type with this number gives way to another: what its
-- kind and its state want written, and whether the position is built, where it is of the type
abbrev pub one_index_writes :
    Opened → ℕ → Bool → Option Record → Option Record → IndexDefinition → List Mutation
one_index_writes opened number at_built old new index =
    if index.type_number == number
    then kept_writes (state_in opened.states index.number) opened.prefix index at_built old new else []

-- what is written for the indexes where a record of the type with this number and with this primary key gives way to
-- another, by their numbers
abbrev pub index_writes : List ℕ → Store → ℕ → List Item → Option Record → Option Record → List Mutation
index_writes prefix store number key old new =
    flat_map
    (λ index. kept_writes (state_of store index.number) prefix index (is_built store index.number key) old new)
    (filter (λ index. index.type_number == number) store.schema.indexes)

-- SAVE: the record is put, then its indexes follow
abbrev pub save_writes : List ℕ → Store → Record → List Mutation
save_writes prefix store new =
    Set (record_key prefix (primary_key new)) (record_value new.cells)
    ∷ index_writes prefix store new.definition.number (primary_key new) (record_at (primary_key new) store.records)
    (Some new)

-- REMOVE: the record with this primary key is taken out where it is there, then its indexes follow
abbrev pub remove_writes : List ℕ → Store → List Item → Option Record → List Mutation
remove_writes prefix store key None = []
remove_writes prefix store key (Some old) =
    ClearRange (point (record_key prefix key)) ∷ index_writes prefix store old.definition.number key (Some old) None

-- what is kept of an index is taken out: its entries or totals, and its built ranges
abbrev pub clear_kept : List ℕ → ℕ → List Mutation
clear_kept prefix number = ClearRange (entries_range prefix number) ∷ ClearRange (built_range prefix number) ∷ []

-- MARK: a state that isn't readable is put, and what is kept is taken out
abbrev pub marked_writes : State → List ℕ → ℕ → List Mutation
marked_writes state prefix number = Set (state_key prefix number) (state_value state) ∷ clear_kept prefix number

-- Private: DISABLE, which is MARK with that state
abbrev pub disable_writes : List ℕ → ℕ → List Mutation
disable_writes prefix number = marked_writes Disabled prefix number

-- Private: WRITE-ONLY, which is MARK with that state
abbrev pub write_only_writes : List ℕ → ℕ → List Mutation
write_only_writes prefix number = marked_writes WriteOnly prefix number

-- READABLE: the state and the built ranges are taken out
abbrev pub readable_writes : List ℕ → ℕ → List Mutation
readable_writes prefix number =
    ClearRange (point (state_key prefix number)) ∷ ClearRange (built_range prefix number) ∷ []

-- what is written of a new index's state: nothing where it is readable
abbrev pub state_writes : List ℕ → ℕ → State → List Mutation
state_writes prefix number Readable = []
state_writes prefix number state = Set (state_key prefix number) (state_value state) ∷ []

-- INDEX: the schema is written with one more index, and the index's state
abbrev pub index_added_writes : List ℕ → Store → IndexDefinition → List Mutation
index_added_writes prefix store index =
    Set (schema_key prefix) (schema_bytes (with_index store.schema index))
    ∷ state_writes prefix index.number (new_state (of_type index.type_number store.records))

-- DROP: the schema is written without the index, of which what is kept and the state are taken out
abbrev pub drop_writes : List ℕ → Store → ℕ → List Mutation
drop_writes prefix store number =
    Set (schema_key prefix) (schema_bytes (without_index store.schema number))
    ∷ ClearRange (entries_range prefix number) ∷ ClearRange (built_range prefix number)
    ∷ ClearRange (point (state_key prefix number)) ∷ []
