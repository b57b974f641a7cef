-- The keys and values that stand for a store under its prefix.
use Rattle.std.specs.Prelude.{ℕ, Bool, ◌&&◌, nat_le, List, [], ◌∷◌, ◌++◌, pos, drop, length}
use Rattle.tuple_codec.specs.Codes.{highest_byte}
use Rattle.tuple_codec.specs.Item.{int}
use Rattle.tuple_codec.specs.Spelling.{spelling}
use Rattle.tuple_codec.specs.Subspace.{range_begin, range_end, subspace_key}
use Rattle.kv_core.specs.Range.{KeyRange}
use Rattle.metadata.specs.declared.index.State.{State}
use Rattle.metadata.specs.declared.index.State.TheVariants.{Readable, WriteOnly, Disabled}
use Rattle.metadata.specs.Layout.{Pair, entries_prefix, place_of_schema, place_of_states, records_prefix}
use Rattle.metadata.specs.Schema.{Schema}
use Rattle.metadata.specs.Written.{schema_bytes}
use Rattle.range_set.specs.Stored.{whole_range}
pub use Rattle.metadata.specs.Layout.{place, record_key, record_value}
pub use Rattle.index_maint.specs.Layout.{built_place}

-- the number is one of a store
abbrev pub is_store_number : ℕ → Bool
is_store_number number = nat_le 1 number && nat_le number 65_535

-- what each key of the store with this number begins with: the pack of (number)
abbrev pub store_prefix : ℕ → List ℕ
store_prefix number = spelling (int (pos number) ∷ [])

-- that of store 1, byte by byte
abbrev pub first_prefix : List ℕ
first_prefix = 0x15 ∷ 0x01 ∷ []

-- the key (0) of the schema
abbrev pub schema_key : List ℕ → List ℕ
schema_key prefix = place prefix place_of_schema

-- Private: what stands in a key after the prefix and the 2 bytes of the place of records: in that of a record the
-- pack of its primary key
abbrev pub packed_in : List ℕ → List ℕ → List ℕ
packed_in prefix key = drop 2 (drop (length prefix) key)

-- the range of the place (5), for the states of indexes
abbrev pub states_range : List ℕ → KeyRange
states_range prefix =
    record { begin = range_begin (place prefix place_of_states); end = range_end (place prefix place_of_states) }

-- the pair that stands for a schema
abbrev pub schema_pair : List ℕ → Schema → Pair
schema_pair prefix schema = (schema_key prefix, schema_bytes schema)

-- the key (5, number) of the state of the index with this number
abbrev pub state_key : List ℕ → ℕ → List ℕ
state_key prefix number = subspace_key prefix (int (pos place_of_states) ∷ int (pos number) ∷ [])

-- states are 1 write-only, 2 disabled; that of an index that is readable is never written
abbrev pub state_number : State → ℕ
state_number Readable = 0
state_number WriteOnly = 1
state_number Disabled = 2

abbrev pub state_value : State → List ℕ
state_value state = spelling (int (pos (state_number state)) ∷ [])

-- the pair that stands for the state of the index with a number
abbrev pub state_pair : List ℕ → ℕ × State → Pair
state_pair prefix listed = (state_key prefix listed.0, state_value listed.1)

-- the range of the entries of the index with this number
abbrev pub entries_range : List ℕ → ℕ → KeyRange
entries_range prefix number =
    record { begin = entries_prefix prefix number; end = entries_prefix prefix number ++ highest_byte ∷ [] }

-- the range of the keys of the built ranges of the index with this number
abbrev pub built_range : List ℕ → ℕ → KeyRange
built_range prefix number = whole_range (built_place prefix number)

-- the range of the records of the type with this number
abbrev pub type_range : List ℕ → ℕ → KeyRange
type_range prefix number =
    record { begin = records_prefix prefix number; end = records_prefix prefix number ++ highest_byte ∷ [] }
