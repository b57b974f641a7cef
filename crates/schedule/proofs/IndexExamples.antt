-- Worked examples of indexes: what the serial store replies to commands on them, and what commands write where there are indexes.
use Rattle.std.proofs.Common.{◌≡◌, ap, false, ℕ, List, [], ◌∷◌, None, refl, pos}
use Rattle.metadata.specs.declared.cells.Cell.{Cell}
use Rattle.metadata.specs.declared.cells.Cell.TheVariants.{Null, Int}
use Rattle.metadata.specs.declared.cells.Kind.TheVariants as kind
use Rattle.metadata.specs.declared.definition.Field.{Field}
use Rattle.metadata.specs.declared.index.IndexKind.TheVariants.{Value}
use Rattle.metadata.specs.declared.index.IndexRequest.{IndexRequest}
use Rattle.metadata.specs.declared.index.State.TheVariants as states
use Rattle.schedule.specs.declared.refusal.Refusal.TheVariants.{BadSchema, NameTaken, NotBuilt, UnknownField, UnknownIndex, UnknownType, WrongState}
use Rattle.kv_core.specs.Bytes.{next_key}
use Rattle.kv_core.specs.Range.{point}
use Rattle.kv_core.specs.declared.change.Mutation.TheVariants.{Set, ClearRange}
use Rattle.kv_core.specs.Map.{Map}
use Rattle.kv_core.specs.Read.{range_read, read_of}
use Rattle.record_store.specs.Store.{Serial}
use Rattle.record_store.specs.Layout.{record_value, store_prefix, type_range}
use Rattle.schedule.specs.declared.step.Command.{Command}
use Rattle.schedule.specs.declared.step.Command.TheVariants.{Create, Save, Remove, Index, Drop, Disable, Readable, State, WriteOnly}
use Rattle.schedule.specs.declared.reply.Reply.TheVariants as answers
use Rattle.schedule.specs.declared.reply.Reply.TheVariants.{Done, SavedNew, Refused}
use Rattle.schedule.specs.Reach.{opened_in, own_reading, writes}
use Rattle.schedule.specs.Serve.{effects}
use Rattle.schedule.proofs.Examples.{replies}
use Rattle.tuple_codec.specs.Spelling.{int_spelling, byte_count}

abbrev t : List ℕ
t = 116 ∷ []

abbrev k : List ℕ
k = 107 ∷ []

abbrev a : List ℕ
a = 97 ∷ []

abbrev b : List ℕ
b = 98 ∷ []

abbrev z : List ℕ
z = 122 ∷ []

abbrev field : List ℕ → Field
field name = record { name = name; kind = kind.Int }

-- a VALUE index of this name over columns of a type
abbrev asked : List ℕ → List ℕ → List (List ℕ) → IndexRequest
asked name type_name columns = record { name = name; kind = Value; type_name = type_name; columns = columns; summed = None; clear_when_zero = false }

-- the type t of whole numbers k, a, b with key k, and an index a on its field a
abbrev create : Command
create = Create (record { types = record { name = t; fields = field k ∷ field a ∷ field b ∷ []; key = k ∷ [] } ∷ []; indexes = asked a t (a ∷ []) ∷ [] })

abbrev i : ℕ → Cell
i n = Int (pos n)

abbrev row : ℕ → ℕ → List Cell
row key other = i key ∷ i other ∷ Null ∷ []

abbrev save : ℕ → ℕ → Command
save key other = Save t (row key other)

-- an index that comes with the store, or to a type without records, is readable; one that comes to a type with records is disabled
kept_states : replies None (create ∷ State a ∷ Index (asked z t (b ∷ [])) ∷ save 1 5 ∷ Index (asked b t (b ∷ [])) ∷ State b ∷ State z ∷ Disable a ∷ State a ∷ Drop a ∷ State a ∷ Index (asked a t (a ∷ [])) ∷ [])
    ≡ Done ∷ answers.State states.Readable ∷ answers.Indexed states.Readable ∷ SavedNew ∷ answers.Indexed states.Disabled ∷ answers.State states.Disabled ∷ answers.State states.Readable ∷ Done ∷ answers.State states.Disabled ∷ Done ∷ Refused UnknownIndex ∷ answers.Indexed states.Disabled ∷ []
kept_states = refl

-- what is refused of indexes
refusals : replies None (create ∷ Index (asked b z (a ∷ [])) ∷ Index (asked a t (a ∷ [])) ∷ Index (asked b t (z ∷ [])) ∷ Index (asked b t []) ∷ Drop b ∷ Disable b ∷ State b ∷ [])
    ≡ Done ∷ Refused UnknownType ∷ Refused NameTaken ∷ Refused UnknownField ∷ Refused BadSchema ∷ Refused UnknownIndex ∷ Refused UnknownIndex ∷ Refused UnknownIndex ∷ []
refusals = refl

-- an index is write-only from any state; it is readable again once all of it is built, and no other one is marked so
marks : replies None (create ∷ Readable a ∷ WriteOnly a ∷ State a ∷ Readable a ∷ Disable a ∷ Readable a ∷ WriteOnly b ∷ Readable b ∷ [])
    ≡ Done ∷ Refused WrongState ∷ Done ∷ answers.State states.WriteOnly ∷ Refused NotBuilt ∷ Done ∷ Refused WrongState ∷ Refused UnknownIndex ∷ Refused UnknownIndex ∷ []
marks = refl

abbrev there : Serial
there = effects None (create ∷ save 1 5 ∷ [])

-- the keys of the record 1 and of its entries
abbrev one : List ℕ
one = 0x15 ∷ 0x01 ∷ 0x15 ∷ 0x01 ∷ 0x15 ∷ 0x01 ∷ 0x15 ∷ 0x01 ∷ []

abbrev entry : ℕ → List ℕ
entry value = 0x15 ∷ 0x01 ∷ 0x15 ∷ 0x02 ∷ 0x15 ∷ 0x01 ∷ 0x15 ∷ value ∷ 0x15 ∷ 0x01 ∷ 0x15 ∷ 0x01 ∷ []

-- a save writes the record, then its old entry goes and its new one comes; where the columns are the same neither is touched
saving : (m : Map) → (writes 1 m there (save 1 6) ≡ Set one (record_value (row 1 6)) ∷ ClearRange (point (entry 5)) ∷ Set (entry 6) [] ∷ []) × (writes 1 m there (save 1 5) ≡ Set one (record_value (row 1 5)) ∷ [])
unfolding int_spelling byte_count
saving m = (refl, refl)

-- a removal takes out the record, then its entry
removing : (m : Map) → (writes 1 m there (Remove t (i 1 ∷ [])) ≡ ClearRange (point one) ∷ ClearRange (point (entry 5)) ∷ []) × (writes 1 m there (Remove t (i 2 ∷ [])) ≡ [])
unfolding int_spelling byte_count
removing m = (refl, refl)

-- a disabled index isn't written, and what disabling writes is its state and the ranges of its entries and of its built ranges
disabled : (m : Map) → (writes 1 m (effects there (Disable a ∷ [])) (save 1 6) ≡ Set one (record_value (row 1 6)) ∷ [])
    × (writes 1 m there (Disable a) ≡ Set (0x15 ∷ 0x01 ∷ 0x15 ∷ 0x05 ∷ 0x15 ∷ 0x01 ∷ []) (0x15 ∷ 0x02 ∷ []) ∷ ClearRange (record { begin = 0x15 ∷ 0x01 ∷ 0x15 ∷ 0x02 ∷ 0x15 ∷ 0x01 ∷ []; end = 0x15 ∷ 0x01 ∷ 0x15 ∷ 0x02 ∷ 0x15 ∷ 0x01 ∷ 0xff ∷ [] }) ∷ ClearRange (record { begin = 0x15 ∷ 0x01 ∷ 0x15 ∷ 0x06 ∷ 0x15 ∷ 0x01 ∷ 0x00 ∷ []; end = 0x15 ∷ 0x01 ∷ 0x15 ∷ 0x06 ∷ 0x15 ∷ 0x01 ∷ 0xff ∷ [] }) ∷ [])
unfolding int_spelling byte_count
disabled m = (refl, refl)

-- a new index reads up to the first record of its type, a refused one and a dropped one read nothing
reaches : (m : Map) (value : List ℕ) → read_of m (type_range (store_prefix 1) 1) 1 false ≡ (one, value) ∷ [] →
    ((own_reading (opened_in 1 there) (Index (asked b t (b ∷ [])))).added m ≡ record { begin = (type_range (store_prefix 1) 1).begin; end = next_key one } ∷ [])
    × ((own_reading (opened_in 1 there) (Index (asked a t (b ∷ [])))).added m ≡ []) × ((own_reading (opened_in 1 there) (Drop a)).added m ≡ [])
unfolding int_spelling byte_count
reaches m value first = (ap (λ pairs. range_read (type_range (store_prefix 1) 1) 1 false pairs ∷ []) first, refl, refl)
