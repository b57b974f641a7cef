-- Worked examples: the serial store computed, a schedule of two clients, and the layout.
use Rattle.std.proofs.Common.{◌≡◌, ℕ, ◌++◌, length, List, [], ◌∷◌, None, refl, pos, map, replicate, unwrap_or}
use Rattle.std.specs.List.{range_with_len}
use Rattle.metadata.specs.declared.cells.Cell.{Cell}
use Rattle.metadata.specs.declared.cells.Cell.TheVariants.{Null, Int, Text}
use Rattle.metadata.specs.declared.cells.Kind.TheVariants as kind
use Rattle.metadata.specs.declared.definition.Field.{Field}
use Rattle.metadata.specs.declared.definition.TypeRequest.{TypeRequest}
use Rattle.schedule.specs.declared.refusal.Refusal.TheVariants.{AlreadyThere, NoStore, UnknownType, WrongKind, NullKey, BadName, NameTaken, UnknownField, BadSchema, TooMany, NoSuchRole, TooOld}
use Rattle.schedule.specs.declared.step.Command.{Command}
use Rattle.schedule.specs.declared.step.Command.TheVariants.{Create, «Type», Save, Load, Remove}
use Rattle.schedule.specs.declared.step.Step.{Step}
use Rattle.schedule.specs.declared.step.Step.TheVariants.{Begin, Perform, Commit, Settle}
use Rattle.schedule.specs.declared.reply.Reply.{Reply}
use Rattle.schedule.specs.declared.reply.Reply.TheVariants.{Begun, Done, SavedNew, SavedOver, Found, Absent, Removed, Submitted, ReadOnly, Nothing, Reported, Refused}
use Rattle.schedule.specs.declared.reply.Report.TheVariants as reports
use Rattle.kv_core.specs.Map.{Map}
use Rattle.record_store.specs.Store.{Serial}
use Rattle.record_store.specs.Layout.{place, record_key, record_value, schema_key, states_range, store_prefix}
use Rattle.schedule.specs.Serve.{Line, Refuses, Replies, effect, effects, serial_line}
use Rattle.schedule.specs.Past.{Past, open_of, submitted_in}
use Rattle.schedule.specs.Commits.{committed_store}
use Rattle.schedule.specs.Standing.{cluster_after, commits_of}
use Rattle.schedule.specs.Contract.{begin_reply, commit_reply, past_of, role_reply, settle_reply}
use Rattle.schedule.specs.Reach.{opened_in, own_reading, writes}
use Rattle.schedule.specs.declared.transcript.CommitEntry.{CommitEntry}
use Rattle.cluster_core.specs.declared.answers.Config.{Config}
use Rattle.cluster_core.specs.Roles.{may_append, may_resolve}
use Rattle.kv_core.specs.Range.{point}
use Rattle.kv_core.specs.declared.change.CommitRequest.{CommitRequest}
use Rattle.kv_core.specs.declared.change.Mutation.TheVariants.{Set, ClearRange}
use Rattle.tuple_codec.specs.Item.{int, null}
use Rattle.tuple_codec.specs.Spelling.{spelling, int_spelling, byte_count}

-- the names of a type and its fields
abbrev t : List ℕ
t = 116 ∷ []

abbrev k : List ℕ
k = 107 ∷ []

abbrev z : List ℕ
z = 122 ∷ []

abbrev field : List ℕ → Field
field name = record { name = name; kind = kind.Int }

-- the type t of whole numbers k, a, b with key k
abbrev create : Command
create = Create (record { types = record { name = t; fields = field k ∷ field (97 ∷ []) ∷ field (98 ∷ []) ∷ []; key = k ∷ [] } ∷ []; indexes = [] })

abbrev i : ℕ → Cell
i n = Int (pos n)

abbrev save : ℕ → ℕ → Command
save key other = Save t (i key ∷ i other ∷ Null ∷ [])

abbrev row : ℕ → ℕ → List Cell
row key other = i key ∷ i other ∷ Null ∷ []

-- the replies of the serial store to commands in turn, each of which has one
abbrev pub reply_in : Line → Reply
reply_in (Refuses refusal) = unwrap_or refusal Nothing
reply_in (Replies answer after) = answer
reply_in other = Nothing

abbrev pub replies : Serial → List Command → List Reply
replies serial [] = []
replies serial (command ∷ commands) = reply_in (serial_line serial command) ∷ replies (effect serial command) commands

-- records are found by their keys, replaced and taken out
keeping : replies None (create ∷ save 2 5 ∷ save 1 6 ∷ Load t (i 2 ∷ []) ∷ save 2 7 ∷ Remove t (i 1 ∷ []) ∷ Load t (i 1 ∷ []) ∷ Remove t (i 1 ∷ []) ∷ [])
    ≡ Done ∷ SavedNew ∷ SavedNew ∷ Found (row 2 5) ∷ SavedOver (row 2 5) ∷ Removed ∷ Absent ∷ Absent ∷ []
keeping = refl

-- records stand in the order of their keys
in_order : effects None (create ∷ save 2 5 ∷ save 1 6 ∷ save 256 0 ∷ save 255 0 ∷ Remove t (i 2 ∷ []) ∷ [])
    ≡ effects None (create ∷ save 1 6 ∷ save 255 0 ∷ save 256 0 ∷ [])
in_order = refl

-- refusals, in their order
refusals : replies None (save 1 1 ∷ Create (record { types = record { name = t; fields = field k ∷ []; key = [] } ∷ []; indexes = [] }) ∷ create ∷ create ∷ Save z [] ∷ Save t (i 1 ∷ Text z ∷ i 1 ∷ []) ∷ Save t (i 1 ∷ []) ∷ Save t (Null ∷ i 1 ∷ i 1 ∷ []) ∷ Load t (i 1 ∷ i 1 ∷ []) ∷ Load t (Null ∷ []) ∷ Remove z (i 1 ∷ []) ∷ [])
    ≡ Refused NoStore ∷ Refused BadSchema ∷ Done ∷ Refused AlreadyThere ∷ Refused UnknownType ∷ Refused WrongKind ∷ Refused WrongKind ∷ Refused NullKey ∷ Refused WrongKind ∷ Refused NullKey ∷ Refused UnknownType ∷ []
refusals = refl

-- a type of whole numbers of this name, with these fields and this key
abbrev asked : List ℕ → List (List ℕ) → List (List ℕ) → TypeRequest
asked name fields key = record { name = name; fields = map field fields; key = key }

-- names that differ: a, aa, aaa ..
abbrev names : ℕ → List (List ℕ)
names count = map (λ letters. replicate letters 97) (range_with_len 1 count)

abbrev many_names : List (List ℕ)
many_names = names 32 ++ z ∷ []

-- a type that is added keeps the records of the others, and has records of its own
types_added : replies None («Type» (asked z (k ∷ []) (k ∷ [])) ∷ create ∷ save 1 5 ∷ «Type» (asked z (k ∷ []) (k ∷ [])) ∷ Save z (i 1 ∷ []) ∷ Load z (i 1 ∷ []) ∷ Load t (i 1 ∷ []) ∷ «Type» (asked z (k ∷ []) (k ∷ [])) ∷ Remove t (i 1 ∷ []) ∷ Load z (i 1 ∷ []) ∷ [])
    ≡ Refused NoStore ∷ Done ∷ SavedNew ∷ Done ∷ SavedNew ∷ Found (i 1 ∷ []) ∷ Found (row 1 5) ∷ Refused NameTaken ∷ Removed ∷ Found (i 1 ∷ []) ∷ []
types_added = refl

-- what is refused as a type
types_refused : replies None (create ∷ «Type» (asked [] (k ∷ []) (k ∷ [])) ∷ «Type» (asked t (k ∷ []) (k ∷ [])) ∷ «Type» (asked z (k ∷ k ∷ []) (k ∷ [])) ∷ «Type» (asked z (k ∷ []) (z ∷ [])) ∷ «Type» (asked z (k ∷ []) []) ∷ «Type» (asked z (k ∷ []) (k ∷ k ∷ []))
    ∷ «Type» (asked z (many_names) (names 1)) ∷ «Type» (asked z (names 9) (names 9)) ∷ «Type» (asked z (names 26) (names 8)) ∷ [])
    ≡ Done ∷ Refused BadName ∷ Refused NameTaken ∷ Refused NameTaken ∷ Refused UnknownField ∷ Refused BadSchema ∷ Refused BadSchema ∷ Refused TooMany ∷ Refused TooMany ∷ Done ∷ []
types_refused = refl

-- a refused type leaves what is there
type_without_effect : effects None (create ∷ save 1 5 ∷ «Type» (asked t (k ∷ []) (k ∷ [])) ∷ []) ≡ effects None (create ∷ save 1 5 ∷ [])
type_without_effect = refl

-- ---- a schedule: the cluster after its steps, and what is told

-- one of each role
abbrev config : Config
config = record { resolver_splits = []; storage_splits = []; logs = 1; window = 1000; start = 0; places = 4 }

-- two clients each load a record and save the one that the other loaded; what both commit comes after what both read
abbrev steps : List Step
steps =
    Begin 0 1 ∷ Perform 0 create ∷ Perform 0 (save 1 0) ∷ Perform 0 (save 2 0) ∷ Commit 0 ∷ Settle
    ∷ Begin 0 1 ∷ Begin 1 1 ∷ Perform 0 (Load t (i 2 ∷ [])) ∷ Perform 0 (save 1 1) ∷ Perform 1 (Load t (i 1 ∷ [])) ∷ Perform 1 (save 2 1) ∷ Commit 0 ∷ Commit 1 ∷ []

abbrev given : List Reply
given =
    Begun 0 ∷ Done ∷ SavedNew ∷ SavedNew ∷ Submitted 1 ∷ Reported (reports.Committed 0 1 ∷ [])
    ∷ Begun 1 ∷ Begun 1 ∷ Found (row 2 0) ∷ SavedOver (row 1 0) ∷ Found (row 1 0) ∷ SavedOver (row 2 0) ∷ Submitted 2 ∷ Submitted 3 ∷ []

abbrev past : Past
past = past_of [] steps given

-- the keys of the records 1 and 2
abbrev one : List ℕ
one = 0x15 ∷ 0x01 ∷ 0x15 ∷ 0x01 ∷ 0x15 ∷ 0x01 ∷ 0x15 ∷ 0x01 ∷ []

abbrev two : List ℕ
two = 0x15 ∷ 0x01 ∷ 0x15 ∷ 0x01 ∷ 0x15 ∷ 0x01 ∷ 0x15 ∷ 0x02 ∷ []

abbrev request : ℕ → List (List ℕ) → List ℕ → CommitRequest
request version keys key = record { read_version = version; reads = map point keys; mutations = Set key [] ∷ [] }

abbrev requests : List CommitRequest
requests = request 0 (one ∷ two ∷ []) one ∷ request 1 (two ∷ one ∷ []) one ∷ request 1 (one ∷ two ∷ []) two ∷ []

-- both are submitted, and neither is reported
stands : ((cluster_after config requests past).pipeline.reported ≡ 1) × (length (cluster_after config requests past).pipeline.requests ≡ 3)
stands = (refl, refl)

-- a role's step is done where the clocks allow it; there is one resolver
first_may : role_reply 1 0 (may_resolve (cluster_after config requests past).pipeline 0) ≡ Done
first_may = refl

log_waits : role_reply 1 0 (may_append (cluster_after config requests past).pipeline 0) ≡ Nothing
log_waits = refl

no_second : role_reply 1 1 (may_resolve (cluster_after config requests past).pipeline 1) ≡ Refused NoSuchRole
no_second = refl

-- a client whose request isn't reported yet may begin again
begins : begin_reply (cluster_after config requests past) (open_of 0 past) ≡ Begun 1
begins = refl

-- the first of the two is committed; the second read what the first wrote
told : settle_reply (cluster_after config requests past).pipeline (submitted_in past) ≡ Reported (reports.Committed 0 2 ∷ reports.Conflict 1 2 (point one) ∷ [])
told = refl

-- so that the first is listed, with its accepted commands, and its save stands
abbrev settled_past : Past
settled_past = (Settle, Reported (reports.Committed 0 2 ∷ reports.Conflict 1 2 (point one) ∷ [])) ∷ past

abbrev commits : List CommitEntry
commits = commits_of (cluster_after config requests settled_past).pipeline (submitted_in settled_past)

listed_two : commits
    ≡ record { version = 1; client = 0; store = 1; read_version = 0; commands = create ∷ save 1 0 ∷ save 2 0 ∷ [] }
    ∷ record { version = 2; client = 0; store = 1; read_version = 1; commands = Load t (i 2 ∷ []) ∷ save 1 1 ∷ [] } ∷ []
listed_two = refl

before_and_after : (committed_store 1 commits 1 ≡ effects None (create ∷ save 1 0 ∷ save 2 0 ∷ [])) × (committed_store 1 commits 3 ≡ effects None (create ∷ save 1 1 ∷ save 2 0 ∷ []))
before_and_after = (refl, refl)

-- a commit of a transaction that only read is read only, and one that read too long ago is refused
reads_only : commit_reply (cluster_after config requests past) (record { store = 1; read_version = 1; attempts = (record { command = Load t (i 2 ∷ []); reply = Found (row 2 0) }) ∷ [] }) ≡ ReadOnly
reads_only = refl

too_old : commit_reply (cluster_after (record config { window = 1 }) requests past) (record { store = 1; read_version = 1; attempts = (record { command = save 1 1; reply = SavedOver (row 1 0) }) ∷ [] }) ≡ Refused TooOld
too_old = refl

-- ---- what commands may read and write

abbrev there : Serial
there = effects None (create ∷ save 1 0 ∷ [])

-- a save writes its record, and a removal clears what is there, whatever the map has
save_writes_record : (m : Map) → writes 1 m there (save 1 1) ≡ Set one (record_value (row 1 1)) ∷ []
unfolding int_spelling byte_count
save_writes_record m = refl

removal_clears : (m : Map) → (writes 1 m there (Remove t (i 1 ∷ [])) ≡ ClearRange (point one) ∷ []) × (writes 1 m there (Remove t (i 2 ∷ [])) ≡ []) × (writes 1 m None (save 1 1) ≡ [])
unfolding int_spelling byte_count
removal_clears m = (refl, refl, refl)

-- a type that is added is a write of the schema, and reads no more than opening does
type_writes_schema : (m : Map) → (length (writes 1 m there («Type» (asked z (k ∷ []) (k ∷ [])))) ≡ 1) × (writes 1 m there («Type» (asked t (k ∷ []) (k ∷ []))) ≡ []) × ((own_reading (opened_in 1 there) («Type» (asked z (k ∷ []) (k ∷ [])))).added m ≡ [])
type_writes_schema m = (refl, refl, refl)

-- a load reads its record's key behind what opening reads, a refused one no more than that
reaches : (m : Map) → ((own_reading (opened_in 1 there) (Load t (i 2 ∷ []))).added m ≡ point two ∷ []) × ((own_reading (opened_in 1 there) (Load t (Null ∷ []))).added m ≡ []) × ((own_reading (opened_in 1 there) (save 2 1)).added m ≡ point two ∷ [])
unfolding int_spelling byte_count
reaches m = (refl, refl, refl)

-- ---- the layout

-- the key and the value of the record 1, 5, null of the type 1
one_key : record_key (store_prefix 1) (int (pos 1) ∷ int (pos 1) ∷ []) ≡ 0x15 ∷ 0x01 ∷ 0x15 ∷ 0x01 ∷ 0x15 ∷ 0x01 ∷ 0x15 ∷ 0x01 ∷ []
unfolding int_spelling byte_count
one_key = refl

one_value : record_value (row 1 5) ≡ 0x15 ∷ 0x01 ∷ 0x15 ∷ 0x05 ∷ 0x00 ∷ []
unfolding int_spelling byte_count
one_value = refl

-- the keys of records begin with the store's prefix (1) and their subspace (1), the states of indexes stand under (5), and the schema at (0)
prefixes : (store_prefix 1 ≡ spelling (int (pos 1) ∷ [])) × (place (store_prefix 1) 1 ≡ spelling (int (pos 1) ∷ int (pos 1) ∷ [])) × (schema_key (store_prefix 1) ≡ 0x15 ∷ 0x01 ∷ 0x14 ∷ []) × ((states_range (store_prefix 1)).begin ≡ spelling (int (pos 1) ∷ int (pos 5) ∷ null ∷ []))
unfolding int_spelling byte_count
prefixes = (refl, refl, refl, refl)
