-- The stores of a log are the committed ones of its entries; commands that only look leave what is there.
use Rattle.std.proofs.Common.{◌≡◌, ℕ, ◌≤◌, ◌==◌, ◌&&◌, Bool, true, false, List, [], ◌∷◌, map, Some, None, Result, Ok, Err, refl, sym, ap, ◌∙◌, cond, fold, arith}
use Rattle.std.specs.Prelude.{nat_le, filter}
use Rattle.std.proofs.lemmas.Bool.{le-leb}
use Rattle.metadata.specs.Record.{key_of}
use Rattle.metadata.specs.Schema.{find_index}
use Rattle.record_store.specs.Store.{Serial, Store, listed_states}
use Rattle.record_store.specs.declared.error.StoreError.{StoreError}
use Rattle.record_store.specs.Meaning.{by_schema, index_number, load_meaning, state_meaning, total_meaning, totalled_index}
use Rattle.metadata.specs.declared.cells.Cell.{Cell}
use Rattle.metadata.specs.declared.index.IndexDefinition.{IndexDefinition}
use Rattle.tuple_codec.specs.Item.{Item}
use Rattle.schedule.specs.declared.reply.Reply.TheVariants as reply
use Rattle.schedule.specs.declared.step.Command.{Command}
use Rattle.schedule.specs.declared.step.Command.TheVariants.{Create, «Type», Field, Save, Load, Remove, Query, Plan, Execute, Index, Drop, Disable, WriteOnly, Readable, Build, State, Aggregate}
use Rattle.schedule.specs.declared.transcript.CommitEntry.{CommitEntry}
use Rattle.schedule.specs.Commits.{is_of_upto}
use Rattle.schedule.specs.Serve.{calling, effect, effects, left_by, reply_to_load}
use Rattle.command_log.specs.declared.entry.Entry.{Entry}
use Rattle.replay.specs.Commands.{change_of, commands_of}
use Rattle.replay.specs.Logged.{ComeInOrder, Database, after_entry, empty_database, last_version}
use Rattle.replay.specs.Laws.{ChangesSuffice, LogsStores, commit_of}

-- ---- the committed store

abbrev after_commit : Serial → CommitEntry → Serial
after_commit serial one = effects serial one.commands

-- the transactions in the store with a number
abbrev of_store : ℕ → List CommitEntry → List CommitEntry
of_store number commits = filter (λ (one : CommitEntry). one.store == number) commits

store_of : (number : ℕ) (d : Database) (entries : List Entry) → (fold after_entry d entries).stores number ≡ fold after_commit (d.stores number) (of_store number (map commit_of entries))
store_of number d [] = refl
store_of number d (entry ∷ entries) = store_of number (after_entry d entry) entries ∙ by_test (entry.store == number)
  where
    serial : Serial
    serial = d.stores number

    others : List CommitEntry
    others = of_store number (map commit_of entries)

    by_test : (b : Bool) → fold after_commit (cond b (effects serial (commands_of entry.changes)) serial) others ≡ fold after_commit serial (cond b (commit_of entry ∷ others) others)
    by_test true = refl
    by_test false = refl

-- the last version is the greatest
pub last_greatest : (version : ℕ) (entries : List Entry) → ComeInOrder version entries → version ≤ last_version version entries
last_greatest version [] are = omega arith
last_greatest version (entry ∷ entries) (above, store, rest) = omega (arith, above, last_greatest entry.version entries rest)

and_true : (b : Bool) → (b && true) ≡ b
and_true true = refl
and_true false = refl

all_upto : (number version limit : ℕ) (entries : List Entry) → ComeInOrder version entries → last_version version entries ≤ limit → filter (is_of_upto number limit) (map commit_of entries) ≡ of_store number (map commit_of entries)
all_upto number version limit [] are upto = refl
all_upto number version limit (entry ∷ entries) (above, store, rest) upto =
    let low : nat_le entry.version limit ≡ true = le-leb entry.version limit (omega (arith, last_greatest entry.version entries rest, upto)) in
    let others = filter (is_of_upto number limit) (map commit_of entries) in
    let own = entry.store == number in
    ap (λ b. cond (own && b) (commit_of entry ∷ others) others) low
    ∙ ap (λ b. cond b (commit_of entry ∷ others) others) (and_true own)
    ∙ ap (λ es. cond own (commit_of entry ∷ es) es) (all_upto number entry.version limit entries rest upto)

pub logs_stores : LogsStores
logs_stores entries number version lawful upto =
    store_of number empty_database entries ∙ ap (fold after_commit None) (sym (all_upto number 0 version entries lawful.in_order upto))

-- ---- commands that only look

looks_load : (store : Store) (asked : Result (List Item) StoreError) → left_by (Some store) (calling store reply_to_load load_meaning asked) ≡ Some store
looks_load store (Ok key) = refl
looks_load store (Err error) = refl

looks_state : (store : Store) (asked : Result ℕ StoreError) → left_by (Some store) (calling store reply.State state_meaning asked) ≡ Some store
looks_state store (Ok number) = refl
looks_state store (Err error) = refl

looks_total : (store : Store) (group : List Cell) (asked : Result IndexDefinition StoreError) → left_by (Some store) (calling store reply.Total (total_meaning group) asked) ≡ Some store
looks_total store group (Ok index) = refl
looks_total store group (Err error) = refl

-- what is there stays
pub leaves : (serial : Serial) (command : Command) → change_of command ≡ None → effect serial command ≡ serial
leaves None (Load name cells) none = refl
leaves None (Query query) none = refl
leaves None (Plan query) none = refl
leaves None (Execute plan) none = refl
leaves None (State name) none = refl
leaves None (Aggregate name group) none = refl
leaves (Some store) (Load name cells) none = looks_load store (by_schema (key_of store.schema name cells))
leaves (Some store) (Query query) none = refl
leaves (Some store) (Plan query) none = refl
leaves (Some store) (Execute plan) none = refl
leaves (Some store) (State name) none = looks_state store (by_schema (index_number (find_index store.schema name)))
leaves (Some store) (Aggregate name group) none = looks_total store group (totalled_index store.schema (listed_states store) group (find_index store.schema name))
leaves serial (Create request) none = absurd (cc)
leaves serial («Type» request) none = absurd (cc)
leaves serial (Field name field) none = absurd (cc)
leaves serial (Save name cells) none = absurd (cc)
leaves serial (Remove name cells) none = absurd (cc)
leaves serial (Index request) none = absurd (cc)
leaves serial (Drop name) none = absurd (cc)
leaves serial (Disable name) none = absurd (cc)
leaves serial (WriteOnly name) none = absurd (cc)
leaves serial (Readable name) none = absurd (cc)
leaves serial (Build name limit) none = absurd (cc)

pub changes_suffice : ChangesSuffice
changes_suffice serial [] = refl
changes_suffice serial ((Create request) ∷ commands) = changes_suffice (effect serial (Create request)) commands
changes_suffice serial ((«Type» request) ∷ commands) = changes_suffice (effect serial («Type» request)) commands
changes_suffice serial ((Field name field) ∷ commands) = changes_suffice (effect serial (Field name field)) commands
changes_suffice serial ((Save name cells) ∷ commands) = changes_suffice (effect serial (Save name cells)) commands
changes_suffice serial ((Remove name cells) ∷ commands) = changes_suffice (effect serial (Remove name cells)) commands
changes_suffice serial ((Index request) ∷ commands) = changes_suffice (effect serial (Index request)) commands
changes_suffice serial ((Drop name) ∷ commands) = changes_suffice (effect serial (Drop name)) commands
changes_suffice serial ((Disable name) ∷ commands) = changes_suffice (effect serial (Disable name)) commands
changes_suffice serial ((WriteOnly name) ∷ commands) = changes_suffice (effect serial (WriteOnly name)) commands
changes_suffice serial ((Readable name) ∷ commands) = changes_suffice (effect serial (Readable name)) commands
changes_suffice serial ((Build name limit) ∷ commands) = changes_suffice (effect serial (Build name limit)) commands
changes_suffice serial ((Load name cells) ∷ commands) = changes_suffice serial commands ∙ ap (λ s. effects s commands) (sym (leaves serial (Load name cells) refl))
changes_suffice serial ((Query query) ∷ commands) = changes_suffice serial commands ∙ ap (λ s. effects s commands) (sym (leaves serial (Query query) refl))
changes_suffice serial ((Plan query) ∷ commands) = changes_suffice serial commands ∙ ap (λ s. effects s commands) (sym (leaves serial (Plan query) refl))
changes_suffice serial ((Execute plan) ∷ commands) = changes_suffice serial commands ∙ ap (λ s. effects s commands) (sym (leaves serial (Execute plan) refl))
changes_suffice serial ((State name) ∷ commands) = changes_suffice serial commands ∙ ap (λ s. effects s commands) (sym (leaves serial (State name) refl))
changes_suffice serial ((Aggregate name group) ∷ commands) = changes_suffice serial commands ∙ ap (λ s. effects s commands) (sym (leaves serial (Aggregate name group) refl))
