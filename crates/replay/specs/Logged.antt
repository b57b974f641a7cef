-- What the entries of a log come to: each one's commands are performed in one transaction in its store, in their order,
-- over an empty database.
use Rattle.std.specs.Prelude.{◌≡◌, ◌<◌, ◌==◌, if◌then◌else◌, ℕ, true, List, [], ◌∷◌, ◌++◌, fold, ⊤}
use Rattle.std.specs.FinMap.{empty}
use Rattle.kv_core.specs.Map.{Map, after_all}
use Rattle.kv_core.specs.declared.change.Mutation.{Mutation}
use Rattle.record_store.specs.Layout.{is_store_number}
use Rattle.record_store.specs.Store.{Serial}
use Rattle.schedule.specs.declared.reply.Reply.{Reply}
use Rattle.schedule.specs.declared.step.Command.{Command}
use Rattle.schedule.specs.Serve.{effect, effects}
use Rattle.schedule.specs.Holds.{Stores, no_stores}
use Rattle.schedule.specs.Past.{is_accepted}
use Rattle.schedule.specs.Reach.{writes}
use Rattle.schedule.specs.Performed.{IsServed}
use Rattle.schedule.specs.Exact.{commands_written}
use Rattle.command_log.specs.declared.entry.Entry.{Entry}
use Rattle.replay.specs.Commands.{commands_of}

-- a database: its map, and what is there of each store
pub record Database : Type 0 where
  pub map : Map
  pub stores : Stores

-- one without pairs, and without stores
abbrev pub empty_database : Database
empty_database = record { map = empty; stores = no_stores }

-- the stores after commands in the one with this number
abbrev pub stores_after : Stores → ℕ → List Command → Stores
stores_after stores number commands =
    λ other. if number == other then effects (stores other) commands else stores other

-- the database after a transaction of these commands in a store, each of which is accepted
abbrev pub with_commands : Database → ℕ → List Command → Database
with_commands d number commands =
    record {
      map = after_all (commands_written number d.map (d.stores number) commands) d.map;
      stores = stores_after d.stores number commands;
    }

abbrev pub after_entry : Database → Entry → Database
after_entry d entry = with_commands d entry.store (commands_of entry.changes)

-- LOGGED: what the entries of a log come to
abbrev pub log_database : List Entry → Database
log_database entries = fold after_entry empty_database entries

-- each of these commands has this reply, which accepts it, one after another in a transaction in the store with a
-- number that sees this map, where the store is this, and wrote these mutations before
abbrev pub AreServed : ℕ → Map → List Mutation → Serial → List Command → List Reply → Type 0
AreServed number m before serial [] [] = ⊤
AreServed number m before serial (command ∷ commands) (reply ∷ replies) =
    let written = writes number m serial command in
    (is_accepted reply ≡ true) × IsServed number m before serial command reply
    × AreServed number (after_all written m) (before ++ written) (effect serial command) commands replies
AreServed number m before serial commands replies = ⊥

-- each of these commands is accepted, in a transaction over this map, where the store is this
abbrev pub AreAccepted : ℕ → Map → Serial → List Command → Type 0
AreAccepted number m serial commands = (replies : List Reply) × AreServed number m [] serial commands replies

-- the commands of an entry are accepted, in a transaction in its store over this database
abbrev pub IsPerformable : Database → Entry → Type 0
IsPerformable d entry = AreAccepted entry.store d.map (d.stores entry.store) (commands_of entry.changes)

-- so are those of each entry, over what the entries before it come to
abbrev pub AreReplayable : Database → List Entry → Type 0
AreReplayable d [] = ⊤
AreReplayable d (entry ∷ entries) = IsPerformable d entry × AreReplayable (after_entry d entry) entries

-- versions rise strictly from above this one, and each entry's store has the number of one
abbrev pub ComeInOrder : ℕ → List Entry → Type 0
ComeInOrder version [] = ⊤
ComeInOrder version (entry ∷ entries) =
    (version < entry.version) × (is_store_number entry.store ≡ true) × ComeInOrder entry.version entries

-- the version of the last entry, or this one where there is none
abbrev pub last_version : ℕ → List Entry → ℕ
last_version version entries = fold (λ last entry. entry.version) version entries

-- a lawful log: its entries are in order, and each of their commands is accepted
pub record IsLawfulLog (entries : List Entry) : Type 0 where
  pub in_order : ComeInOrder 0 entries
  pub replayable : AreReplayable empty_database entries
