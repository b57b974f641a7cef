-- What performing changes, and replaying entries, comes to.
use Rattle.std.specs.Prelude.{◌≡◌, ◌<◌, ◌≤◌, ℕ, true, false, List, [], ◌∷◌, ◌++◌, length, map, take, get_or, Vec, ⊤}
use Rattle.std.specs.declared.alloc.Global.{Global}
use Rattle.kv_core.specs.Map.{Map, after_all}
use Rattle.kv_core.specs.declared.change.Mutation.{Mutation}
use Rattle.record_store.specs.Layout.{is_store_number}
use Rattle.record_store.specs.Store.{Serial}
use Rattle.schedule.specs.declared.reply.Reply.{Reply}
use Rattle.schedule.specs.declared.reply.Reply.TheVariants as replies
use Rattle.schedule.specs.declared.step.Command.{Command}
use Rattle.schedule.specs.Serve.{effects}
use Rattle.schedule.specs.Past.{is_accepted}
use Rattle.schedule.specs.Performed.{IsServed}
use Rattle.schedule.specs.Exact.{commands_written}
use Rattle.schedule.specs.Holds.{HoldsAll, Stands}
use Rattle.command_log.specs.declared.entry.Entry.{Entry}
use Rattle.command_log.specs.Answers.{IsNoWrittenEntry, IsWrittenAs}
use Rattle.replay.specs.Logged.{AreAccepted, AreServed, Database, IsPerformable, IsLawfulLog, after_entry}
use Rattle.replay.specs.Logged.{last_version, log_database}
use Rattle.replay.specs.Commands.{commands_of}
use Rattle.replay.specs.declared.error.PerformError.{PerformError}
use Rattle.replay.specs.declared.error.PerformError.TheVariants as performs
use Rattle.replay.specs.declared.error.ReplayError.{ReplayError}
use Rattle.replay.specs.declared.error.ReplayError.TheVariants as replays

-- a database, and the version of the last transaction in it
pub record Image : Type 0 where
  pub map : Map
  pub version : ℕ

-- commands were performed in one transaction in the store with a number, over a map that holds this store: each was
-- accepted with its reply; what is written is what they write there, and leads to a map that holds the store after them
pub record IsDoneAt (number : ℕ) (m : Map) (serial : Serial) (commands : List Command) (answers : List Reply)
    (written : List Mutation) : Type 0 where
  pub served : AreServed number m [] serial commands answers
  pub wrote : written ≡ commands_written number m serial commands
  pub holds : Stands number (after_all written m) (effects serial commands)

-- so it is for all that the map holds of the store
abbrev pub AllDone : ℕ → Map → List Command → List Reply → List Mutation → Type 0
AllDone number m commands answers written =
    (serial : Serial) → Stands number m serial → IsDoneAt number m serial commands answers written

-- the command at this place has this reply, which doesn't accept it; those before it are accepted
pub record IsRefusedAt (number : ℕ) (m : Map) (serial : Serial) (commands : List Command) (place : ℕ)
    (answer : Reply) : Type 0 where
  pub first : List Command
  pub command : Command
  pub others : List Command
  pub split : commands ≡ first ++ command ∷ others
  pub at : length first ≡ place
  pub before : AreAccepted number m serial first
  pub refused : is_accepted answer ≡ false
  pub answered :
      let written = commands_written number m serial first in
      IsServed number (after_all written m) written (effects serial first) command answer

-- so it is for all that the map holds of the store
abbrev pub AreRefused : ℕ → Map → List Command → ℕ → Reply → Type 0
AreRefused number m commands place answer =
    (serial : Serial) → Stands number m serial → IsRefusedAt number m serial commands place answer

-- Private: how a reply that doesn't accept its command is told; want of memory tells nothing
abbrev pub IsRefusalOf : ℕ → Reply → PerformError → Type 0
IsRefusalOf place answer performs.Memory = ⊤
IsRefusalOf place answer (performs.Refused at refusal) = (at ≡ place) × (answer ≡ replies.Refused refusal)
IsRefusalOf place answer (performs.Corrupt at key) = (at ≡ place) × (answer ≡ replies.Corrupt key)

-- why commands weren't performed
abbrev pub AreUndone : ℕ → Map → List Command → PerformError → Type 0
AreUndone number m commands performs.Memory = ⊤
AreUndone number m commands (performs.Refused place refusal) =
    AreRefused number m commands place (replies.Refused refusal)
AreUndone number m commands (performs.Corrupt place key) = AreRefused number m commands place (replies.Corrupt key)

-- the bytes of each
abbrev pub log_bytes : List (Vec ℕ Global) → List (List ℕ)
log_bytes vecs = map (λ v. v.items) vecs

-- the byte strings are those of these entries, in order
abbrev pub AreWrittenAs : List (List ℕ) → List Entry → Type 0
AreWrittenAs [] [] = ⊤
AreWrittenAs (bytes ∷ others) (entry ∷ entries) = IsWrittenAs bytes entry × AreWrittenAs others entries
AreWrittenAs others entries = ⊥

-- a database is what these entries come to
pub record IsLogged (entries : List Entry) (image : Image) : Type 0 where
  pub lawful : IsLawfulLog entries
  pub map : image.map ≡ (log_database entries).map
  pub holds : HoldsAll image.map (log_database entries).stores
  pub version : image.version ≡ last_version 0 entries

-- after the entries before it is what those come to whose bytes these are
pub record IsReplayOn (before : List Entry) (log : List (List ℕ)) (image : Image) : Type 0 where
  pub entries : List Entry
  pub written : AreWrittenAs log entries
  pub logged : IsLogged (before ++ entries) image

-- REPLAYED: it is what the entries come to whose bytes these are
abbrev pub IsReplay : List (List ℕ) → Image → Type 0
IsReplay log image = IsReplayOn [] log image

-- after the entries before these are the bytes of none that make a lawful log
abbrev pub IsNoLogOn : List Entry → List (List ℕ) → Type 0
IsNoLogOn before log = (entries : List Entry) → AreWrittenAs log entries → IsLawfulLog (before ++ entries) → ⊥

-- Private: these are the bytes of no lawful log
abbrev pub IsNoLog : List (List ℕ) → Type 0
IsNoLog log = IsNoLogOn [] log

-- why a log isn't replayed after other entries
abbrev pub IsUnreplayedOn : List Entry → List (List ℕ) → ReplayError → Type 0
IsUnreplayedOn before log replays.Memory = ⊤
IsUnreplayedOn before log error = IsNoLogOn before log

-- why a log isn't replayed
abbrev pub IsUnreplayed : List (List ℕ) → ReplayError → Type 0
IsUnreplayed log error = IsUnreplayedOn [] log error

-- the entries at the places before this one go on the log after those before, and for this reason what is there
-- doesn't
pub record IsStoppedAt (before : List Entry) (log : List (List ℕ)) (place : ℕ) (Why : List Entry → List ℕ → Type 0) :
    Type 0 where
  pub first : List Entry
  pub written : AreWrittenAs (take place log) first
  pub lawful : IsLawfulLog (before ++ first)
  pub within : place < length log
  pub bytes : List ℕ
  pub at : bytes ≡ get_or log place bytes
  pub why : Why (before ++ first) bytes

-- the bytes are those of an entry of which this is so
abbrev pub HasEntry : (Entry → Type 0) → List ℕ → Type 0
HasEntry Is bytes = (entry : Entry) × IsWrittenAs bytes entry × Is entry

-- at which place a log isn't replayed, and why: the bytes there are no entry's, the version isn't above the last one,
-- the store has the number of none, or a change is refused
abbrev pub IsWhyOn : List Entry → List (List ℕ) → ReplayError → Type 0
IsWhyOn before log replays.Memory = ⊤
IsWhyOn before log (replays.NotAnEntry place error) =
    IsStoppedAt before log place (λ entries bytes. IsNoWrittenEntry bytes error)
IsWhyOn before log (replays.OutOfOrder place) =
    IsStoppedAt before log place (λ entries. HasEntry (λ entry. entry.version ≤ last_version 0 entries))
IsWhyOn before log (replays.NoSuchStore place) =
    IsStoppedAt before log place (λ entries. HasEntry (λ entry. is_store_number entry.store ≡ false))
IsWhyOn before log (replays.Refused place error) =
    IsStoppedAt before log place (λ entries. HasEntry (λ entry.
    let d = log_database entries in AreUndone entry.store d.map (commands_of entry.changes) error))

-- ---- one entry

-- Private: why the bytes at a place are no entry
abbrev pub IsUnreadAt : ℕ → List ℕ → ReplayError → Type 0
IsUnreadAt place bytes replays.Memory = ⊤
IsUnreadAt place bytes (replays.NotAnEntry at error) = (at ≡ place) × IsNoWrittenEntry bytes error
IsUnreadAt place bytes error = ⊥

-- Private: why the entry at a place doesn't come next
abbrev pub IsUnsteppedAt : ℕ → Image → Entry → ReplayError → Type 0
IsUnsteppedAt place image entry replays.Memory = ⊤
IsUnsteppedAt place image entry (replays.OutOfOrder at) = (at ≡ place) × (entry.version ≤ image.version)
IsUnsteppedAt place image entry (replays.NoSuchStore at) = (at ≡ place) × (is_store_number entry.store ≡ false)
IsUnsteppedAt place image entry (replays.Refused at error) =
    (at ≡ place) × AreUndone entry.store image.map (commands_of entry.changes) error
IsUnsteppedAt place image entry error = ⊥

-- Private: the map is that of this database, and holds its stores
pub record Has (d : Database) (m : Map) : Type 0 where
  pub same : m ≡ d.map
  pub holds : HoldsAll m d.stores

-- Private: the entry comes next, and its commands are accepted; the database after it
pub record IsStep (image : Image) (entry : Entry) (next : Image) : Type 0 where
  pub above : image.version < entry.version
  pub store : is_store_number entry.store ≡ true
  pub version : next.version ≡ entry.version
  pub accepted : (d : Database) → Has d image.map → IsPerformable d entry
  pub after : (d : Database) → Has d image.map → Has (after_entry d entry) next.map

-- Private: the entry doesn't come next, or one of its commands isn't accepted
abbrev pub IsNoStep : Image → Entry → ReplayError → Type 0
IsNoStep image entry replays.Memory = ⊤
IsNoStep image entry error =
    (d : Database) → Has d image.map → image.version < entry.version → is_store_number entry.store ≡ true →
    IsPerformable d entry → ⊥

-- Private: how it is told that the changes of an entry weren't performed
abbrev pub told_at : ℕ → PerformError → ReplayError
told_at place performs.Memory = replays.Memory
told_at place error = replays.Refused place error

-- Private: the bytes are those of no entry
abbrev pub IsNoneRead : List ℕ → ReplayError → Type 0
IsNoneRead bytes replays.Memory = ⊤
IsNoneRead bytes error = (entry : Entry) → IsWrittenAs bytes entry → ⊥
