-- What holds of all logs.
use Rattle.std.specs.Prelude.{◌≡◌, ◌≤◌, ◌-◌, ℕ, List, map}
use Rattle.std.specs.FinMap.{from_entries}
use Rattle.std.specs.List.{filter_map}
use Rattle.record_store.specs.Store.{Serial}
use Rattle.schedule.specs.declared.step.Command.{Command}
use Rattle.schedule.specs.declared.transcript.CommitEntry.{CommitEntry}
use Rattle.schedule.specs.Commits.{committed_store}
use Rattle.schedule.specs.Serve.{effects}
use Rattle.command_log.specs.declared.entry.Entry.{Entry}
use Rattle.replay.specs.Commands.{change_of, commands_of}
use Rattle.replay.specs.Logged.{IsLawfulLog, last_version, log_database}
use Rattle.replay.specs.Pairs.{all_pairs}
use Rattle.replay.specs.Replaying.{Image, IsLogged}

-- the transaction of an entry as it is committed, which reads just before its own version
abbrev pub commit_of : Entry → CommitEntry
commit_of entry =
    record {
      version = entry.version;
      client = entry.client;
      store = entry.store;
      read_version = entry.version - 1;
      commands = commands_of entry.changes;
    }

-- each store is what is committed in it from the last version on
abbrev pub LogsStores : Type 0
LogsStores =
    (entries : List Entry) (number version : ℕ) → IsLawfulLog entries → last_version 0 entries ≤ version →
    (log_database entries).stores number ≡ committed_store number (map commit_of entries) version

-- the commands that are changes
abbrev pub changes_among : List Command → List Command
changes_among commands = commands_of (filter_map change_of commands)

-- the others leave what is there
abbrev pub ChangesSuffice : Type 0
ChangesSuffice =
    (serial : Serial) (commands : List Command) → effects serial (changes_among commands) ≡ effects serial commands

-- the pairs of a database are all of it
abbrev pub PairsSuffice : Type 0
PairsSuffice =
    (entries : List Entry) (image : Image) → IsLogged entries image → from_entries (all_pairs image.map) ≡ image.map
