-- The log of a database whose transactions were open at once: what was committed at which version.
use Rattle.std.specs.Prelude.{◌≡◌, ℕ, true, List, [], map, All, None}
use Rattle.kv_core.specs.Limits.{write_all_refusal}
use Rattle.kv_core.specs.Map.{Map}
use Rattle.kv_core.specs.declared.change.CommitRequest.{CommitRequest}
use Rattle.cluster_core.specs.History as histories
use Rattle.cluster_core.specs.History.{IsLegal, IsRising, map_at, until}
use Rattle.record_store.specs.Layout.{is_store_number}
use Rattle.schedule.specs.Past.{Open, accepted}
use Rattle.schedule.specs.Turns.{AreDone, fresh_request}
use Rattle.command_log.specs.declared.entry.Entry.{Entry}
use Rattle.replay.specs.Commands.{commands_of}
use Rattle.replay.specs.Laws.{changes_among}
use Rattle.schedule.specs.Holds.{HoldsAll}
use Rattle.replay.specs.Logged.{IsLawfulLog, log_database}

-- the request is what the attempts of this transaction made in its store over these maps, and its writes meet no limit
pub record IsMadeSo (maps : ℕ → Map) (transaction : Open) (request : CommitRequest) : Type 0 where
  pub store : is_store_number transaction.store ≡ true
  pub done : AreDone transaction.store maps transaction.attempts (fresh_request request.read_version) request
  pub within : write_all_refusal [] request.mutations ≡ None

-- the entry tells of a committed one that was this transaction: it has its version, its store, and the changes among
-- the commands that were accepted
pub record TellsOfCommit (transaction : Open) (committed : histories.Entry) (entry : Entry) : Type 0 where
  pub version : entry.version ≡ committed.version
  pub store : entry.store ≡ transaction.store
  pub changes : commands_of entry.changes ≡ changes_among (accepted transaction.attempts)

-- a log is lawful, and up to each version it comes to the map of the history there, which holds its stores
pub record IsLogOfHistory (entry_of : histories.Entry → Entry) (history : List histories.Entry) : Type 0 where
  pub lawful : IsLawfulLog (map entry_of history)
  pub comes_to :
      (version : ℕ) → let d = log_database (map entry_of (until version history)) in
      (d.map ≡ map_at history version) × HoldsAll d.map d.stores

-- HISTORIES: so is the log of each legal history whose versions rise, and whose entries come of attempts that were made
-- over the history's maps, whatever was open at once: to perform the changes again in the order of versions comes to
-- the same database
abbrev pub HistoriesReplay : Type 0
HistoriesReplay =
    (transaction_of : histories.Entry → Open) (entry_of : histories.Entry → Entry)
    (history : List histories.Entry) → IsRising history → IsLegal history →
    All (λ one. IsMadeSo (map_at history) (transaction_of one) one.request) history →
    All (λ one. TellsOfCommit (transaction_of one) one (entry_of one)) history → IsLogOfHistory entry_of history
