-- The log of a database: what its file has, what it comes to, and what a transaction adds.
use Rattle.std.specs.Prelude.{◌≡◌, ◌⊎◌, ◌≤◌, ℕ, ◌+◌, ◌^◌, List, [], ◌∷◌, ◌++◌, length, take}
use Rattle.journal.specs.Block.{StandsFor}
use Rattle.journal.specs.Device.{Only}
use Rattle.journal.specs.Form.{blocks}
use Rattle.command_log.specs.declared.entry.Entry.{Entry}
use Rattle.command_log.specs.Form.{bytes_of_entry}
use Rattle.replay.specs.Commands.{commands_of}
use Rattle.replay.specs.Logged.{AreServed, log_database}
use Rattle.replay.specs.Replaying.{AreWrittenAs, Image, IsLogged}
use Rattle.durable.specs.declared.request.Request.{Request}
use Rattle.durable.specs.declared.request.Committed.{Committed}

-- what a log goes on from: the byte strings that stand before it in the file, and the entries that the database
-- before it comes from
pub record Base : Type 0 where
  pub front : List (List ℕ)
  pub before : List Entry

-- a log that begins with the first transaction goes on from nothing
abbrev pub no_base : Base
no_base = record { front = []; before = [] }

-- the file has the log of these entries after what it goes on from, and nothing else
abbrev pub HasLogOf : Base → List ℕ → List Entry → Type 0
HasLogOf base file entries = (log : List (List ℕ)) × AreWrittenAs log entries × StandsFor file (base.front ++ log)

-- a device's file has the log of these entries, all of it on the disk
pub record HasOnDisk {D : Type 0} (seen : D → List ℕ) (may_leave : D → List ℕ → Type 0) (base : Base)
    (entries : List Entry) (device : D) : Type 0 where
  pub file : HasLogOf base (seen device) entries
  pub durable : Only (seen device) (may_leave device)

-- KEEPS: a device's file has the log of these entries, all of it on the disk, and a database is what they come to
-- after what the log goes on from
pub record KeepsLog {D : Type 0} (seen : D → List ℕ) (may_leave : D → List ℕ → Type 0) (base : Base)
    (entries : List Entry) (device : D) (image : Image) : Type 0 where
  pub file : HasLogOf base (seen device) entries
  pub durable : Only (seen device) (may_leave device)
  pub logged : IsLogged (base.before ++ entries) image

-- the entry that a request is logged as, at this version
abbrev pub entry_at : ℕ → Request → Entry
entry_at version request =
    record {
      version = version;
      client = request.client;
      number = request.number;
      store = request.store;
      changes = request.changes;
    }

-- a file has no room for the entry of a request at the version after this one
abbrev pub HasNoRoom : List ℕ → ℕ → Request → Type 0
HasNoRoom file version request =
    2 ^ 63 ≤ length file + length (blocks (bytes_of_entry (entry_at (version + 1) request) ∷ []))

-- those of requests, from the version after this one on
abbrev pub entries_after : ℕ → List Request → List Entry
entries_after version [] = []
entries_after version (request ∷ requests) = entry_at (version + 1) request ∷ entries_after (version + 1) requests

-- a request is committed behind a log, with the replies that its changes have there
pub record IsCommitted {D : Type 0} (seen : D → List ℕ) (may_leave : D → List ℕ → Type 0) (base : Base)
    (entries : List Entry) (version : ℕ) (request : Request) (done : Committed) (device : D) (image : Image) :
    Type 0 where
  pub given : done.version ≡ version + 1
  pub keeps : KeepsLog seen may_leave base (entries ++ entry_at (version + 1) request ∷ []) device image
  pub served :
      let d = log_database (base.before ++ entries) in
      AreServed request.store d.map [] (d.stores request.store) (commands_of request.changes) done.replies.items

-- the file has the log of these entries, with one more or without it
abbrev pub HasOneOrNone : Base → List Entry → Entry → List ℕ → Type 0
HasOneOrNone base entries entry file = HasLogOf base file entries ⊎ HasLogOf base file (entries ++ entry ∷ [])

-- the file has the log of these entries, with some of the others behind it, from their first on
abbrev pub HasFirst : Base → List Entry → List Entry → List ℕ → Type 0
HasFirst base entries others file =
    (count : ℕ) × (count ≤ length others) × HasLogOf base file (entries ++ take count others)
