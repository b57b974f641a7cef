-- A database over two files as a value: what is seen of it, what it keeps, and why it makes no checkpoint.
use Rattle.std.specs.Prelude.{◌≡◌, ◌-◌, ◌^◌, ◌+◌, ℕ, Bool, false, List, [], ◌∷◌, ◌++◌}
use Rattle.journal.specs.Device.{Only}
use Rattle.journal.specs.Standing as journals
use Rattle.journal.specs.declared.device.Device.{Ghosts}
use Rattle.command_log.specs.declared.entry.Entry.{Entry}
use Rattle.replay.specs.Commands.{commands_of}
use Rattle.replay.specs.Logged.{AreServed, log_database}
use Rattle.replay.specs.Replaying.{Image}
use Rattle.durable.specs.declared.checkpointing.Checkpointed.{Checkpointed}
use Rattle.durable.specs.declared.error.CommitError.{CommitError}
use Rattle.durable.specs.declared.error.CheckpointError.{CheckpointError}
use Rattle.durable.specs.declared.error.CheckpointError.TheVariants.{Memory, Full, Exhausted, Closed, Failed, Starved}
use Rattle.durable.specs.declared.request.Committed.{Committed}
use Rattle.durable.specs.declared.request.Request.{Request}
use Rattle.durable.specs.Checkpoints.{IsBaseOf, IsOlder}
use Rattle.durable.specs.Keeping.{Base, KeepsLog, entry_at}
use Rattle.durable.specs.Refusals.{IsUncommitted}
use Rattle.durable.specs.Standing as databases

-- the device that has its log
abbrev pub log_device : {D : Type 0} {G : Ghosts D} → Checkpointed D G → D
log_device db = databases.log_device db.log

-- the other one
abbrev pub spare_device : {D : Type 0} {G : Ghosts D} → Checkpointed D G → D
spare_device db = journals.device_of db.spare

-- its pairs, and its last version
abbrev pub image_of : {D : Type 0} {G : Ghosts D} → Checkpointed D G → Image
image_of db = databases.image_of db.log

-- it commits
abbrev pub takes_commits : {D : Type 0} {G : Ghosts D} → Checkpointed D G → Bool
takes_commits db = databases.takes_commits db.log

-- how many checkpoints its history has
abbrev pub generation_of : {D : Type 0} {G : Ghosts D} → Checkpointed D G → ℕ
generation_of db = db.generation

-- KEEPS: the log's device has the rest of this history after what the first entries come to, the database is what
-- all of them come to, and the other device has nothing or an earlier generation; all of it is on the disk
pub record KeepsHistory {D : Type 0} (seen : D → List ℕ) (may_leave : D → List ℕ → Type 0) (entries : List Entry)
    (generation : ℕ) (device spare : D) (image : Image) : Type 0 where
  pub base : Base
  pub after : List Entry
  pub split : base.before ++ after ≡ entries
  pub is_base : IsBaseOf generation base
  pub keeps : KeepsLog seen may_leave base after device image
  pub older : IsOlder (seen spare) generation
  pub spare_durable : Only (seen spare) (may_leave spare)

-- a request is committed after a history, with the replies that its changes have there
pub record IsAdded {D : Type 0} (seen : D → List ℕ) (may_leave : D → List ℕ → Type 0) (entries : List Entry)
    (generation version : ℕ) (request : Request) (done : Committed) (device spare : D) (image : Image) : Type 0 where
  pub given : done.version ≡ version + 1
  pub keeps : KeepsHistory seen may_leave (entries ++ entry_at (version + 1) request ∷ []) generation device spare image
  pub served :
      let d = log_database entries in
      AreServed request.store d.map [] (d.stores request.store) (commands_of request.changes) done.replies.items

-- why a transaction isn't committed, and what stands then, is as of a database over one device
abbrev pub IsUncommittedTwo :
    {D : Type 0} {G : Ghosts D} → CommitError → Request → Checkpointed D G → Checkpointed D G → Type 0
IsUncommittedTwo error request old new = IsUncommitted error request old.log new.log

-- what no checkpoint leaves: after want of memory or room the database goes on, its log and what it is are as before;
-- after a failure of the spare device it is closed
abbrev pub MakesNoCheckpoint :
    {D : Type 0} {G : Ghosts D} → CheckpointError → Checkpointed D G → Checkpointed D G → Type 0
MakesNoCheckpoint Memory old new = takes_commits new ≡ takes_commits old
MakesNoCheckpoint Full old new = takes_commits new ≡ takes_commits old
MakesNoCheckpoint Exhausted old new = (takes_commits new ≡ takes_commits old) × (generation_of old ≡ 2 ^ 64 - 1)
MakesNoCheckpoint Closed old new = (takes_commits new ≡ false) × (takes_commits old ≡ false)
MakesNoCheckpoint Failed old new = takes_commits new ≡ false
MakesNoCheckpoint Starved old new = takes_commits new ≡ false
