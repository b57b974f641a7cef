-- What is seen of a database.
use Rattle.std.specs.Prelude.{◌≡◌, Bool, Option, Some, None, if◌then◌else◌}
use Rattle.journal.specs.Standing as journals
use Rattle.journal.specs.declared.device.Device.{Ghosts}
use Rattle.replay.specs.Replaying.{Image}
use Rattle.durable.specs.declared.database.Durable.{Durable}

-- the device that has its log
abbrev pub log_device : {D : Type 0} {G : Ghosts D} → Durable D G → D
log_device db = journals.device_of db.journal

-- its pairs, and its last version
abbrev pub image_of : {D : Type 0} {G : Ghosts D} → Durable D G → Image
image_of db = db.image

-- it commits
abbrev pub takes_commits : {D : Type 0} {G : Ghosts D} → Durable D G → Bool
takes_commits db = db.is_open

-- what is read of it
abbrev pub read_image : {D : Type 0} {G : Ghosts D} → Durable D G → Option Image
read_image db = if db.is_open then Some db.image else None

-- nothing has changed
pub record IsUnchanged {D : Type 0} {G : Ghosts D} (old new : Durable D G) : Type 0 where
  pub device : log_device new ≡ log_device old
  pub image : image_of new ≡ image_of old
  pub open_still : takes_commits new ≡ takes_commits old
