-- What other crates see of a journal.
use Rattle.std.specs.Prelude.{Bool}
use Rattle.journal.specs.declared.device.Device.{Ghosts}
use Rattle.journal.specs.declared.journal.Journal.{Journal}

-- the device whose file it is
abbrev pub device_of : {D : Type 0} {G : Ghosts D} → Journal D G → D
device_of journal = journal.device

-- it takes entries
abbrev pub is_open : {D : Type 0} {G : Ghosts D} → Journal D G → Bool
is_open journal = journal.is_open
