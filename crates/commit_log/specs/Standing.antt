-- What other crates see of a log on a device.
use Rattle.journal.specs.Standing as journals
use Rattle.journal.specs.declared.device.Device.{Ghosts}
use Rattle.commit_log.specs.declared.device_log.DeviceLog.{DeviceLog}

-- the device whose file it is
abbrev pub device_of_log : {D : Type 0} {G : Ghosts D} {R : Type 0} → DeviceLog D R G → D
device_of_log log = journals.device_of log.journal
