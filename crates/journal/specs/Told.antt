use Rattle.std.specs.Prelude.{⊤}
use Rattle.journal.specs.declared.device.DeviceError.{DeviceError}
use Rattle.journal.specs.declared.device.DeviceError.TheVariants as device
use Rattle.journal.specs.declared.error.AppendError.{AppendError}
use Rattle.journal.specs.declared.error.AppendError.TheVariants as append
use Rattle.journal.specs.declared.error.RecoverError.{RecoverError}
use Rattle.journal.specs.declared.error.RecoverError.TheVariants as recover

-- how a recovery tells what its device told
abbrev pub recover_error : {R : Type 0} → DeviceError → RecoverError R
recover_error device.Memory = recover.Memory
recover_error device.Failed = recover.Failed

-- what dropping all entries may answer, of the errors of an append: it takes no memory and no room
abbrev pub IsOfClear : AppendError → Type 0
IsOfClear append.Memory = ⊥
IsOfClear append.Full = ⊥
IsOfClear append.Broken = ⊤
IsOfClear (append.Device error) = ⊤
