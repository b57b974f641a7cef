-- The errors of a call.
use Rattle.std.specs.Prelude.{◌≡◌, List, [], Some}
use Rattle.kv_core.specs.Limits.{write_all_refusal}
use Rattle.kv_core.specs.declared.change.Mutation.{Mutation}
use Rattle.kv_core.specs.declared.change.WriteError.{WriteError}
use Rattle.kv_core.specs.declared.change.WriteError.TheVariants as writes
use Rattle.drive.specs.declared.error.DriveError.{DriveError}
use Rattle.drive.specs.declared.error.DriveError.TheVariants.{Memory, Write}

-- what a refused write is: want of memory is no other refusal
abbrev pub error_of : WriteError → DriveError
error_of writes.Memory = Memory
error_of why = Write why

-- the error tells the first refusal of a transaction's writes
abbrev pub IsWriteRefused : List Mutation → DriveError → Type 0
IsWriteRefused written error =
    (why : WriteError) × (write_all_refusal [] written ≡ Some why) × (error ≡ error_of why)
