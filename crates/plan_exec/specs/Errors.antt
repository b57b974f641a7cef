-- What errors of other calls are as errors of an execution.
use Rattle.kv_core.specs.declared.snapshot.ReadError.{ReadError}
use Rattle.kv_core.specs.declared.snapshot.ReadError.TheVariants as read
use Rattle.plan_exec.specs.declared.error.ExecError.{ExecError}
use Rattle.plan_exec.specs.declared.error.ExecError.TheVariants.{Memory, Read}

-- the error that want of memory is
abbrev pub exec_memory : ExecError
exec_memory = Memory

-- the error that a refused read is
abbrev pub exec_read : ReadError → ExecError
exec_read read.Memory = Memory
exec_read error = Read error
