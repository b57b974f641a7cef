-- Private: exit statuses.
use Rattle.std.specs.Prelude.{ℕ}
use Rattle.command_line.specs.declared.request.CommandLineError.{CommandLineError}
use Rattle.command_line.specs.declared.request.CommandLineError.TheVariants.{NotTaken, OutOfMemory}

-- the status of a command line that isn't taken, and of want of memory
abbrev pub refused_status : CommandLineError → ℕ
refused_status (NotTaken text) = 2
refused_status OutOfMemory = 1
