-- The commands that changes are, and which commands are changes.
use Rattle.std.specs.Prelude.{List, map, Option, Some, None}
use Rattle.schedule.specs.declared.step.Command.{Command}
use Rattle.schedule.specs.declared.step.Command.TheVariants as commands
use Rattle.command_log.specs.declared.change.Change.{Change}
use Rattle.command_log.specs.declared.change.Change.TheVariants as changes

-- the command that a change is
abbrev pub command_of : Change → Command
command_of (changes.Create request) = commands.Create request
command_of (changes.«Type» request) = commands.«Type» request
command_of (changes.Field name field) = commands.Field name field
command_of (changes.Index request) = commands.Index request
command_of (changes.Save name cells) = commands.Save name cells
command_of (changes.Remove name cells) = commands.Remove name cells
command_of (changes.Drop name) = commands.Drop name
command_of (changes.Disable name) = commands.Disable name
command_of (changes.WriteOnly name) = commands.WriteOnly name
command_of (changes.Readable name) = commands.Readable name
command_of (changes.Build name limit) = commands.Build name limit

abbrev pub commands_of : List Change → List Command
commands_of changes = map command_of changes

-- the change that a command is, or None where it only looks
abbrev pub change_of : Command → Option Change
change_of (commands.Create request) = Some (changes.Create request)
change_of (commands.«Type» request) = Some (changes.«Type» request)
change_of (commands.Field name field) = Some (changes.Field name field)
change_of (commands.Index request) = Some (changes.Index request)
change_of (commands.Save name cells) = Some (changes.Save name cells)
change_of (commands.Remove name cells) = Some (changes.Remove name cells)
change_of (commands.Drop name) = Some (changes.Drop name)
change_of (commands.Disable name) = Some (changes.Disable name)
change_of (commands.WriteOnly name) = Some (changes.WriteOnly name)
change_of (commands.Readable name) = Some (changes.Readable name)
change_of (commands.Build name limit) = Some (changes.Build name limit)
change_of command = None
