-- At which version a database begins that goes on from a log.
use Rattle.std.specs.Prelude.{ℕ, List, max}
use Rattle.cluster_core.specs.declared.answers.Config.{Config}
use Rattle.command_log.specs.declared.entry.Entry.{Entry}
use Rattle.replay.specs.Logged.{last_version}

-- the version at which it begins over a log: the first one, or that of the last entry, if that is later
abbrev pub start_after : ℕ → List Entry → ℕ
start_after start entries = max start (last_version 0 entries)

-- a configuration with another first version
abbrev pub from_version : ℕ → Config → Config
from_version start config = record config { start = start }

-- the same, from the version of the last entry on
abbrev pub config_after : List Entry → Config → Config
config_after entries config = from_version (start_after config.start entries) config
