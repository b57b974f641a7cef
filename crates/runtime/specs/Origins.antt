-- What a database begins with: its configuration, and the log that it goes on from.
use Rattle.std.specs.Prelude.{◌≤◌, List, [], ◌∷◌}
use Rattle.kv_core.specs.Map.{Map}
use Rattle.cluster_core.specs.declared.answers.Config.{Config}
use Rattle.command_log.specs.declared.entry.Entry.{Entry as KeptEntry}
use Rattle.schedule.specs.Holds.{HoldsAll, Stores}
use Rattle.replay.specs.Logged.{IsLawfulLog, last_version, log_database}

-- the configuration, and the entries of the log
pub record Origin : Type 0 where
  pub config : Config
  pub before : List KeptEntry

abbrev pub origin_of : Config → List KeptEntry → Origin
origin_of config before = record { config = config; before = before }

-- BASE: what the entries come to, the map and the stores that it holds
abbrev pub base_of : Origin → Map
base_of origin = (log_database origin.before).map

abbrev pub stores_before : Origin → Stores
stores_before origin = (log_database origin.before).stores

-- a database may begin so: the log is a lawful one, and none of its versions is above the first one here
pub record MayBegin (origin : Origin) : Type 0 where
  pub lawful : IsLawfulLog origin.before
  pub holds : HoldsAll (base_of origin) (stores_before origin)
  pub above : last_version 0 origin.before ≤ origin.config.start

-- Private: a configuration that no database has
abbrev pub no_config : Config
no_config = record { resolver_splits = []; storage_splits = []; logs = 0; window = 0; start = 0; places = 0 }

-- Private: the first of a log of one, as which the configuration is kept
abbrev pub first_config : List Config → Config
first_config [] = no_config
first_config (config ∷ others) = config
