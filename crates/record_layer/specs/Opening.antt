-- Why the database in a folder isn't opened.
use Rattle.std.specs.Prelude.{⊤}
use Rattle.cluster_core.specs.declared.answers.Config.{Config}
use Rattle.commit_log.specs.Databases.{IsNoneMade}
use Rattle.commit_log.specs.declared.database.NotOpened.TheVariants.{Database}
use Rattle.record_layer.specs.declared.opening.OpenAtError.{OpenAtError}
use Rattle.record_layer.specs.declared.opening.OpenAtError.TheVariants.{Refused}

-- where no database is made over what its log comes to, that is for a reason; what the system and the file have is
-- for them to say
abbrev pub IsWhyUnopenedAt : Config → OpenAtError → Type 0
IsWhyUnopenedAt config (Refused path (Database error)) = IsNoneMade config error
IsWhyUnopenedAt config error = ⊤
