-- What a run of a race is.
use Rattle.std.specs.Prelude.{◌≡◌, ℕ, List, Some, None, IsNone}
use Rattle.script.specs.Race.{race_of}
use Rattle.script.specs.declared.race.Race.{Race}
use Rattle.race.specs.Racing.{race_refusal}
use Rattle.recordctl.specs.declared.fault.Fault.{Fault}
use Rattle.recordctl.specs.declared.fault.Fault.TheVariants.{OutOfMemory, BadScript, BadConfig}
use Rattle.recordctl.specs.declared.fault.Fault.TheVariants.{CannotRead, BadArgument, Refused}
use Rattle.recordctl.specs.declared.fault.Fault.TheVariants.{RefusedSchema, RefusedQuery, SortNotServed}
use Rattle.recordctl.specs.declared.fault.Fault.TheVariants.{GaveUp, RefusedCommand, Corrupt}

-- a text is a race that can be run: there is a database of its configuration, with places enough
pub record IsRaced (text : List ℕ) : Type 0 where
  pub race : Race
  pub read : race_of text ≡ Some race
  pub allowed : IsNone (race_refusal race.config)

-- Private: a fault says why a text that was read isn't run as a race: it is none, or its configuration is refused. Any
-- race may want memory, give up, or have a command refused
abbrev pub explains_raced : List ℕ → Fault → Type 0
explains_raced text (BadConfig why) =
    (race : Race) × (race_of text ≡ Some race) × (race_refusal race.config ≡ Some why)
explains_raced text CannotRead = ⊥
explains_raced text OutOfMemory = Unit {0}
explains_raced text (BadScript number) = (number ≡ 0) × (race_of text ≡ None)
explains_raced text BadArgument = ⊥
explains_raced text (Refused kind at) = ⊥
explains_raced text (RefusedSchema why) = ⊥
explains_raced text (RefusedQuery why) = ⊥
explains_raced text SortNotServed = ⊥
explains_raced text GaveUp = (race : Race) × (race_of text ≡ Some race)
explains_raced text (RefusedCommand why) = (race : Race) × (race_of text ≡ Some race)
explains_raced text Corrupt = (race : Race) × (race_of text ≡ Some race)
