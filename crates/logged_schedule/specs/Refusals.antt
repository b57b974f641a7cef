-- Why a schedule isn't begun, or opened from a log.
use Rattle.std.specs.Prelude.{◌≡◌, ◌<◌, ℕ, List, [], Some, ⊤}
use Rattle.cluster_core.specs.Configuration.{config_refusal}
use Rattle.cluster_core.specs.declared.answers.Config.{Config}
use Rattle.journal.specs.Journal.{damage_read, entries_read}
use Rattle.replay.specs.Replaying.{IsNoLogOn, IsWhyOn}
use Rattle.replay.specs.declared.error.ReplayError.{ReplayError}
use Rattle.replay.specs.declared.error.ReplayError.TheVariants as replays
use Rattle.logged_schedule.specs.declared.error.OpenError.{OpenError}
use Rattle.logged_schedule.specs.declared.error.OpenError.TheVariants as opens

-- Private: memory ran out, or the configuration is refused
abbrev pub IsNotBegun : Config → OpenError → Type 0
IsNotBegun config opens.Memory = ⊤
IsNotBegun config (opens.Config why) = config_refusal config ≡ Some why
IsNotBegun config error = ⊥

-- these are the bytes of no lawful log: at this place it isn't replayed, for this reason. Want of memory is none
abbrev pub IsNoLogFor : List (List ℕ) → ReplayError → Type 0
IsNoLogFor log replays.Memory = ⊥
IsNoLogFor log why = IsNoLogOn [] log × IsWhyOn [] log why

-- Private: so it is, or these are the bytes of no lawful log
abbrev pub IsNotBegunAgain : Config → List (List ℕ) → OpenError → Type 0
IsNotBegunAgain config log (opens.Unreplayed why) = IsNoLogFor log why
IsNotBegunAgain config log error = IsNotBegun config error

-- the configuration is refused; the device has failed once more; the file is damaged there; what it has isn't a lawful
-- log, at a place and for a reason; or memory ran out
abbrev pub IsNoneOpened : Config → (faults faults_now : ℕ) → List ℕ → OpenError → Type 0
IsNoneOpened config faults faults_now file opens.Memory = ⊤
IsNoneOpened config faults faults_now file (opens.Config why) = config_refusal config ≡ Some why
IsNoneOpened config faults faults_now file opens.Failed = faults < faults_now
IsNoneOpened config faults faults_now file (opens.Damage at) = damage_read file ≡ Some at
IsNoneOpened config faults faults_now file (opens.Unreplayed why) = IsNoLogFor (entries_read file) why
