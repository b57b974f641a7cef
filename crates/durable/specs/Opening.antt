-- What opening a device gives, and why it is refused.
use Rattle.std.specs.Prelude.{◌≡◌, ◌<◌, ℕ, Some, List, ⊤}
use Rattle.journal.specs.Journal.{damage_read}
use Rattle.command_log.specs.declared.entry.Entry.{Entry}
use Rattle.replay.specs.Logged.{IsLawfulLog}
use Rattle.replay.specs.Replaying.{Image, IsNoLog}
use Rattle.durable.specs.declared.error.OpenError.{OpenError}
use Rattle.durable.specs.declared.error.OpenError.TheVariants.{Memory, Failed, Damage, Unreplayed}
use Rattle.durable.specs.Keeping.{HasLogOf, KeepsLog, no_base}

-- a database is what the entries of a file come to, whose log its device keeps now
pub record IsReopened {D : Type 0} (seen : D → List ℕ) (may_leave : D → List ℕ → Type 0) (file : List ℕ) (device : D)
    (image : Image) : Type 0 where
  pub entries : List Entry
  pub had : HasLogOf no_base file entries
  pub keeps : KeepsLog seen may_leave no_base entries device image

-- the file doesn't have the log of a database
abbrev pub IsNoLogFile : List ℕ → Type 0
IsNoLogFile file = (entries : List Entry) → HasLogOf no_base file entries → IsLawfulLog entries → ⊥

-- memory ran out; the device has failed once more; the file is damaged there; or it has no database's log
abbrev pub IsNotOpened : ℕ → ℕ → List ℕ → OpenError → Type 0
IsNotOpened faults faults_now file Memory = ⊤
IsNotOpened faults faults_now file Failed = faults < faults_now
IsNotOpened faults faults_now file (Damage at) = damage_read file ≡ Some at
IsNotOpened faults faults_now file (Unreplayed error) = IsNoLogFile file

-- Private: why entries weren't replayed
abbrev pub IsUnreplayedAs : List (List ℕ) → OpenError → Type 0
IsUnreplayedAs log (Unreplayed error) = IsNoLog log
IsUnreplayedAs log error = error ≡ Memory
