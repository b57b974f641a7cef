-- What opening two devices gives, and why it is refused.
use Rattle.std.specs.Prelude.{◌≡◌, ◌⊎◌, ◌<◌, ℕ, Bool, ◌||◌, nat_lt, ◌==◌, length, Some, List, ◌++◌, ⊤}
use Rattle.journal.specs.Journal.{damage_read, entries_read}
use Rattle.journal.specs.declared.device.Device.{Ghosts}
use Rattle.command_log.specs.declared.entry.Entry.{Entry}
use Rattle.replay.specs.Logged.{IsLawfulLog}
use Rattle.replay.specs.Replaying.{AreWrittenAs, Image, IsLogged}
use Rattle.durable.specs.declared.checkpointing.Checkpointed.{Checkpointed}
use Rattle.durable.specs.declared.error.OpenError.{OpenError}
use Rattle.durable.specs.declared.error.OpenError.TheVariants as opens
use Rattle.durable.specs.declared.error.ReopenError.{ReopenError}
use Rattle.durable.specs.declared.error.ReopenError.TheVariants.{Memory, First, Second}
use Rattle.durable.specs.declared.error.ReopenError.TheVariants.{SameGeneration}
use Rattle.durable.specs.Checkpoints.{HaveHistory, IsBaseOf}
use Rattle.durable.specs.Heads.{generation_of}
use Rattle.durable.specs.Keeping.{Base}
use Rattle.durable.specs.Twofold.{log_device, spare_device}

-- Private: the first file isn't older than the second: the second has nothing, or an earlier generation
abbrev pub is_current : List (List ℕ) → List (List ℕ) → Bool
is_current log other = (length other == 0) || nat_lt (generation_of other) (generation_of log)

-- Private: byte strings are what a log goes on from, and then the log of these entries
pub record IsLogOn (log : List (List ℕ)) (base : Base) (after : List Entry) : Type 0 where
  pub generation : ℕ
  pub is_base : IsBaseOf generation base
  pub written : List (List ℕ)
  pub are : AreWrittenAs written after
  pub split : log ≡ base.front ++ written

-- Private: what such byte strings come to
abbrev pub IsLoaded : List (List ℕ) → Image → Type 0
IsLoaded log image = (base : Base) (after : List Entry) → IsLogOn log base after → IsLogged (base.before ++ after) image

-- Private: why byte strings aren't loaded
abbrev pub IsNotLoaded : List (List ℕ) → ReopenError → Type 0
IsNotLoaded log Memory = ⊤
IsNotLoaded log (First error) = ⊥
IsNotLoaded log (Second error) = ⊥
IsNotLoaded log (SameGeneration generation) = ⊥
IsNotLoaded log error =
    (base : Base) (after : List Entry) → IsLogOn log base after → IsLawfulLog (base.before ++ after) → ⊥

-- why a file isn't recovered: memory ran out, the device has failed once more, or it is damaged there
abbrev pub IsUnrecovered : ℕ → ℕ → List ℕ → OpenError → Type 0
IsUnrecovered faults faults_now file opens.Memory = ⊤
IsUnrecovered faults faults_now file opens.Failed = faults < faults_now
IsUnrecovered faults faults_now file (opens.Damage at) = damage_read file ≡ Some at
IsUnrecovered faults faults_now file (opens.Unreplayed error) = ⊥

-- two files don't have the history of a database
abbrev pub HaveNone : List ℕ → List ℕ → Type 0
HaveNone first second = (entries : List Entry) → HaveHistory entries first second → IsLawfulLog entries → ⊥

-- why two devices aren't opened
abbrev pub IsNotReopened : ℕ → ℕ → List ℕ → ℕ → ℕ → List ℕ → ReopenError → Type 0
IsNotReopened faults now first faults_two now_two second Memory = ⊤
IsNotReopened faults now first faults_two now_two second (First error) = IsUnrecovered faults now first error
IsNotReopened faults now first faults_two now_two second (Second error) = IsUnrecovered faults_two now_two second error
IsNotReopened faults now first faults_two now_two second (SameGeneration generation) =
    (generation ≡ generation_of (entries_read first)) × (generation ≡ generation_of (entries_read second))
    × HaveNone first second
IsNotReopened faults now first faults_two now_two second error = HaveNone first second

-- of the devices of a database the first one and the second one were made so, whichever has the log
abbrev pub AreRun : {D : Type 0} {G : Ghosts D} → (D → Type 0) → (D → Type 0) → Checkpointed D G → Type 0
AreRun One Other db =
    (One (log_device db) × Other (spare_device db)) ⊎ (One (spare_device db) × Other (log_device db))
