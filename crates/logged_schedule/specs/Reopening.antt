-- What opening a schedule from two devices gives, and why it is refused.
use Rattle.std.specs.Prelude.{◌≡◌, ◌⊎◌, ℕ, List, [], Some, ⊤}
use Rattle.cluster_core.specs.Configuration.{config_refusal, first_cluster_over}
use Rattle.cluster_core.specs.declared.answers.Config.{Config}
use Rattle.kv_core.specs.Map.{Map}
use Rattle.journal.specs.declared.device.Device.{Ghosts}
use Rattle.command_log.specs.declared.entry.Entry.{Entry}
use Rattle.schedule.specs.Stepwise.{HasDoneFrom, StepwiseState}
use Rattle.durable.specs.Checkpoints.{HaveHistory}
use Rattle.durable.specs.Reopening.{IsNotReopened}
use Rattle.logged_schedule.specs.declared.error.OpenTwoError.{OpenTwoError}
use Rattle.logged_schedule.specs.declared.error.OpenTwoError.TheVariants.{Memory, Config as Misconfigured, Files}
use Rattle.logged_schedule.specs.declared.twofold.TwofoldSchedule.{TwofoldSchedule}
use Rattle.replay.specs.Continuing.{config_after, from_version}
use Rattle.logged_schedule.specs.Standing.{run_over}
use Rattle.logged_schedule.specs.Twofold.{KeepsRunTwo}

-- a schedule of a configuration was begun over some pairs, from some version on, and nothing is done yet
abbrev pub IsBegunOverSome : Config → StepwiseState → Type 0
IsBegunOverSome config state =
    (base : Map) × (start : ℕ) × HasDoneFrom (first_cluster_over base (from_version start config)) [] [] state

-- REOPENED: whatever history the files have, nothing is done yet over what it comes to, and it is kept
abbrev pub IsOpenedOnHistory :
    {D : Type 0} {G : Ghosts D} → (D → List ℕ) → (D → List ℕ → Type 0) → Config → (first second : List ℕ) →
    TwofoldSchedule D G → Type 0
IsOpenedOnHistory seen may_leave config first second two =
    (entries : List Entry) → HaveHistory entries first second →
    KeepsRunTwo seen may_leave (run_over entries (config_after entries config)) entries two

-- of two devices the first one and the second one were made so, in whichever order they are handed over
abbrev pub AreEither : {D : Type 0} → (D → Type 0) → (D → Type 0) → D → D → Type 0
AreEither One Other first second = (One first × Other second) ⊎ (One second × Other first)

-- why none is opened: memory ran out, the configuration is refused, or the files aren't opened
abbrev pub IsNotOpenedTwo :
    Config → (faults faults_now : ℕ) → (first : List ℕ) → (faults_two now_two : ℕ) → (second : List ℕ) → OpenTwoError →
    Type 0
IsNotOpenedTwo config faults faults_now first faults_two now_two second Memory = ⊤
IsNotOpenedTwo config faults faults_now first faults_two now_two second (Misconfigured why) =
    config_refusal config ≡ Some why
IsNotOpenedTwo config faults faults_now first faults_two now_two second (Files error) =
    IsNotReopened faults faults_now first faults_two now_two second error
