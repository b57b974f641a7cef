-- The log of a folder may go to another thread; and why the database of one isn't opened.
use Rattle.cluster_core.specs.declared.answers.Config.{Config}
use Rattle.commit_log.specs.Databases.{IsUnopenedOn}
use Rattle.commit_log.specs.declared.database.NotOpened.TheVariants.{Database, Log}
use Rattle.commit_log.specs.declared.database.NotOpened.{NotOpened}
use Rattle.record_layer.specs.Opening.{IsWhyUnopenedAt}
use Rattle.record_layer.specs.declared.opening.OpenAtError.TheVariants.{Refused}
use Rattle.std.proofs.Common.{ℕ, List, Global}
use Rattle.std.specs.declared.string.String.{String}
use Rattle.journal.proofs.journal.Journal.TheSendSync as journal
use Rattle.journal_file.proofs.Sendable.{device_send}
use Rattle.commit_log.proofs.device_log.DeviceLog.TheSendSync as log

pub ruleset folder_logs = (log.the_send, journal.the_send, device_send)

pub why_at : {D : Type 0} (seen : D → List ℕ) (may_leave : D → List ℕ → Type 0) (moment : D → ℕ) (left_since : D → ℕ → List ℕ → Type 0) (faults : D → ℕ) (config : Config) (device : D) (path : String Global) (error : NotOpened) →
    IsUnopenedOn seen may_leave moment left_since faults config device error → IsWhyUnopenedAt config (Refused path error)
why_at seen may_leave moment left_since faults config device path (Log error) is = tt
why_at seen may_leave moment left_since faults config device path (Database error) is = is.why
