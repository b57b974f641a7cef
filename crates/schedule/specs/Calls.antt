-- Private: what the calls that perform commands establish.
use Rattle.std.specs.Prelude.{◌≡◌, ℕ, Some}
use Rattle.kv_core.specs.Range.{KeyRange}
use Rattle.kv_core.specs.Map.{Map}
use Rattle.kv_core.specs.declared.change.CommitRequest.{CommitRequest}
use Rattle.kv_core.specs.declared.snapshot.ReadError.{ReadError}
use Rattle.record_store.specs.declared.error.StoreError.{StoreError}
use Rattle.schedule.specs.declared.step.Command.{Command}
use Rattle.schedule.specs.declared.reply.Reply.{Reply}
use Rattle.schedule.specs.Performed.{IsCommandStopped, IsPerformed}
use Rattle.schedule.specs.Refusals.{reply_of}

-- why a command was refused: it stopped before it wrote anything, and where the error is a reply it was performed with
-- this reply
pub record IsCommandRefused (number : ℕ) (maps : ℕ → Map) (refuses : KeyRange → ℕ → ReadError → Type 0)
    (command : Command) (error : StoreError) (old new : CommitRequest) : Type 0 where
  pub stopped : IsCommandStopped number maps command old new
  pub replied :
      (answer : Reply) → reply_of error ≡ Some answer →
      IsPerformed number maps (λ range. refuses range old.read_version) command answer old new
