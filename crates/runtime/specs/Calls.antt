-- What a call that performs a command does with a client.
use Rattle.std.specs.Prelude.{◌≡◌, Bool, true, false, ℕ, List, Option, Some, None, Result}
use Rattle.std.specs.Prelude.{Ok, Err, IfOk, IfErr, OnOk}
use Rattle.kv_core.specs.Range.{KeyRange}
use Rattle.metadata.specs.declared.cells.Cell.{Cell}
use Rattle.schedule.specs.declared.step.Command.{Command}
use Rattle.schedule.specs.declared.reply.Reply.{Reply}
use Rattle.schedule.specs.declared.reply.Reply.TheVariants.{Absent, Built, Done, Finished, Found, Removed, SavedNew}
use Rattle.schedule.specs.declared.reply.Reply.TheVariants.{SavedOver}
use Rattle.runtime.specs.declared.answers.CommandError.{CommandError}
use Rattle.runtime.specs.declared.published_reads.EnterError.{EnterError}
use Rattle.runtime.specs.declared.open_transaction.OpenTransaction.{OpenTransaction}
use Rattle.runtime.specs.Errors.{accepted_reply}
use Rattle.runtime.specs.Clients.{IsSameTransaction, Knowledge, knows_that}
use Rattle.runtime.specs.Runs.{Continues}
use Rattle.runtime.specs.Serves.{IsAnswer, IsUnanswered}
use Rattle.runtime.specs.Traces.{with_performed}

-- the command was performed in the client's open transaction, with this result
pub record HasPerformed (command : Command) (old : Knowledge) (result : Result Reply EnterError) (new : Knowledge) :
    Type 0 where
  -- the transaction goes on, and nothing else of the client changes, but for its log, which may have grown
  pub continues : Continues old new
  pub same : new ≡ knows_that old.name new.log old.number old.last new.begun
  -- the reply is the serial store's over the transaction's log, or a write limit
  pub answer :
      (open_tx : OpenTransaction) → old.begun ≡ Some open_tx → IfOk result (λ reply.
      IsAnswer open_tx.prefix.name.origin open_tx.prefix.log open_tx.transaction open_tx.trace command reply)
  -- a reply is given in an open transaction
  pub open_then : OnOk result ((open_tx : OpenTransaction) × (old.begun ≡ Some open_tx))
  -- it stands among those that were performed
  pub grown :
      (open_tx : OpenTransaction) → old.begun ≡ Some open_tx → IfOk result (λ reply.
      (after : OpenTransaction) × (new.begun ≡ Some after) × IsSameTransaction open_tx after
      × (after.trace ≡ with_performed open_tx.trace (record { command = command; reply = reply })))
  -- or there is no reply, for its reason
  pub refused :
      (open_tx : OpenTransaction) → old.begun ≡ Some open_tx → IfErr result (λ error.
      (after : OpenTransaction) × (new.begun ≡ Some after) × IsSameTransaction open_tx after
      × IsUnanswered open_tx.prefix new.log error command open_tx.transaction open_tx.trace
      after.transaction after.trace)

-- an answer by the reply that tells it
abbrev pub told_result : {A : Type 0} → (A → Reply) → Result A CommandError → Result Reply CommandError
told_result told (Ok answer) = Ok (told answer)
told_result told (Err error) = Err error

-- the command was performed, and the call answers what its reply tells, or refuses where that refuses
pub record HasCalled {A : Type 0} (told : A → Reply) (command : Command) (old : Knowledge)
    (result : Result A CommandError) (new : Knowledge) : Type 0 where
  pub reply : Result Reply EnterError
  pub performed : HasPerformed command old reply new
  pub answer : accepted_reply reply ≡ told_result told result

-- the replies that tell the record that was there before a save; that was found; whether one was taken out
abbrev pub saved_reply : Option (List Cell) → Reply
saved_reply None = SavedNew
saved_reply (Some cells) = SavedOver cells

abbrev pub found_reply : Option (List Cell) → Reply
found_reply None = Absent
found_reply (Some cells) = Found cells

abbrev pub removed_reply : Bool → Reply
removed_reply true = Removed
removed_reply false = Absent

-- how many records a step of a builder built, and where; or that all positions are built; and that an index is marked
abbrev pub part_reply : Option (ℕ × KeyRange) → Reply
part_reply None = Finished
part_reply (Some part) = Built part.0 part.1

abbrev pub marked_reply : Unit {0} → Reply
marked_reply answer = Done
