-- What follows an attempt.
use Rattle.std.specs.Prelude.{◌≡◌, ◌⊎◌, ℕ, Bool, nat_lt, if◌then◌else◌, IsTrue}
use Rattle.txn.specs.declared.retry.Ended.{Ended}
use Rattle.txn.specs.declared.retry.Ended.TheVariants.{Committed, ReadOnly, Conflict, TooOld}
use Rattle.txn.specs.declared.retry.Ended.TheVariants.{FutureVersion, Unknown, Other}
use Rattle.txn.specs.declared.retry.Next.{Next}
use Rattle.txn.specs.declared.retry.Next.TheVariants.{Again, Done, GiveUp}

-- the attempt did what it was for
abbrev pub HasSucceeded : Ended → Type 0
HasSucceeded ended = (ended ≡ Committed) ⊎ (ended ≡ ReadOnly)

-- another attempt does no harm: this one wrote nothing, or it may have written what may be written twice
abbrev pub MayTryAgain : Ended → Bool → Type 0
MayTryAgain ended repeatable =
    (ended ≡ Conflict) ⊎ ((ended ≡ TooOld) ⊎ ((ended ≡ FutureVersion) ⊎ ((ended ≡ Unknown) × IsTrue repeatable)))

-- another attempt where there is one left, and else no more
abbrev pub again_below : ℕ → ℕ → Next
again_below limit attempt = if nat_lt attempt limit then Again else GiveUp

-- the table of what follows an attempt, by how it ended
abbrev pub next_after : ℕ → Ended → ℕ → Bool → Next
next_after limit Committed attempt repeatable = Done
next_after limit ReadOnly attempt repeatable = Done
next_after limit Conflict attempt repeatable = again_below limit attempt
next_after limit TooOld attempt repeatable = again_below limit attempt
next_after limit FutureVersion attempt repeatable = again_below limit attempt
next_after limit Unknown attempt repeatable = if repeatable then again_below limit attempt else GiveUp
next_after limit Other attempt repeatable = GiveUp
