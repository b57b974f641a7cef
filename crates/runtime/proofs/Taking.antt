-- Rounds of a worker, and how one ends the work.
use Rattle.std.proofs.Common.{◌≡◌, ℕ, Bool, true, false, List, Option, inl, inr, refl, sym, subst}
use Rattle.std.specs.Prelude.{Result}
use Rattle.std.specs.List.{list_any}
use Rattle.txn.specs.declared.retry.Ended.{Ended}
use Rattle.txn.specs.declared.retry.Ended.TheVariants as ends
use Rattle.runtime.specs.declared.answers.CommandError.{CommandError}
use Rattle.runtime.specs.declared.answers.CommitError.TheVariants.{Unknown}
use Rattle.runtime.specs.declared.answers.RunError.{RunError}
use Rattle.runtime.specs.declared.answers.RunError.TheVariants.{Refused, GaveUp}
use Rattle.runtime.specs.declared.retrying.Failure.TheVariants as failures
use Rattle.runtime.specs.declared.worker_progress.Progress.{Progress}
use Rattle.runtime.specs.declared.worker_progress.Round.{Round}
use Rattle.runtime.specs.declared.worker_progress.Round.TheVariants.{Built, Marked}
use Rattle.runtime.specs.Builds.{HasAsked, IsTooMuch, has_marked, own_of}
use Rattle.runtime.specs.Clients.{Knowledge}
use Rattle.runtime.specs.History.{Prefix}
use Rattle.runtime.specs.Runs.{AttemptFails, FailsSo, IsLost, IsRefusal}
use Rattle.runtime.specs.Settles.{AskingEnds, HasCounted}
use Rattle.runtime.specs.Works.{CommitsRound, EndsWork, GoesFurther, IsWorkRound, MayGoOn, TakesRound}
use Rattle.runtime.proofs.RunAttempts.{fails_more, stops_more}

module _ (store : ℕ) {B : Type 0} (did : B → Knowledge → Result Round CommandError → Knowledge → B → Type 0) (old mid new : B × Knowledge) (same : new.0 ≡ mid.0) (asked : HasAsked mid.1 new.1) where
  -- ---- another one may follow

  goes_any : GoesFurther store did old mid → (b : Bool) → TakesRound store did b old new
  goes_any goes true = (mid, inl goes, same, asked)
  goes_any goes false = (mid, goes, same, asked)

  pub takes_committed : (round : Round) (p q : Progress) → CommitsRound store did old round mid → HasCounted round p q → TakesRound store did q.marked old new
  takes_committed (Built more) p q commits has = goes_any (inr (more, commits)) q.marked
  takes_committed Marked p q commits has = subst (λ (b : Bool). TakesRound store did b old new) (sym has.1) (mid, inr (inl commits), same, asked)

  pub takes_failed : (b : Bool) → AttemptFails store did false old mid → TakesRound store did b old new
  takes_failed b fails = goes_any (inl (fails_more store did true old mid fails)) b

  pub takes_lost : (b : Bool) (round : Round) (due : Option Prefix) → IsLost store did old round due mid → TakesRound store did b old new
  takes_lost b round due lost = goes_any (inl (inr (round, (Unknown, refl, (lost.0, lost.1, lost.2))))) b

  pub takes_found : (error : CommandError) (b : Bool) → b ≡ true → IsRefusal store did old error mid → TakesRound store did b old new
  takes_found error b marked refused = subst (λ (b : Bool). TakesRound store did b old new) (sym marked) (mid, inr (inr (error, refused)), same, asked)

  -- ---- it ends the work

  any_committed : (round : Round) → CommitsRound store did old round mid → IsWorkRound store did old mid
  any_committed (Built more) commits = inl (inr (more, commits))
  any_committed Marked commits = inr (inl commits)

  ends_asking : (index : List ℕ) (start : Knowledge) (error : RunError) → IsWorkRound store did old mid → AskingEnds (store, index) start new.1 error → EndsWork store did index start old error new
  ends_asking index start (Refused error) round why = inr (inr (why, (mid, round, same, asked)))
  ends_asking index start GaveUp round why = inr ((mid, round, same, asked), why)

  pub ends_committed : (index : List ℕ) (start : Knowledge) (error : RunError) (round : Round) → CommitsRound store did old round mid → AskingEnds (store, index) start new.1 error → EndsWork store did index start old error new
  ends_committed index start error round commits why = ends_asking index start error (any_committed round commits) why

  pub ends_failed : (index : List ℕ) (start : Knowledge) (error : RunError) → AttemptFails store did false old mid → AskingEnds (store, index) start new.1 error → EndsWork store did index start old error new
  ends_failed index start error fails why = ends_asking index start error (inl (inl (fails_more store did true old mid fails))) why

  pub ends_lost : (index : List ℕ) (start : Knowledge) (error : RunError) (round : Round) (due : Option Prefix) → IsLost store did old round due mid → AskingEnds (store, index) start new.1 error → EndsWork store did index start old error new
  ends_lost index start error round due lost why = ends_asking index start error (inl (inl (inr (round, (Unknown, refl, (lost.0, lost.1, lost.2)))))) why

  pub ends_unentered : (index : List ℕ) (start : Knowledge) (error : RunError) (refusal : CommandError) → IsRefusal store did old refusal mid → AskingEnds (store, index) start new.1 error → EndsWork store did index start old error new
  ends_unentered index start error refusal refused why = ends_asking index start error (inr (inr (refusal, refused))) why

  pub ends_refused : (index : List ℕ) (start : Knowledge) (error : CommandError) → IsRefusal store did old error mid → list_any (has_marked (store, index)) (own_of start new.1) ≡ false → EndsWork store did index start old (Refused error) new
  ends_refused index start error refused none = inr (inl ((mid, refused, same, asked), none))

  pub ends_too_much : (index : List ℕ) (start : Knowledge) (round : Round) → CommitsRound store did old round mid → IsTooMuch (store, index) start new.1 → EndsWork store did index start old GaveUp new
  ends_too_much index start round commits much = inr ((mid, any_committed round commits, same, asked), inl much)

-- ---- without asking

module _ (store : ℕ) {B : Type 0} (did : B → Knowledge → Result Round CommandError → Knowledge → B → Type 0) (old new : B × Knowledge) where
  pub ends_untold : (index : List ℕ) (start : Knowledge) (round : Round) (due : Option Prefix) → IsLost store did old round due new → EndsWork store did index start old GaveUp new
  ends_untold index start round due lost = inl (round, (Unknown, refl, (lost.0, lost.1, lost.2)))

  pub ends_stopped : (index : List ℕ) (start : Knowledge) (ended : Ended) → (MayGoOn ended → ⊥) → FailsSo store did old (failures.Ended ended) new → EndsWork store did index start old GaveUp new
  ends_stopped index start ends.Conflict never is = absurd (never (inl refl))
  ends_stopped index start ends.TooOld never is = absurd (never (inr refl))
  ends_stopped index start ends.Other never is = inl (stops_more store did false old new is)
  ends_stopped index start ends.Committed never is = absurd is
  ends_stopped index start ends.ReadOnly never is = absurd is
  ends_stopped index start ends.FutureVersion never is = absurd is
  ends_stopped index start ends.Unknown never is = inl (is.0, (Unknown, refl, is.1))

  pub failed_by : (ended : Ended) → MayGoOn ended → FailsSo store did old (failures.Ended ended) new → AttemptFails store did false old new
  failed_by ended may is = elim may [
    | inl conflict ↦ subst (λ (e : Ended). FailsSo store did old (failures.Ended e) new) conflict is
    | inr too_old ↦ subst (λ (e : Ended). FailsSo store did old (failures.Ended e) new) too_old is
  ]
