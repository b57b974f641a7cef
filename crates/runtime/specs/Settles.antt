-- Private: how far a worker is: what is known of its submissions, and those of which it isn't known what became.
use Rattle.std.specs.Prelude.{◌≡◌, ◌⊎◌, ℕ, ◌+◌, ◌<◌, ◌≤◌, ◌^◌, Bool, true, false, List, [], ◌∷◌, Option, Some, None}
use Rattle.std.specs.Prelude.{count_by, sum_by}
use Rattle.std.specs.List.{list_any}
use mathlib.Core.List.{IsPrefix}
use Rattle.kv_core.specs.declared.change.CommitRequest.{CommitRequest}
use Rattle.runtime.specs.declared.answers.CommandError.TheVariants.{NotEntered}
use Rattle.runtime.specs.declared.answers.RunError.{RunError}
use Rattle.runtime.specs.declared.answers.RunError.TheVariants.{Refused, GaveUp}
use Rattle.runtime.specs.declared.submission_status.SubmissionStatus.TheVariants as statuses
use Rattle.runtime.specs.Traces.{Trace}
use Rattle.runtime.specs.declared.worker_progress.Built.{Built as Totals}
use Rattle.runtime.specs.declared.worker_progress.Progress.{Progress}
use Rattle.runtime.specs.declared.worker_progress.Round.{Round}
use Rattle.runtime.specs.declared.worker_progress.Round.TheVariants.{Built, Marked}
use Rattle.runtime.specs.declared.worker_progress.Unsettled.{Unsettled}
use Rattle.runtime.specs.Builds.{HasForgotten, HasWorked, IndexIn, IsTooMuch, entry_has_built, has_marked, own_of}
use Rattle.runtime.specs.Builds.{records_built}
use Rattle.runtime.specs.Clients.{Knowledge, knows_that}
use Rattle.runtime.specs.History.{Name}
use Rattle.runtime.specs.Logs.{has_submission}
use Rattle.runtime.specs.Outcomes.{IsEndOf, entry}
use Rattle.runtime.specs.Runs.{GoesOnFrom}
use Rattle.runtime.specs.Submissions.{outcome_in, recent_outcome}

-- ---- what is lost

-- the log ends with the submission's entry, whose transaction performed the round
abbrev pub IsUnsettled : IndexIn → Knowledge → Unsettled → Type 0
IsUnsettled index k one =
    (request : CommitRequest) × ((trace : Trace)
    × IsEndOf k.name (entry k.number one.number request trace) one.prefix × HasWorked index one.round trace)

-- these are the submissions numbered above one number and not above another, in order
abbrev pub AreUnsettled : IndexIn → Knowledge → ℕ → ℕ → List Unsettled → Type 0
AreUnsettled index k above top [] = top ≡ above
AreUnsettled index k above top (one ∷ others) =
    (one.number ≡ above + 1) × IsUnsettled index k one × AreUnsettled index k (above + 1) top others

-- their logs are of this database
abbrev pub AreTokensOf : Name → List Unsettled → Type 0
AreTokensOf name [] = Unit {0}
AreTokensOf name (one ∷ others) = (one.prefix.name ≡ name) × AreTokensOf name others

-- ---- what is settled

-- the same with this last number
abbrev pub upto : ℕ → Knowledge → Knowledge
upto last k = knows_that k.name k.log k.number last k.begun

-- each number that was given in between stands in the log; so many of those that are committed there built a part, and
-- so many records together
pub record Counted (index : IndexIn) (old now : Knowledge) (s r : ℕ) : Type 0 where
  pub given : (n : ℕ) → old.last < n → n ≤ now.last → has_submission old.number n now.log ≡ true
  pub last : old.last ≤ now.last
  pub steps : s ≡ count_by (entry_has_built index) (own_of old now)
  pub records : r ≡ sum_by (records_built index) (own_of old now)

-- of the submissions up to one number it is known what became; those above, up to another, are lost
pub record IsProgress (index : IndexIn) (old now : Knowledge) (top : ℕ) (progress : Progress) : Type 0 where
  pub above : ℕ
  pub follows : GoesOnFrom old now
  pub counted : Counted index old (upto above now) progress.built.steps progress.built.records
  pub marked : progress.marked ≡ list_any (has_marked index) (own_of old (upto above now))
  pub lost : AreUnsettled index now above top progress.lost.items
  pub last : top ≤ now.last

-- the client's log has none of those that are lost
abbrev pub NoneStands : Knowledge → List Unsettled → Type 0
NoneStands now [] = Unit {0}
NoneStands now (one ∷ others) = has_submission now.number one.number now.log ≡ false

-- of each submission it is known what became as far as the client's log tells it
abbrev pub IsSettledUpto : IndexIn → Knowledge → Knowledge → ℕ → Progress → Type 0
IsSettledUpto index old now top progress = IsProgress index old now top progress × NoneStands now progress.lost.items

-- ---- one more

-- a round that is committed is counted
abbrev pub HasCounted : Round → Progress → Progress → Type 0
HasCounted (Built more) old new =
    (new.built.records ≡ old.built.records + more) × (new.built.steps ≡ old.built.steps + 1)
    × (new.marked ≡ old.marked)
HasCounted Marked old new = (new.built ≡ old.built) × (new.marked ≡ true)

-- the numbers don't suffice for it
abbrev pub Overflows : Totals → Round → Type 0
Overflows built (Built more) = (2 ^ 64 ≤ built.records + more) ⊎ (2 ^ 64 ≤ built.steps + 1)
Overflows built Marked = ⊥

-- what the client's log tells of a lost submission: it is committed, or refused, or isn't there
abbrev pub TellsOne : Knowledge → Unsettled → Option Bool → Type 0
TellsOne now one (Some true) =
    IsPrefix one.prefix.log now.log
    × ((version : ℕ) × (outcome_in now.name.origin now.log now.number one.number ≡ statuses.Committed version))
TellsOne now one (Some false) =
    IsPrefix one.prefix.log now.log
    × (outcome_in now.name.origin now.log now.number one.number ≡ statuses.Refused)
TellsOne now one None = has_submission now.number one.number now.log ≡ false

-- why nothing is told of it
abbrev pub IsWithheld : Knowledge → ℕ → RunError → Type 0
IsWithheld now number (Refused error) = error ≡ NotEntered
IsWithheld now number GaveUp = recent_outcome now.name.origin now.log now.number number ≡ statuses.Forgotten

-- why asking ends the work
abbrev pub AskingEnds : IndexIn → Knowledge → Knowledge → RunError → Type 0
AskingEnds index old now (Refused error) = error ≡ NotEntered
AskingEnds index old now GaveUp = IsTooMuch index old now ⊎ HasForgotten old now
