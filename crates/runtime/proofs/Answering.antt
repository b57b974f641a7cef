-- What a client answers to a commit, by what it is told at the commit lock.
use Rattle.std.proofs.Common.{◌≡◌, ◌+◌, ℕ, List, Bool, true, false, Option, Some, None, [], refl, ap, ◌∙◌, sym, subst, true≢false}
use Rattle.std.specs.Bool.{OnTrue}
use Rattle.std.specs.Prelude.{IfSome, IsErrOf}
use mathlib.Core.List.{IsPrefix}
use Rattle.command_log.specs.declared.entry.Entry.{Entry as KeptEntry}
use Rattle.kv_core.specs.declared.change.CommitRequest.{CommitRequest}
use Rattle.runtime.specs.Traces.{Trace}
use Rattle.runtime.specs.declared.outcome.Outcome.{Outcome}
use Rattle.runtime.specs.declared.outcome.Outcome.TheVariants.{Committed, Conflict, TooOld, VersionsExhausted, Unknown, Memory}
use Rattle.runtime.specs.declared.answers.CommitError.TheVariants.{Closed}
use Rattle.runtime.specs.History.{Name, Prefix}
use Rattle.runtime.specs.Outcomes.{Shows, entry, last_then}
use Rattle.runtime.specs.Clients.{Knowledge}
use Rattle.runtime.specs.Commits.{Answers, IsStoredThen, Learns, answer_unless, commit_answer}
use Rattle.runtime.specs.Keeping.{IsStored}

-- what the lock told: the log that shows the outcome is one of the client's database, which the client knows then
abbrev pub IsTold : Knowledge → Knowledge → CommitRequest → Trace → Outcome → Option Prefix → Type 0
IsTold a b r t outcome None = Unit {0}
IsTold a b r t outcome (Some f) = (f.name ≡ a.name) × Shows a.name.origin f.log (entry a.number (a.last + 1) r t) outcome × IsPrefix f.log b.log

-- the log that shows it is the client's own
learns : (a b : Knowledge) (r : CommitRequest) (t : Trace) (outcome : Outcome) (f : Prefix) → IsTold a b r t outcome (Some f) → b.last ≡ last_then a.last outcome → Learns a b r t outcome f.log
learns a b r t outcome f told last = record { shows = told.1; known = told.2; last = last }

-- nothing is shown
silent : (a b : Knowledge) (r : CommitRequest) (t : Trace) → b.last ≡ a.last + 1 → Learns a b r t Unknown []
silent a b r t last = record { shows = tt; known = (b.log, refl); last = last }

stayed : (a b : Knowledge) (r : CommitRequest) (t : Trace) → b.last ≡ a.last → Learns a b r t Memory []
stayed a b r t last = record { shows = tt; known = (b.log, refl); last = last }

pub answers_by : (a b : Knowledge) (r : CommitRequest) (t : Trace) (outcome : Outcome) (seen : Option Prefix) → IsTold a b r t outcome seen → b.last ≡ last_then a.last outcome → Answers a b r t (commit_answer outcome seen)
answers_by a b r t (Committed version) (Some f) told last = (learns a b r t (Committed version) f told last, told.0)
answers_by a b r t (Conflict at range) (Some f) told last = (f.log, learns a b r t (Conflict at range) f told last)
answers_by a b r t TooOld (Some f) told last = (f.log, learns a b r t TooOld f told last)
answers_by a b r t VersionsExhausted (Some f) told last = (f.log, learns a b r t VersionsExhausted f told last)
answers_by a b r t Unknown (Some f) told last = ([], silent a b r t last)
answers_by a b r t Memory (Some f) told last = ([], stayed a b r t last)
answers_by a b r t (Committed version) None told last = ([], silent a b r t last)
answers_by a b r t (Conflict at range) None told last = ([], silent a b r t last)
answers_by a b r t TooOld None told last = ([], stayed a b r t last)
answers_by a b r t VersionsExhausted None told last = ([], stayed a b r t last)
answers_by a b r t Unknown None told last = ([], silent a b r t last)
answers_by a b r t Memory None told last = ([], stayed a b r t last)

-- unless the database is closed
pub answers_open : (a b : Knowledge) (r : CommitRequest) (t : Trace) (outcome : Outcome) (seen : Option Prefix) (is_closed : Bool) → IsTold a b r t outcome seen → b.last ≡ last_then a.last outcome → OnTrue is_closed (outcome ≡ Memory) →
    Answers a b r t (answer_unless is_closed (commit_answer outcome seen))
answers_open a b r t outcome seen true told last is = ([], stayed a b r t (last ∙ ap (last_then a.last) is))
answers_open a b r t outcome seen false told last is = answers_by a b r t outcome seen told last

-- it is told to be closed only where it is
pub closed_only : (outcome : Outcome) (seen : Option Prefix) (is_closed : Bool) → IsErrOf (answer_unless is_closed (commit_answer outcome seen)) Closed → is_closed ≡ true
closed_only outcome seen true is = refl
closed_only (Committed version) (Some prefix) false is = absurd (cc (is))
closed_only (Conflict version range) (Some prefix) false is = absurd (cc (is))
closed_only TooOld (Some prefix) false is = absurd (cc (is))
closed_only VersionsExhausted (Some prefix) false is = absurd (cc (is))
closed_only Unknown (Some prefix) false is = absurd (cc (is))
closed_only Memory (Some prefix) false is = absurd (cc (is))
closed_only (Committed version) None false is = absurd (cc (is))
closed_only (Conflict version range) None false is = absurd (cc (is))
closed_only TooOld None false is = absurd (cc (is))
closed_only VersionsExhausted None false is = absurd (cc (is))
closed_only Unknown None false is = absurd (cc (is))
closed_only Memory None false is = absurd (cc (is))

pub kept_where : (outcome : Outcome) (seen : Option Prefix) (is_closed kept : Bool) → OnTrue is_closed (kept ≡ true) → IsErrOf (answer_unless is_closed (commit_answer outcome seen)) Closed → kept ≡ true
kept_where outcome seen true kept known is = known
kept_where outcome seen false kept known is = absurd (true≢false (sym (closed_only outcome seen false is)))

-- the same by the clauses of the lock
pub told_by : (a b : Knowledge) (name : Name) (r : CommitRequest) (t : Trace) (outcome : Outcome) (seen : Option Prefix) → name ≡ a.name → IfSome seen (λ f. (f.name ≡ name) × IsPrefix f.log b.log) →
    IfSome seen (λ f. Shows f.name.origin f.log (entry a.number (a.last + 1) r t) outcome) → IsTold a b r t outcome seen
told_by a b name r t outcome None same known shows = tt
told_by a b name r t outcome (Some f) same known shows =
    let of : f.name ≡ a.name = known.0 ∙ same in
    (of, subst (λ (n : Name). Shows n.origin f.log (entry a.number (a.last + 1) r t) outcome) of shows, known.1)

-- ---- what is stored then

module _ {E : Type 0} (may_leave : E → List ℕ → Type 0) (is_log : List ℕ → List KeptEntry → Type 0) where
  stored_open : (outcome : Outcome) (seen : Option Prefix) → IfSome seen (IsStored may_leave is_log) → IsStoredThen may_leave is_log (commit_answer outcome seen)
  stored_open (Committed version) (Some prefix) stored = stored
  stored_open (Conflict version range) (Some prefix) stored = tt
  stored_open TooOld (Some prefix) stored = tt
  stored_open VersionsExhausted (Some prefix) stored = tt
  stored_open Unknown (Some prefix) stored = tt
  stored_open Memory (Some prefix) stored = tt
  stored_open (Committed version) None stored = tt
  stored_open (Conflict version range) None stored = tt
  stored_open TooOld None stored = tt
  stored_open VersionsExhausted None stored = tt
  stored_open Unknown None stored = tt
  stored_open Memory None stored = tt

  -- the log by which a commit is answered is stored
  pub stored_then : (outcome : Outcome) (seen : Option Prefix) (is_closed : Bool) → IfSome seen (IsStored may_leave is_log) → IsStoredThen may_leave is_log (answer_unless is_closed (commit_answer outcome seen))
  stored_then outcome seen true stored = tt
  stored_then outcome seen false stored = stored_open outcome seen stored
