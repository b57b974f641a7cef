-- How far a worker is after a round, and how one ends the work: by what its attempt, the asking and the counting told.
use Rattle.std.proofs.Common.{◌≡◌, ℕ, ◌+◌, ◌≤◌, false, Option, Some, None, [], ◌∷◌, ◌++◌, inl, inr, refl, sym, subst, arith}
use Rattle.std.specs.Prelude.{Result, Ok, Err, MatchResult, OnOk, IfErr}
use Rattle.std.proofs.lemmas.Result.{IfErr-at_err}
use Rattle.txn.specs.declared.retry.Ended.{Ended}
use Rattle.runtime.specs.declared.answers.CommandError.{CommandError}
use Rattle.runtime.specs.declared.answers.RunError.{RunError}
use Rattle.runtime.specs.declared.answers.RunError.TheVariants.{Refused, GaveUp}
use Rattle.runtime.specs.declared.index_worker.GatePoint.{GatePoint}
use Rattle.runtime.specs.declared.index_worker.Worker.{Worker}
use Rattle.runtime.specs.declared.open_transaction.OpenTransaction.{OpenTransaction}
use Rattle.runtime.specs.declared.retrying.Failure.{Failure}
use Rattle.runtime.specs.declared.retrying.Failure.TheVariants as failures
use Rattle.runtime.specs.declared.worker_progress.Progress.{Progress}
use Rattle.runtime.specs.declared.worker_progress.Round.{Round}
use Rattle.runtime.specs.declared.worker_progress.Round.TheVariants.{Built, Marked}
use Rattle.runtime.specs.declared.worker_progress.Unsettled.{Unsettled}
use Rattle.runtime.specs.Builds.{Commits, HasAsked, IndexIn, IsWorkerRound}
use Rattle.runtime.specs.Clients.{Knowledge}
use Rattle.runtime.specs.History.{Name, Prefix}
use Rattle.runtime.specs.Logs.{IsWellFormedLog}
use Rattle.runtime.specs.Runs.{AttemptFails, FailsSo, GoesOnFrom, IsLost, IsRefusal}
use Rattle.runtime.specs.Settles.{AreTokensOf, AskingEnds, HasCounted, IsProgress, IsSettledUpto, IsUnsettled, Overflows}
use Rattle.runtime.specs.Works.{CommitsRound, EndsWork, TakesRound, Works}
use Rattle.runtime.proofs.Settling.{committed_then, lost_then, nothing_then, progress_same, too_much_then}
use Rattle.runtime.proofs.Taking.{ends_failed, ends_lost, ends_refused, ends_too_much, takes_committed, takes_failed, takes_lost}
use Rattle.runtime.proofs.Unsettled.{asked_last, kept, names_more, unmarked}
use Rattle.runtime.proofs.Works.{round_committed, round_failed, round_lost, round_refused}

-- ---- by what an attempt told

pub always : {X E P : Type 0} (r : Result X E) → P → OnOk r P
always (Ok x) p = p
always (Err error) p = tt

module _ (store : ℕ) {B : Type 0} (did : B → Knowledge → Result Round CommandError → Knowledge → B → Type 0) (old new : B × Knowledge) {X : Type 0} (r : Result X (Failure Round)) (failed : IfErr r (λ failure. FailsSo store did old failure new)) (failure : Failure Round) (is : r ≡ Err failure) where
  failed_so : FailsSo store did old failure new
  failed_so = IfErr-at_err (λ f. FailsSo store did old f new) is failed

  pub lost_of : (round : Round) (held due : Option Prefix) → failure ≡ failures.Lost round held → held ≡ due → IsLost store did old round due new
  lost_of round held due same token = subst (λ (d : Option Prefix). IsLost store did old round d new) token (subst (λ (f : Failure Round). FailsSo store did old f new) same failed_so)

  pub ended_of : (ended : Ended) → failure ≡ failures.Ended ended → FailsSo store did old (failures.Ended ended) new
  ended_of ended same = subst (λ (f : Failure Round). FailsSo store did old f new) same failed_so

  pub refused_of : (error : CommandError) → failure ≡ failures.Refused error → IsRefusal store did old error new
  refused_of error same = subst (λ (f : Failure Round). FailsSo store did old f new) same failed_so

-- ---- the last number only grows

committed_grows : (index : IndexIn) (round : Round) (a b : Knowledge) → IsWorkerRound index (Some round) a b → a.last ≤ b.last
committed_grows index (Built more) a b is = let next : b.last ≡ a.last + 1 = is.2.1.3 in omega (arith, next)
committed_grows index Marked a b is = let next : b.last ≡ a.last + 1 = is.2.1.3 in omega (arith, next)

nothing_grows : (index : IndexIn) (a b : Knowledge) → IsWorkerRound index None a b → a.last ≤ b.last
nothing_grows index a b is = elim is [ inl same ↦ omega (arith, same) | inr told ↦ refused told.0 told.1 ]
  where
    refused : (open_tx : OpenTransaction) → Commits a b open_tx false → a.last ≤ b.last
    refused open_tx commits = elim commits [
      | inl same ↦ omega (arith, same)
      | inr told ↦ let next : b.last ≡ a.last + 1 = told.1.1.3 in omega (arith, next)
    ]

-- ---- before the client asks

-- the tokens are of the client's database still
pub tokens_kept : (a b : Knowledge) (p s : Progress) → GoesOnFrom a b → s.lost.items ≡ p.lost.items → AreTokensOf a.name p.lost.items → AreTokensOf b.name s.lost.items
tokens_kept a b p s on lost are = subst (AreTokensOf b.name) (sym lost) (subst (λ (n : Name). AreTokensOf n p.lost.items) (sym on.name) are)

module _ (store : ℕ) {G : Type 0} (passed : G → GatePoint → G → Type 0) (worker after : Worker G) (a b : Knowledge) (p s : Progress) (on : GoesOnFrom a b) (lost : s.lost.items ≡ p.lost.items) where
  -- with the one of which it isn't known what became
  pub tokens_more : (t : Progress) (one : Unsettled) → IsLost store (Works passed) (worker, a) one.round (Some one.prefix) (after, b) → t.lost.items ≡ s.lost.items ++ one ∷ [] → AreTokensOf a.name p.lost.items → AreTokensOf b.name t.lost.items
  tokens_more t one is more are =
      let unsettled = round_lost store passed worker after one.round one.prefix a b is in
      subst (AreTokensOf b.name) (sym more) (names_more b.name s.lost.items one (tokens_kept a b p s on lost are) unsettled.0.1.1.0)

module _ (store : ℕ) {G : Type 0} (passed : G → GatePoint → G → Type 0) (worker after : Worker G) (start a b : Knowledge) (p s : Progress) (on : GoesOnFrom a b) (law : IsWellFormedLog b.name.origin b.log)
    (built : s.built ≡ p.built) (marked : s.marked ≡ p.marked) (lost : s.lost.items ≡ p.lost.items) (is : IsProgress (store, worker.index) start a a.last p) where
  grown : a.last ≤ b.last → IsProgress (store, worker.index) start b a.last s
  grown le = progress_same (store, worker.index) start b a.last p s built marked lost (kept (store, worker.index) start a b a.last p on law.once le is)

  pub committed_before : (round : Round) → CommitsRound store (Works passed) (worker, a) round (after, b) → IsProgress (store, worker.index) start b a.last s
  committed_before round commits = grown (committed_grows (store, worker.index) round a b (round_committed store passed worker after round a b commits))

  pub failed_before : AttemptFails store (Works passed) false (worker, a) (after, b) → IsProgress (store, worker.index) start b a.last s
  failed_before fails = grown (nothing_grows (store, worker.index) a b (round_failed store passed worker after a b fails))

  pub refused_before : (error : CommandError) → IsRefusal store (Works passed) (worker, a) error (after, b) → IsProgress (store, worker.index) start b a.last s
  refused_before error refused = grown (nothing_grows (store, worker.index) a b (inl (round_refused store passed worker after error a b refused)))

  pub lost_before : (t : Progress) (one : Unsettled) → IsLost store (Works passed) (worker, a) one.round (Some one.prefix) (after, b) → one.number ≡ b.last → t.built ≡ s.built → t.marked ≡ s.marked → t.lost.items ≡ s.lost.items ++ one ∷ [] → IsProgress (store, worker.index) start b b.last t
  lost_before t one is number same_built same_marked more =
      let unsettled = round_lost store passed worker after one.round one.prefix a b is in
      let next : b.last ≡ a.last + 1 = unsettled.1 in
      lost_then (store, worker.index) start b a.last s t one next number
      (subst (λ (n : ℕ). IsUnsettled (store, worker.index) b (record { number = n; round = one.round; prefix = one.prefix })) (sym number) unsettled.0)
      (grown (omega (arith, next))) same_built same_marked more

-- ---- once it asked

module _ (store : ℕ) {G : Type 0} (passed : G → GatePoint → G → Type 0) (worker after : Worker G) (start a b c : Knowledge) (t q : Progress) (on : GoesOnFrom a b) (asked : HasAsked b c) where
  -- it is committed, and is counted, or the numbers don't suffice for it
  pub counts_progress : {X : Type 0} (r : Result X RunError) (round : Round) → CommitsRound store (Works passed) (worker, a) round (after, b) → IsWellFormedLog c.name.origin c.log → IsSettledUpto (store, worker.index) start c a.last t → q.lost.items ≡ t.lost.items →
      MatchResult r (λ _. HasCounted round t q) (λ error. (error ≡ GaveUp) × Overflows t.built round) → OnOk r (IsSettledUpto (store, worker.index) start c c.last q)
  counts_progress (Ok x) round commits law is lost has = committed_then (store, worker.index) start a b c t q on asked law is round (round_committed store passed worker after round a b commits) lost has
  counts_progress (Err error) round commits law is lost over = tt

  pub counts_round : {X : Type 0} (r : Result X RunError) (round : Round) → CommitsRound store (Works passed) (worker, a) round (after, b) → MatchResult r (λ _. HasCounted round t q) (λ error. (error ≡ GaveUp) × Overflows t.built round) →
      OnOk r (TakesRound store (Works passed) q.marked (worker, a) (after, c))
  counts_round (Ok x) round commits has = takes_committed store (Works passed) (worker, a) (after, b) (after, c) refl asked round t q commits has
  counts_round (Err error) round commits over = tt

  pub counts_ends : {X : Type 0} (r : Result X RunError) (round : Round) → CommitsRound store (Works passed) (worker, a) round (after, b) → IsWellFormedLog c.name.origin c.log → IsSettledUpto (store, worker.index) start c a.last t →
      MatchResult r (λ _. HasCounted round t q) (λ error. (error ≡ GaveUp) × Overflows t.built round) → IfErr r (λ error. EndsWork store (Works passed) worker.index start (worker, a) error (after, c))
  counts_ends (Ok x) round commits law is has = tt
  counts_ends (Err error) round commits law is over =
      subst (λ (e : RunError). EndsWork store (Works passed) worker.index start (worker, a) e (after, c)) (sym over.0)
      (ends_too_much store (Works passed) (worker, a) (after, b) (after, c) refl asked worker.index start round commits
      (too_much_then (store, worker.index) start a b c t t on asked law is round (round_committed store passed worker after round a b commits) over.1))

  -- it isn't known what became of it
  pub lost_progress : {X : Type 0} (r : Result X RunError) → MatchResult r (λ _. IsSettledUpto (store, worker.index) start c b.last t) (λ error. AskingEnds (store, worker.index) start c error) → OnOk r (IsSettledUpto (store, worker.index) start c c.last t)
  lost_progress (Ok x) is = subst (λ (n : ℕ). IsSettledUpto (store, worker.index) start c n t) (sym (asked_last b c asked)) is
  lost_progress (Err error) why = tt

  pub lost_round : {X : Type 0} (r : Result X RunError) (round : Round) (due : Option Prefix) → IsLost store (Works passed) (worker, a) round due (after, b) → OnOk r (TakesRound store (Works passed) t.marked (worker, a) (after, c))
  lost_round (Ok x) round due lost = takes_lost store (Works passed) (worker, a) (after, b) (after, c) refl asked t.marked round due lost
  lost_round (Err error) round due lost = tt

  pub lost_ends : {X : Type 0} (r : Result X RunError) (round : Round) (due : Option Prefix) → IsLost store (Works passed) (worker, a) round due (after, b) →
      MatchResult r (λ _. IsSettledUpto (store, worker.index) start c b.last t) (λ error. AskingEnds (store, worker.index) start c error) → IfErr r (λ error. EndsWork store (Works passed) worker.index start (worker, a) error (after, c))
  lost_ends (Ok x) round due lost is = tt
  lost_ends (Err error) round due lost why = ends_lost store (Works passed) (worker, a) (after, b) (after, c) refl asked worker.index start error round due lost why

  -- it read too long ago, or was refused with a conflict
  pub failed_progress : {X : Type 0} (r : Result X RunError) → AttemptFails store (Works passed) false (worker, a) (after, b) → OnOk r (IsWellFormedLog c.name.origin c.log) →
      MatchResult r (λ _. IsSettledUpto (store, worker.index) start c a.last t) (λ error. AskingEnds (store, worker.index) start c error) → OnOk r (IsSettledUpto (store, worker.index) start c c.last t)
  failed_progress (Ok x) fails law is = nothing_then (store, worker.index) start a b c t t on asked law is (round_failed store passed worker after a b fails)
  failed_progress (Err error) fails law why = tt

  pub failed_round : {X : Type 0} (r : Result X RunError) → AttemptFails store (Works passed) false (worker, a) (after, b) → OnOk r (TakesRound store (Works passed) t.marked (worker, a) (after, c))
  failed_round (Ok x) fails = takes_failed store (Works passed) (worker, a) (after, b) (after, c) refl asked t.marked fails
  failed_round (Err error) fails = tt

  pub failed_ends : {X : Type 0} (r : Result X RunError) → AttemptFails store (Works passed) false (worker, a) (after, b) →
      MatchResult r (λ _. IsSettledUpto (store, worker.index) start c a.last t) (λ error. AskingEnds (store, worker.index) start c error) → IfErr r (λ error. EndsWork store (Works passed) worker.index start (worker, a) error (after, c))
  failed_ends (Ok x) fails is = tt
  failed_ends (Err error) fails why = ends_failed store (Works passed) (worker, a) (after, b) (after, c) refl asked worker.index start error fails why

  -- it was refused
  pub refused_progress : (error : CommandError) → IsRefusal store (Works passed) (worker, a) error (after, b) → IsWellFormedLog c.name.origin c.log → IsSettledUpto (store, worker.index) start c a.last t → IsSettledUpto (store, worker.index) start c c.last t
  refused_progress error refused law is = nothing_then (store, worker.index) start a b c t t on asked law is (inl (round_refused store passed worker after error a b refused))

  pub refused_ends : (error : CommandError) → IsRefusal store (Works passed) (worker, a) error (after, b) → IsWellFormedLog c.name.origin c.log → IsSettledUpto (store, worker.index) start c a.last t → t.marked ≡ false →
      EndsWork store (Works passed) worker.index start (worker, a) (Refused error) (after, c)
  refused_ends error refused law is marked =
      ends_refused store (Works passed) (worker, a) (after, b) (after, c) refl asked worker.index start error refused
      (unmarked (store, worker.index) start c t (refused_progress error refused law is) law marked)
