-- Attempts of a run, one after another.
use Rattle.std.proofs.Common.{◌≡◌, ◌≢◌, ℕ, suc, ◌-◌, ◌≤◌, nat_lt, max, Bool, true, false, Some, None, inl, inr, refl, sym, ap, ◌∙◌, subst, arith, true≢false}
use Rattle.std.specs.Prelude.{Result, Ok, Err, IfOk, IfErr, if◌then◌else◌}
use Rattle.std.proofs.lemmas.Bool.Decides.{nat_tests}
use mathlib.Core.List.{IsPrefix}
use Rattle.schedule.specs.declared.step.Command.{Command}
use Rattle.schedule.specs.declared.reply.Reply.{Reply}
use Rattle.runtime.specs.declared.answers.Done.{Done}
use Rattle.runtime.specs.Commits.{Answers}
use Rattle.runtime.specs.declared.open_transaction.OpenTransaction.{OpenTransaction}
use Rattle.runtime.specs.declared.published_reads.EnterError.{EnterError}
use Rattle.runtime.specs.declared.answers.CommandError.{CommandError}
use Rattle.runtime.specs.declared.answers.CommitError.{CommitError}
use Rattle.runtime.specs.declared.answers.CommitError.TheVariants.{Conflict, TooOld, VersionsExhausted, Unknown, Memory, Closed}
use Rattle.runtime.specs.declared.answers.RunError.{RunError}
use Rattle.runtime.specs.declared.retrying.Failure.{Failure}
use Rattle.runtime.specs.declared.retrying.Failure.TheVariants as failures
use Rattle.runtime.specs.declared.answers.RunError.TheVariants as runs
use Rattle.txn.specs.Attempts.{MayTryAgain, next_after}
use Rattle.txn.specs.declared.retry.Ended.{Ended}
use Rattle.txn.specs.declared.retry.Ended.TheVariants as ends
use Rattle.txn.specs.declared.retry.Next.{Next}
use Rattle.txn.specs.declared.retry.Next.TheVariants as nexts
use Rattle.runtime.specs.Clients.{IsFresh, IsSameTransaction, Knowledge, knows_that}
use Rattle.runtime.specs.Serves.{IsUnanswered}
use Rattle.runtime.specs.Runs.{AttemptFails, Continues, Ends, FailsSo, GoesOnFrom, InTurn, IsRun, Starts, Tries}
use Rattle.runtime.specs.Runs.{Stops, TriesAndEnds, ended_by, failure_by, failure_ended, is_too_old, may_follow}
use Rattle.runtime.specs.Traces.{with_performed}
use Rattle.runtime.proofs.Beginnings.{prefix_self, prefix_trans}

pub follows_self : (k : Knowledge) → GoesOnFrom k k
follows_self k = record { name = refl; number = refl; log = prefix_self k.log }

pub follows_trans : {a b c : Knowledge} → GoesOnFrom a b → GoesOnFrom b c → GoesOnFrom a c
follows_trans {a = a} {b = b} {c = c} p q = record {
  name = q.name ∙ p.name;
  number = q.number ∙ p.number;
  log = prefix_trans a.log b.log c.log p.log q.log;
}

pub continues_trans : {a b c : Knowledge} → Continues a b → Continues b c → Continues a c
continues_trans p q = record {
  follows = follows_trans p.follows q.follows;
  last = q.last ∙ p.last;
  begun = λ open_tx is.
      let mid = p.begun open_tx is in
      let end = q.begun mid.0 mid.1 in
      (end.0, end.1, record { over = end.2.over ∙ mid.2.over; version = end.2.version ∙ mid.2.version; store = end.2.store ∙ mid.2.store });
}

-- a command in a transaction leaves the rest of its client
pub continues_by : (a b : Knowledge) (command : Command) (result : Result Reply EnterError) → b ≡ knows_that a.name b.log a.number a.last b.begun → IsPrefix a.log b.log →
    ((open_tx : OpenTransaction) → a.begun ≡ Some open_tx → IfOk result (λ reply. (after : OpenTransaction) × (b.begun ≡ Some after) × IsSameTransaction open_tx after × (after.trace ≡ with_performed open_tx.trace (record { command = command; reply = reply })))) →
    ((open_tx : OpenTransaction) → a.begun ≡ Some open_tx → IfErr result (λ error. (after : OpenTransaction) × (b.begun ≡ Some after) × IsSameTransaction open_tx after × IsUnanswered open_tx.prefix b.log error command open_tx.transaction open_tx.trace after.transaction after.trace)) →
    Continues a b
continues_by a b command result same keeps grown refused = record {
  follows = record { name = ap (λ (k : Knowledge). k.name) same; number = ap (λ (k : Knowledge). k.number) same; log = keeps };
  last = ap (λ (k : Knowledge). k.last) same;
  begun = λ open_tx is. goes open_tx result (grown open_tx is) (refused open_tx is);
}
  where
    goes : (open_tx : OpenTransaction) (r : Result Reply EnterError) → IfOk r (λ reply. (after : OpenTransaction) × (b.begun ≡ Some after) × IsSameTransaction open_tx after × (after.trace ≡ with_performed open_tx.trace (record { command = command; reply = reply }))) →
        IfErr r (λ error. (after : OpenTransaction) × (b.begun ≡ Some after) × IsSameTransaction open_tx after × IsUnanswered open_tx.prefix b.log error command open_tx.transaction open_tx.trace after.transaction after.trace) →
        (after : OpenTransaction) × (b.begun ≡ Some after) × IsSameTransaction open_tx after
    goes open_tx (Ok reply) g r = (g.0, g.1, g.2)
    goes open_tx (Err error) g r = (r.0, r.1, r.2)

pub starts_by : (store : ℕ) (a b : Knowledge) → ((open_tx : OpenTransaction) × (b.begun ≡ Some open_tx) × IsFresh b.name b.log store open_tx) → IsPrefix a.log b.log → b ≡ knows_that a.name b.log a.number a.last b.begun → Starts store a b
starts_by store a b begun log same = record {
  follows = record { name = ap (λ (k : Knowledge). k.name) same; number = ap (λ (k : Knowledge). k.number) same; log = log };
  last = ap (λ (k : Knowledge). k.last) same;
  begun = begun;
}

pub ends_by : (store : ℕ) (a b c : Knowledge) (result : Result Done CommitError) → Starts store a b → (k : Knowledge) → Continues b k → ((open_tx : OpenTransaction) → k.begun ≡ Some open_tx → Answers k c open_tx.transaction open_tx.trace result) → IsPrefix k.log c.log → c ≡ knows_that k.name c.log k.number c.last None → Ends k result c
ends_by store a b c result starts k continues answer log same =
    let open_tx = continues.begun starts.begun.0 starts.begun.1 in
    record {
      follows = record { name = ap (λ (k : Knowledge). k.name) same; number = ap (λ (k : Knowledge). k.number) same; log = log };
      answer = (open_tx.0, open_tx.1, answer open_tx.0 open_tx.1);
    }

-- ---- how an attempt failed

module _ (store : ℕ) {B A : Type 0} (did : B → Knowledge → Result A CommandError → Knowledge → B → Type 0) where
  gave_up : (old new : B × Knowledge) (error : CommandError) (b : Bool) → is_too_old error ≡ b → Tries store did old (Err error) new → FailsSo store did old (if b then failures.Ended ends.TooOld else failures.Refused error) new
  gave_up old new error true is tries = inl (error, is, tries)
  gave_up old new error false is tries = inr (is, tries)

  pub body_failed : (old new : B × Knowledge) (error : CommandError) → Tries store did old (Err error) new → FailsSo store did old (failure_by error) new
  body_failed old new error tries = gave_up old new error (is_too_old error) refl tries

  pub commit_failed : (old new : B × Knowledge) (answer : A) (error : CommitError) → TriesAndEnds store did old answer (Err error) new → FailsSo store did old (failures.Ended (ended_by error)) new
  commit_failed old new answer (Conflict seen range) tries = inr (answer, (Conflict seen range, refl, tries))
  commit_failed old new answer TooOld tries = inr (answer, (TooOld, refl, tries))
  commit_failed old new answer VersionsExhausted tries = (answer, (VersionsExhausted, refl, tries))
  commit_failed old new answer Unknown tries = (answer, tries)
  commit_failed old new answer Memory tries = (answer, (Memory, refl, tries))
  commit_failed old new answer Closed tries = (answer, (Closed, refl, tries))

  -- one that isn't told to be refused ended so
  pub failed_so : (old new : B × Knowledge) (failure : Failure A) (ended : Ended) → FailsSo store did old failure new → failure_ended failure ≡ Ok ended → FailsSo store did old (failures.Ended ended) new
  failed_so old new (failures.Refused error) ended is told = absurd (cc (told))
  failed_so old new (failures.Lost answer due) ended is told =
      let same : ends.Unknown ≡ ended = cc (told) in
      subst (λ (e : Ended). FailsSo store did old (failures.Ended e) new) same (answer, (is.0, is.1, is.2))
  failed_so old new (failures.Ended other) ended is told =
      let same : other ≡ ended = cc (told) in
      subst (λ (e : Ended). FailsSo store did old (failures.Ended e) new) same is

  pub refused_so : (limit number : ℕ) (repeatable : Bool) (old mid new : B × Knowledge) (failure : Failure A) (error : RunError) → 1 ≤ number → number ≤ max 1 limit → InTurn (AttemptFails store did repeatable) (number - 1) old mid → FailsSo store did mid failure new → failure_ended failure ≡ Err error →
      IsRun store did repeatable limit old (Err error) new
  refused_so limit number repeatable old mid new (failures.Refused why) error le most turns is told =
      let same : runs.Refused why ≡ error = cc (told) in
      subst (λ (e : RunError). IsRun store did repeatable limit old (Err e) new) same (number - 1, omega (arith, le, most), (mid, turns, is))
  refused_so limit number repeatable old mid new (failures.Lost answer due) error le most turns is told = absurd (cc (told))
  refused_so limit number repeatable old mid new (failures.Ended ended) error le most turns is told = absurd (cc (told))

  may_more : (repeatable : Bool) (error : CommitError) → may_follow false error ≡ true → may_follow repeatable error ≡ true
  may_more repeatable (Conflict seen range) may = refl
  may_more repeatable TooOld may = refl
  may_more repeatable VersionsExhausted may = may
  may_more repeatable Unknown may = absurd (true≢false (sym may))
  may_more repeatable Memory may = may
  may_more repeatable Closed may = may

  pub fails_more : (repeatable : Bool) (old new : B × Knowledge) → AttemptFails store did false old new → AttemptFails store did repeatable old new
  fails_more repeatable old new is = elim is [
    | inl given_up ↦ inl given_up
    | inr ended ↦ inr (ended.0, (ended.1.0, may_more repeatable ended.1.0 ended.1.1, ended.1.2))
  ]

  may_less : (repeatable : Bool) (error : CommitError) → may_follow true error ≡ false → may_follow repeatable error ≡ false
  may_less repeatable (Conflict seen range) may = may
  may_less repeatable TooOld may = may
  may_less repeatable VersionsExhausted may = refl
  may_less repeatable Unknown may = absurd (true≢false may)
  may_less repeatable Memory may = refl
  may_less repeatable Closed may = refl

  pub stops_more : (repeatable : Bool) (old new : B × Knowledge) → Stops store did true old new → Stops store did repeatable old new
  stops_more repeatable old new is = (is.0, (is.1.0, may_less repeatable is.1.0 is.1.1, is.1.2))

  -- another attempt follows one that may be followed
  pub fails_of : (old new : B × Knowledge) (ended : Ended) (repeatable : Bool) → MayTryAgain ended repeatable → FailsSo store did old (failures.Ended ended) new → AttemptFails store did repeatable old new
  fails_of old new ends.Conflict repeatable may is = fails_more repeatable old new is
  fails_of old new ends.TooOld repeatable may is = fails_more repeatable old new is
  fails_of old new ends.Unknown repeatable may is = elim may [
    | inl a ↦ absurd (cc)
    | inr b ↦ elim b [
      | inl a ↦ absurd (cc)
      | inr d ↦ elim d [ inl a ↦ absurd (cc) | inr e ↦ inr (is.0, (Unknown, e.1, is.1)) ]
    ]
  ]
  fails_of old new ends.Committed repeatable may is = absurd is
  fails_of old new ends.ReadOnly repeatable may is = absurd is
  fails_of old new ends.FutureVersion repeatable may is = absurd is
  fails_of old new ends.Other repeatable may is = elim may [
    | inl a ↦ absurd (cc)
    | inr b ↦ elim b [
      | inl a ↦ absurd (cc)
      | inr d ↦ elim d [ inl a ↦ absurd (cc) | inr e ↦ absurd (let no = e.0 in cc) ]
    ]
  ]

  pub one_more : (repeatable : Bool) (number : ℕ) (old mid new : B × Knowledge) → 1 ≤ number → InTurn (AttemptFails store did repeatable) (number - 1) old mid → AttemptFails store did repeatable mid new → InTurn (AttemptFails store did repeatable) number old new
  one_more repeatable number old mid new le turns fails =
      let same : number ≡ suc (number - 1) = omega (arith, le) in
      subst (λ (n : ℕ). InTurn (AttemptFails store did repeatable) n old new) (sym same) (mid, turns, fails)

  last_one : (limit number : ℕ) (b : Bool) → nat_lt number limit ≡ b → (if b then nexts.Again else nexts.GiveUp) ≢ nexts.Again → 1 ≤ number → number ≤ max 1 limit → number ≡ max 1 limit
  last_one limit number true is other le most = absurd (other refl)
  last_one limit number false is other le most = let above : limit ≤ number = grind (arith, nat_tests) in omega (arith, above, le, most)

  -- the last attempt that there may be failed
  all_failed : (repeatable : Bool) (limit number : ℕ) (old mid new : B × Knowledge) (next : Next) → next ≡ (if nat_lt number limit then nexts.Again else nexts.GiveUp) → next ≢ nexts.Again → 1 ≤ number → number ≤ max 1 limit →
      InTurn (AttemptFails store did repeatable) (number - 1) old mid → AttemptFails store did repeatable mid new → IsRun store did repeatable limit old (Err runs.GaveUp) new
  all_failed repeatable limit number old mid new next at other le most turns is =
      let last : number ≡ max 1 limit = last_one limit number (nat_lt number limit) refl (λ again. other (at ∙ again)) le most in
      inl (subst (λ (n : ℕ). InTurn (AttemptFails store did repeatable) n old new) last (one_more repeatable number old mid new le turns is))

  -- or the run gives up
  pub gives_up : (limit number : ℕ) (repeatable : Bool) (old mid new : B × Knowledge) (ended : Ended) (next : Next) → next ≡ next_after limit ended number repeatable → next ≢ nexts.Again → 1 ≤ number → number ≤ max 1 limit →
      InTurn (AttemptFails store did repeatable) (number - 1) old mid → FailsSo store did mid (failures.Ended ended) new → IsRun store did repeatable limit old (Err runs.GaveUp) new
  gives_up limit number repeatable old mid new ends.Conflict next at other le most turns is = all_failed repeatable limit number old mid new next at other le most turns (fails_more repeatable mid new is)
  gives_up limit number repeatable old mid new ends.TooOld next at other le most turns is = all_failed repeatable limit number old mid new next at other le most turns (fails_more repeatable mid new is)
  gives_up limit number true old mid new ends.Unknown next at other le most turns is = all_failed true limit number old mid new next at other le most turns (inr (is.0, (Unknown, refl, is.1)))
  gives_up limit number false old mid new ends.Unknown next at other le most turns is = inr (number - 1, omega (arith, le, most), (mid, turns, (is.0, (Unknown, refl, is.1))))
  gives_up limit number repeatable old mid new ends.Other next at other le most turns is = inr (number - 1, omega (arith, le, most), (mid, turns, stops_more repeatable mid new is))
  gives_up limit number repeatable old mid new ends.Committed next at other le most turns is = absurd is
  gives_up limit number repeatable old mid new ends.ReadOnly next at other le most turns is = absurd is
  gives_up limit number repeatable old mid new ends.FutureVersion next at other le most turns is = absurd is
