-- What the rounds of a worker come to: what each performs, and which entries of its client follow from that.
use Rattle.std.proofs.Common.{◌≡◌, ℕ, suc, ◌+◌, ◌<◌, arith, true, false, List, [], ◌∷◌, ◌++◌, Option, Some, None, inl, inr, refl, sym, ap, ◌∙◌, subst, true≢false}
use Rattle.std.specs.Prelude.{Result, Ok, Err}
use Rattle.schedule.specs.declared.step.Command.{Command}
use Rattle.schedule.specs.declared.step.Command.TheVariants.{Build, Readable}
use Rattle.schedule.specs.declared.reply.Reply.{Reply}
use Rattle.schedule.specs.Past.{is_changed}
use Rattle.runtime.specs.declared.performed.Performed.{Performed}
use Rattle.runtime.specs.Traces.{Trace}
use Rattle.runtime.specs.declared.open_transaction.OpenTransaction.{OpenTransaction}
use Rattle.runtime.specs.declared.published_reads.EnterError.{EnterError}
use Rattle.runtime.specs.declared.answers.CommandError.{CommandError}
use Rattle.runtime.specs.declared.answers.CommitError.{CommitError}
use Rattle.runtime.specs.declared.answers.CommitError.TheVariants.{Conflict, TooOld, VersionsExhausted, Unknown, Memory, Closed}
use Rattle.runtime.specs.declared.answers.Done.{Done}
use Rattle.runtime.specs.declared.answers.RunError.{RunError}
use Rattle.runtime.specs.declared.answers.RunError.TheVariants.{Refused, GaveUp}
use Rattle.runtime.specs.declared.answers.Done.TheVariants.{Committed, ReadOnly}
use Rattle.runtime.specs.declared.index_worker.GatePoint.{GatePoint}
use Rattle.runtime.specs.declared.worker_progress.Round.{Round}
use Rattle.runtime.specs.declared.worker_progress.Round.TheVariants.{Built, Marked}
use Rattle.runtime.specs.declared.index_worker.Worker.{Worker}
use Rattle.runtime.specs.Builds.{Commits, HasWorked, IndexIn, IsWorkerRound}
use Rattle.runtime.specs.Calls.{HasPerformed, marked_reply, part_reply}
use Rattle.runtime.specs.Clients.{Knowledge}
use Rattle.runtime.specs.Commits.{Answers}
use Rattle.runtime.specs.Errors.{accepted_reply}
use Rattle.runtime.specs.History.{Prefix}
use Rattle.runtime.specs.Outcomes.{IsEndOf, entry}
use Rattle.runtime.specs.Runs.{AttemptFails, Continues, Ends, IsLost, IsRefusal, Starts, Tries, TriesAndEnds, may_follow}
use Rattle.runtime.specs.Settles.{IsUnsettled}
use Rattle.runtime.specs.Works.{Asks, CommitsRound, EndsWork, GoesFurther, HasTaken, IsWork, Performs, ThenAsks, Works}
use Rattle.runtime.specs.Traces.{attempts_of, with_performed}
use Rattle.runtime.proofs.RunAttempts.{continues_trans, follows_self}
use Rattle.runtime.proofs.Replying.{unrefused}
use Rattle.runtime.proofs.Rounds.{commits_from}

-- ---- in the transaction of a round

continues_self : (k : Knowledge) → Continues k k
continues_self k = record {
  follows = follows_self k;
  last = refl;
  begun = λ open_tx is. (open_tx, is, record { over = refl; version = refl; store = refl });
}

asks_continues : {A : Type 0} (told : A → Reply) (command : Command) (old new : Knowledge) (result : Result A CommandError) → Asks told command old result new → Continues old new
asks_continues told command old new result asks = elim asks [
  | inl called ↦ called.performed.continues
  | inr none ↦ subst (λ (k : Knowledge). Continues old k) (sym none.1) (continues_self old)
]

pub performs_continues : (index : List ℕ) (limit : ℕ) (old new : Knowledge) (result : Result Round CommandError) → Performs index limit old result new → Continues old new
performs_continues index limit old new (Ok (Built records)) is = asks_continues part_reply (Build index limit) old new (Ok (Some (records, is.0))) is.1
performs_continues index limit old new (Ok Marked) is =
    continues_trans (asks_continues part_reply (Build index limit) old is.0 (Ok None) is.1) (asks_continues marked_reply (Readable index) is.0 new (Ok tt) is.2)
performs_continues index limit old new (Err error) is = elim is [
  | inl asks ↦ asks_continues part_reply (Build index limit) old new (Err error) asks
  | inr both ↦ continues_trans (asks_continues part_reply (Build index limit) old both.0 (Ok None) both.1) (asks_continues marked_reply (Readable index) both.0 new (Err error) both.2)
]

-- where all positions are built the round's end is that of the mark
pub mark_ends : (index : List ℕ) (limit : ℕ) (old mid new : Knowledge) (error : CommandError) → Asks part_reply (Build index limit) old (Ok None) mid → Asks marked_reply (Readable index) mid (Err error) new → Performs index limit old (Err error) new
mark_ends index limit old mid new error part mark = inr (mid, part, mark)

-- an answered command stands among those that the transaction has performed
abbrev Stands : Command → Reply → OpenTransaction → Knowledge → Type 0
Stands command reply open_tx new =
    (after : OpenTransaction) × (new.begun ≡ Some after)
    × (after.trace ≡ with_performed open_tx.trace (record { command = command; reply = reply }))

performed_so : (command : Command) (reply : Reply) (old new : Knowledge) (given : Result Reply EnterError) → HasPerformed command old given new → accepted_reply given ≡ Ok reply → (open_tx : OpenTransaction) → old.begun ≡ Some open_tx → Stands command reply open_tx new
performed_so command reply old new (Ok answer) has is open_tx there =
    let grown = has.grown open_tx there in
    let same : answer ≡ reply = (unrefused answer reply is).0 in
    (grown.0, grown.1, subst (λ (r : Reply). grown.0.trace ≡ with_performed open_tx.trace (record { command = command; reply = r })) same grown.3)
performed_so command reply old new (Err error) has is open_tx there = absurd (cc)

asked_so : {A : Type 0} (told : A → Reply) (command : Command) (old new : Knowledge) (answer : A) → Asks told command old (Ok answer) new → (open_tx : OpenTransaction) → old.begun ≡ Some open_tx → Stands command (told answer) open_tx new
asked_so told command old new answer asks open_tx there = elim asks [
  | inl called ↦ performed_so command (told answer) old new called.reply called.performed called.answer open_tx there
  | inr none ↦ absurd (let no = none.0 in cc)
]

worked_by : (store : ℕ) (index : List ℕ) (limit : ℕ) (start mid : Knowledge) (round : Round) → Performs index limit start (Ok round) mid → (open_tx : OpenTransaction) → start.begun ≡ Some open_tx → open_tx.trace.store ≡ store → open_tx.trace.attempts.list ≡ [] →
    (after : OpenTransaction) × (mid.begun ≡ Some after) × HasWorked (store, index) round after.trace
worked_by store index limit start mid (Built records) is open_tx there own none =
    let stands = asked_so part_reply (Build index limit) start mid (Some (records, is.0)) is.1 open_tx there in (
      stands.0,
      stands.1,
      record {
        store = ap (λ (t : Trace). t.store) stands.2 ∙ own;
        performed = (limit, (is.0, ap (λ (t : Trace). t.attempts.list) stands.2 ∙ ap (λ (l : List Performed). l ++ record { command = Build index limit; reply = part_reply (Some (records, is.0)) } ∷ []) none));
      },
    )
worked_by store index limit start mid Marked is open_tx there own none =
    let first = asked_so part_reply (Build index limit) start is.0 None is.1 open_tx there in
    let then = asked_so marked_reply (Readable index) is.0 mid tt is.2 first.0 first.1 in
    let one : first.0.trace.attempts.list ≡ record { command = Build index limit; reply = part_reply None } ∷ [] =
    ap (λ (t : Trace). t.attempts.list) first.2 ∙ ap (λ (l : List Performed). l ++ record { command = Build index limit; reply = part_reply None } ∷ []) none in (
      then.0,
      then.1,
      record {
        store = ap (λ (t : Trace). t.store) then.2 ∙ ap (λ (t : Trace). t.store) first.2 ∙ own;
        performed = (limit, ap (λ (t : Trace). t.attempts.list) then.2 ∙ ap (λ (l : List Performed). l ++ record { command = Readable index; reply = marked_reply tt } ∷ []) one);
      },
    )

changes_by : (index : IndexIn) (round : Round) (trace : Trace) → HasWorked index round trace → is_changed (attempts_of trace.attempts.list) ≡ true
changes_by index (Built records) trace worked = ap (λ (l : List Performed). is_changed (attempts_of l)) worked.performed.1.1
changes_by index Marked trace worked = ap (λ (l : List Performed). is_changed (attempts_of l)) worked.performed.1

-- ---- the commit of a round

committed_by : (mid new : Knowledge) (index : IndexIn) (round : Round) (done : Done) (open_tx : OpenTransaction) → HasWorked index round open_tx.trace → Answers mid new open_tx.transaction open_tx.trace (Ok done) → Commits mid new open_tx true
committed_by mid new index round (Committed version seen) open_tx worked a = (version, (seen.prefix.log, a.0.shows.0, a.0.known, a.0.last))
committed_by mid new index round ReadOnly open_tx worked a = absurd (true≢false (sym (changes_by index round open_tx.trace worked) ∙ a.1))

refused_by : (mid new : Knowledge) (error : CommitError) (open_tx : OpenTransaction) → may_follow false error ≡ true → Answers mid new open_tx.transaction open_tx.trace (Err error) → Commits mid new open_tx false
refused_by mid new (Conflict seen range) open_tx may a = inr (seen, (range, (a.0, a.1.shows.0, a.1.known, a.1.last)))
refused_by mid new TooOld open_tx may a = inl a.1.last
refused_by mid new VersionsExhausted open_tx may a = absurd (cc)
refused_by mid new Unknown open_tx may a = absurd (cc)
refused_by mid new Memory open_tx may a = absurd (cc)
refused_by mid new Closed open_tx may a = absurd (cc)

pub worker_round : (index : IndexIn) (round : Round) (old new : Knowledge) (open_tx : OpenTransaction) → HasWorked index round open_tx.trace → Commits old new open_tx true → IsWorkerRound index (Some round) old new
worker_round index (Built records) old new open_tx worked commits = (open_tx, worked, commits)
worker_round index Marked old new open_tx worked commits = (open_tx, worked, commits)

module _ (store : ℕ) {G : Type 0} (passed : G → GatePoint → G → Type 0) where
  pub round_committed : (worker after : Worker G) (round : Round) (old new : Knowledge) → CommitsRound store (Works passed) (worker, old) round (after, new) → IsWorkerRound (store, worker.index) (Some round) old new
  round_committed worker after round old new is =
      let mid : Knowledge = is.1.0 in
      let start : Knowledge = is.1.1.0 in
      let starts : Starts store old start = is.1.1.1 in
      let works : Works passed worker start (Ok round) mid after = is.1.1.2 in
      let ended : Ends mid (Ok is.0) new = is.1.2 in
      let worked = worked_by store worker.index worker.limit start mid round works.performed starts.begun.0 starts.begun.1 starts.begun.2.store starts.begun.2.attempts in
      let goes : Continues start mid = performs_continues worker.index worker.limit start mid (Ok round) works.performed in
      let some : Some ended.answer.0 ≡ Some worked.0 = sym ended.answer.1 ∙ worked.1 in
      let same : ended.answer.0 ≡ worked.0 = cc (some) in
      let answers : Answers mid new worked.0.transaction worked.0.trace (Ok is.0) = subst (λ (t : OpenTransaction). Answers mid new t.transaction t.trace (Ok is.0)) same ended.answer.2 in
      let commits : Commits mid new worked.0 true = committed_by mid new (store, worker.index) round is.0 worked.0 worked.2 answers in
      worker_round (store, worker.index) round old new worked.0 worked.2
      (commits_from old mid new worked.0 true (goes.follows.name ∙ starts.follows.name) (goes.follows.number ∙ starts.follows.number) (goes.last ∙ starts.last) commits)

  pub round_failed : (worker after : Worker G) (old new : Knowledge) → AttemptFails store (Works passed) false (worker, old) (after, new) → IsWorkerRound (store, worker.index) None old new
  round_failed worker after old new is = elim is [
    | inl given_up ↦ too_old given_up.0 given_up.2
    | inr ended ↦ refused ended.0 ended.1.0 ended.1.1 ended.1.2
  ]
    where
      too_old : (error : CommandError) → Tries store (Works passed) (worker, old) (Err error) (after, new) → IsWorkerRound (store, worker.index) None old new
      too_old error tries = inl ((performs_continues worker.index worker.limit tries.0 new (Err error) tries.2.performed).last ∙ tries.1.last)

      refused : (round : Round) (error : CommitError) → may_follow false error ≡ true → TriesAndEnds store (Works passed) (worker, old) round (Err error) (after, new) → IsWorkerRound (store, worker.index) None old new
      refused round error may both =
          let mid : Knowledge = both.0 in
          let start : Knowledge = both.1.0 in
          let starts : Starts store old start = both.1.1 in
          let goes : Continues start mid = performs_continues worker.index worker.limit start mid (Ok round) both.1.2.performed in
          let open_tx : OpenTransaction = both.2.answer.0 in
          let commits : Commits mid new open_tx false = refused_by mid new error open_tx may both.2.answer.2 in
          inr (open_tx, commits_from old mid new open_tx false (goes.follows.name ∙ starts.follows.name) (goes.follows.number ∙ starts.follows.number) (goes.last ∙ starts.last) commits)

  -- of one of which the client wasn't told what became, the log ends with its entry
  pub round_lost : (worker after : Worker G) (round : Round) (prefix : Prefix) (old new : Knowledge) → IsLost store (Works passed) (worker, old) round (Some prefix) (after, new) →
      IsUnsettled (store, worker.index) new (record { number = new.last; round = round; prefix = prefix }) × (new.last ≡ old.last + 1)
  round_lost worker after round prefix old new is =
      let mid : Knowledge = is.0 in
      let start : Knowledge = is.1.0 in
      let starts : Starts store old start = is.1.1 in
      let works : Works passed worker start (Ok round) mid after = is.1.2 in
      let ended : Ends mid (Err Unknown) new = is.2 in
      let worked = worked_by store worker.index worker.limit start mid round works.performed starts.begun.0 starts.begun.1 starts.begun.2.store starts.begun.2.attempts in
      let goes : Continues start mid = performs_continues worker.index worker.limit start mid (Ok round) works.performed in
      let last : new.last ≡ mid.last + 1 = ended.answer.2.1.last in
      let ends : IsEndOf mid.name (entry mid.number (mid.last + 1) worked.0.transaction worked.0.trace) prefix = is.3 worked.0 worked.1 in (
        (worked.0.transaction, (worked.0.trace, (ends.0 ∙ sym ended.follows.name, (ends.1.0, ends.1.1 ∙ (λ i. ends.1.0 ++ entry (sym ended.follows.number i) (sym last i) worked.0.transaction worked.0.trace ∷ []))), worked.2)),
        last ∙ ap (λ (n : ℕ). n + 1) (goes.last ∙ starts.last),
      )

  -- one that was refused has no number
  pub round_refused : (worker after : Worker G) (error : CommandError) (old new : Knowledge) → IsRefusal store (Works passed) (worker, old) error (after, new) → new.last ≡ old.last
  round_refused worker after error old new is = elim is [
    | inl none ↦ ap (λ (p : Worker G × Knowledge). p.1.last) none.1
    | inr tried ↦ (performs_continues worker.index worker.limit tried.1.0 new (Err error) tried.1.2.performed).last ∙ tried.1.1.last
  ]

  -- it is the same index after a round
  pub index_failed : (worker after : Worker G) (old new : Knowledge) → AttemptFails store (Works passed) false (worker, old) (after, new) → after.index ≡ worker.index
  index_failed worker after old new is = elim is [
    | inl given_up ↦ given_up.2.2.index
    | inr ended ↦ ended.1.2.1.2.index
  ]

  pub index_committed : (worker after : Worker G) (round : Round) (old new : Knowledge) → CommitsRound store (Works passed) (worker, old) round (after, new) → after.index ≡ worker.index
  index_committed worker after round old new is = is.1.1.2.index

  pub index_lost : (worker after : Worker G) (round : Round) (due : Option Prefix) (old new : Knowledge) → IsLost store (Works passed) (worker, old) round due (after, new) → after.index ≡ worker.index
  index_lost worker after round due old new is = is.1.2.index

  pub index_refused : (worker after : Worker G) (error : CommandError) (old new : Knowledge) → IsRefusal store (Works passed) (worker, old) error (after, new) → after.index ≡ worker.index
  index_refused worker after error old new is = elim is [
    | inl none ↦ ap (λ (p : Worker G × Knowledge). p.0.index) none.1
    | inr tried ↦ tried.1.2.index
  ]

-- ---- round after round

module _ (store : ℕ) {B : Type 0} (did : B → Knowledge → Result Round CommandError → Knowledge → B → Type 0) where
  pub taken_more : (n : ℕ) (old mid new : B × Knowledge) → HasTaken store did n old mid → ThenAsks store did (GoesFurther store did) mid new → HasTaken store did (n + 1) old new
  taken_more n old mid new taken takes =
      let same : suc n ≡ n + 1 = omega arith in
      subst (λ (k : ℕ). HasTaken store did k old new) same (mid, taken, takes)

  -- it ended so in a round
  pub ended_so : (index : List ℕ) (limit n : ℕ) (old mid new : B × Knowledge) (error : RunError) → n < limit → HasTaken store did n old mid → EndsWork store did index old.1 mid error new → IsWork store did index limit old (Err error) new
  ended_so index limit n old mid new (Refused error) below taken is = (n, below, (mid, taken, is))
  ended_so index limit n old mid new GaveUp below taken is = inr (n, below, (mid, taken, is))
