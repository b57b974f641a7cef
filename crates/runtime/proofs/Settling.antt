-- A worker's progress, round by round: what a round comes to once those before it are settled.
use Rattle.std.proofs.Common.{◌≡◌, ℕ, ◌+◌, Bool, true, false, Some, None, List, [], ◌∷◌, ◌++◌, inl, inr, refl, sym, ap, ◌∙◌, subst, arith}
use Rattle.std.specs.List.{list_any}
use mathlib.Core.List.{IsPrefix}
use Rattle.kv_core.specs.declared.change.CommitRequest.{CommitRequest}
use Rattle.runtime.specs.declared.worker_progress.Built.{Built as Totals}
use Rattle.runtime.specs.declared.worker_progress.Progress.{Progress}
use Rattle.runtime.specs.declared.worker_progress.Round.{Round}
use Rattle.runtime.specs.declared.worker_progress.Round.TheVariants.{Built, Marked}
use Rattle.runtime.specs.declared.worker_progress.Unsettled.{Unsettled}
use Rattle.runtime.specs.declared.log_entry.Entry.{Entry}
use Rattle.runtime.specs.declared.open_transaction.OpenTransaction.{OpenTransaction}
use Rattle.runtime.specs.declared.outcome.Outcome.{Outcome}
use Rattle.runtime.specs.declared.outcome.Outcome.TheVariants as outcomes
use Rattle.runtime.specs.Traces.{Trace}
use Rattle.runtime.specs.Builds.{Commits, HasAsked, IndexIn, IsSubmission, IsTooMuch, IsWorkerRound}
use Rattle.runtime.specs.Builds.{has_marked, own_of}
use Rattle.runtime.specs.Clients.{Knowledge}
use Rattle.runtime.specs.Logs.{IsWellFormedLog, has_submission}
use Rattle.runtime.specs.Outcomes.{entry}
use Rattle.runtime.specs.Runs.{GoesOnFrom}
use Rattle.runtime.specs.Settles.{AreUnsettled, Counted, HasCounted, IsProgress, IsSettledUpto, IsUnsettled}
use Rattle.runtime.specs.Settles.{NoneStands, Overflows, upto}
use Rattle.runtime.proofs.RunAttempts.{follows_self, follows_trans}
use Rattle.runtime.proofs.Beginnings.{prefix_trans}
use Rattle.runtime.proofs.Counting.{own_none}
use Rattle.runtime.proofs.Numbers.{number_begins, number_of_last}
use Rattle.runtime.proofs.Rounds.{commits_from, counted_first}
use Rattle.runtime.proofs.Unsettled.{counted_nothing, counted_round, too_much, unsettled_more, upto_all, upto_from}
use Rattle.runtime.proofs.Unsettled.{asked_follows, asked_last, none_open}

-- ---- a round more

pub nothing_yet : (index : IndexIn) (k : Knowledge) (p : Progress) → p.built.records ≡ 0 → p.built.steps ≡ 0 → p.marked ≡ false → p.lost.items ≡ [] → IsProgress index k k k.last p
nothing_yet index k p records steps marked lost =
    let none = counted_first index k in record {
      above = k.last;
      follows = follows_self k;
      counted = record { given = none.given; last = none.last; steps = steps ∙ none.steps; records = records ∙ none.records };
      marked = marked ∙ sym (ap (list_any (has_marked index)) (own_none k.name.origin k.number k.last k.log));
      lost = subst (AreUnsettled index k k.last k.last) (sym lost) refl;
      last = omega arith;
    }

commits_later : (a b c : Knowledge) (open_tx : OpenTransaction) (known : Bool) → c.name ≡ a.name → c.number ≡ a.number → IsPrefix b.log c.log → c.last ≡ b.last → Commits a b open_tx known → Commits (upto a.last c) c open_tx known
commits_later a b c open_tx known name number grown last commits = commits_from (upto a.last c) a c open_tx known (sym name) (sym number) refl (later known commits)
  where
    submits : (outcome : Outcome) → IsSubmission a b open_tx.transaction open_tx.trace outcome → IsSubmission a c open_tx.transaction open_tx.trace outcome
    submits outcome is = (is.0, is.1, prefix_trans is.0 b.log c.log is.2 grown, last ∙ is.3)

    later : (known : Bool) → Commits a b open_tx known → Commits a c open_tx known
    later true commits = (commits.0, submits (outcomes.Committed commits.0) commits.1)
    later false commits = elim commits [
      | inl same ↦ inl (last ∙ same)
      | inr told ↦ inr (told.0, (told.1.0, submits (outcomes.Conflict told.0 told.1.0) told.1.1))
    ]

round_later : (index : IndexIn) (round : Round) (a b c : Knowledge) → c.name ≡ a.name → c.number ≡ a.number → IsPrefix b.log c.log → c.last ≡ b.last → IsWorkerRound index (Some round) a b → IsWorkerRound index (Some round) (upto a.last c) c
round_later index (Built more) a b c name number grown last is = (is.0, is.1, commits_later a b c is.0 true name number grown last is.2)
round_later index Marked a b c name number grown last is = (is.0, is.1, commits_later a b c is.0 true name number grown last is.2)

stands_there : (k : Knowledge) (top : ℕ) (request : CommitRequest) (trace : Trace) (outcome : Outcome) → IsSubmission (upto top k) k request trace outcome → has_submission k.number (top + 1) k.log ≡ true
stands_there k top request trace outcome is =
    let e : Entry = entry k.number (top + 1) request trace in
    number_begins k.number (top + 1) (is.1.0 ++ e ∷ []) k.log (subst (λ (l : List Entry). IsPrefix l k.log) is.1.1 is.2) (number_of_last k.number (top + 1) is.1.0 e refl refl)

round_there : (index : IndexIn) (round : Round) (k : Knowledge) (top : ℕ) → IsWorkerRound index (Some round) (upto top k) k → has_submission k.number (top + 1) k.log ≡ true
round_there index (Built more) k top is = stands_there k top is.0.transaction is.0.trace (outcomes.Committed is.2.0) is.2.1
round_there index Marked k top is = stands_there k top is.0.transaction is.0.trace (outcomes.Committed is.2.0) is.2.1

module _ (index : IndexIn) (old k : Knowledge) (top : ℕ) (p q : Progress) (is : IsSettledUpto index old k top p) (law : IsWellFormedLog k.name.origin k.log) (lost : q.lost.items ≡ p.lost.items) where
  -- all is settled where the next number stands
  nothing_open : has_submission k.number (top + 1) k.log ≡ true → p.lost.items ≡ []
  nothing_open there = none_open index k is.0.above top p.lost.items is.0.lost is.1 law.in_turn there

  all_below : p.lost.items ≡ [] → is.0.above ≡ top
  all_below none = sym (subst (AreUnsettled index k is.0.above top) none is.0.lost)

  settled_all : p.lost.items ≡ [] → Counted index old k q.built.steps q.built.records × (q.marked ≡ list_any (has_marked index) (own_of old k)) → IsSettledUpto index old k k.last q
  settled_all none knows = (
    record {
      above = k.last;
      follows = is.0.follows;
      counted = record { given = knows.0.given; last = knows.0.last; steps = knows.0.steps; records = knows.0.records };
      marked = knows.1;
      lost = subst (AreUnsettled index k k.last k.last) (sym (lost ∙ none)) refl;
      last = omega arith;
    },
    subst (NoneStands k) (sym (lost ∙ none)) tt,
  )

  known : p.lost.items ≡ [] → Counted index old (upto top k) p.built.steps p.built.records × (p.marked ≡ list_any (has_marked index) (own_of old (upto top k)))
  known none = subst (λ (n : ℕ). Counted index old (upto n k) p.built.steps p.built.records × (p.marked ≡ list_any (has_marked index) (own_of old (upto n k)))) (all_below none) (is.0.counted, is.0.marked)

  counted_last : (round : Round) → IsWorkerRound index (Some round) (upto top k) k → HasCounted round p q → IsSettledUpto index old k k.last q
  counted_last round came has =
      let none : p.lost.items ≡ [] = nothing_open (round_there index round k top came) in
      settled_all none (counted_round index old (upto top k) k p q (upto_from old k top is.0.follows) (upto_all k top) law.once round (known none) came has)

  refused_last : has_submission k.number (top + 1) k.log ≡ true → IsWorkerRound index None (upto top k) k → IsSettledUpto index old k k.last p
  refused_last there came =
      let none : p.lost.items ≡ [] = nothing_open there in
      let knows = counted_nothing index old (upto top k) k p p (upto_from old k top is.0.follows) (upto_all k top) law.once (known none) came refl refl in (
        record {
          above = k.last;
          follows = is.0.follows;
          counted = record { given = knows.0.given; last = knows.0.last; steps = knows.0.steps; records = knows.0.records };
          marked = knows.1;
          lost = subst (AreUnsettled index k k.last k.last) (sym none) refl;
          last = omega arith;
        },
        is.1,
      )

  too_much_last : (round : Round) → IsWorkerRound index (Some round) (upto top k) k → Overflows p.built round → IsTooMuch index old k
  too_much_last round came over =
      let none : p.lost.items ≡ [] = nothing_open (round_there index round k top came) in
      too_much index old (upto top k) k p q (upto_from old k top is.0.follows) (upto_all k top) law.once round (known none) came over

-- a round began after these were settled or are lost, and then the client asked
module _ (index : IndexIn) (old a b c : Knowledge) (p q : Progress) (on : GoesOnFrom a b) (asked : HasAsked b c) (law : IsWellFormedLog c.name.origin c.log) (is : IsSettledUpto index old c a.last p) where
  later : (round : Round) → IsWorkerRound index (Some round) a b → IsWorkerRound index (Some round) (upto a.last c) c
  later round came =
      let all : GoesOnFrom a c = follows_trans on (asked_follows b c asked) in
      round_later index round a b c all.name all.number asked.0 (asked_last b c asked) came

  -- it is committed, and counted
  pub committed_then : (round : Round) → IsWorkerRound index (Some round) a b → q.lost.items ≡ p.lost.items → HasCounted round p q → IsSettledUpto index old c c.last q
  committed_then round came lost has = counted_last index old c a.last p q is law lost round (later round came) has

  pub too_much_then : (round : Round) → IsWorkerRound index (Some round) a b → Overflows p.built round → IsTooMuch index old c
  too_much_then round came over = too_much_last index old c a.last p p is law refl round (later round came) over

  -- it came to nothing, and has no number
  unnumbered_then : b.last ≡ a.last → IsSettledUpto index old c c.last p
  unnumbered_then same = subst (λ (n : ℕ). IsSettledUpto index old c n p) (sym (asked_last b c asked ∙ same)) is

  refused_then : (open_tx : OpenTransaction) → Commits a b open_tx false → IsSettledUpto index old c c.last p
  refused_then open_tx commits =
      let all : GoesOnFrom a c = follows_trans on (asked_follows b c asked) in
      by (commits_later a b c open_tx false all.name all.number asked.0 (asked_last b c asked) commits)
    where
      by : Commits (upto a.last c) c open_tx false → IsSettledUpto index old c c.last p
      by came = elim came [
        | inl same ↦ subst (λ (n : ℕ). IsSettledUpto index old c n p) (sym same) is
        | inr told ↦ refused_last index old c a.last p p is law refl (stands_there c a.last open_tx.transaction open_tx.trace (outcomes.Conflict told.0 told.1.0) told.1.1) (inr (open_tx, inr told))
      ]

  pub nothing_then : IsWorkerRound index None a b → IsSettledUpto index old c c.last p
  nothing_then came = elim came [
    | inl same ↦ unnumbered_then same
    | inr told ↦ refused_then told.0 told.1
  ]

-- one more is lost
pub lost_then : (index : IndexIn) (old k : Knowledge) (top : ℕ) (p q : Progress) (one : Unsettled) → k.last ≡ top + 1 → one.number ≡ k.last → IsUnsettled index k one → IsProgress index old k top p → q.built ≡ p.built → q.marked ≡ p.marked → q.lost.items ≡ p.lost.items ++ one ∷ [] →
    IsProgress index old k k.last q
lost_then index old k top p q one next number unsettled is built marked lost = record {
  above = is.above;
  follows = is.follows;
  counted = subst (λ (t : Totals). Counted index old (upto is.above k) t.steps t.records) (sym built) is.counted;
  marked = marked ∙ is.marked;
  lost = subst (AreUnsettled index k is.above k.last) (sym lost) (subst (λ (n : ℕ). AreUnsettled index k is.above n (p.lost.items ++ one ∷ [])) (sym next) (unsettled_more index k is.above top p.lost.items one (number ∙ next) unsettled is.lost));
  last = omega arith;
}

-- it is the same where nothing of it changed
pub progress_same : (index : IndexIn) (old k : Knowledge) (top : ℕ) (p q : Progress) → q.built ≡ p.built → q.marked ≡ p.marked → q.lost.items ≡ p.lost.items → IsProgress index old k top p → IsProgress index old k top q
progress_same index old k top p q built marked lost is = record {
  above = is.above;
  follows = is.follows;
  counted = subst (λ (t : Totals). Counted index old (upto is.above k) t.steps t.records) (sym built) is.counted;
  marked = marked ∙ is.marked;
  lost = subst (AreUnsettled index k is.above top) (sym lost) is.lost;
  last = is.last;
}
