-- What a worker's submissions come to of which it wasn't told what became: settled one after another, in order.
use Rattle.std.proofs.Common.{◌≡◌, ℕ, ◌+◌, ◌<◌, ◌≤◌, ◌^◌, Bool, true, false, cond, is_none, Option, Some, None, List, [], ◌∷◌, ◌++◌, inl, inr, refl, sym, ap, ◌∙◌, subst, append_assoc, arith, true≢false}
use Rattle.std.specs.Prelude.{count_by, sum_by}
use Rattle.std.specs.List.{list_any, remove}
use mathlib.Core.List.{IsPrefix}
use Rattle.kv_core.specs.declared.change.CommitRequest.{CommitRequest}
use Rattle.runtime.specs.Origins.{Origin}
use Rattle.cluster_core.specs.Decision.{Cause}
use Rattle.runtime.specs.declared.worker_progress.Built.{Built as Totals}
use Rattle.runtime.specs.declared.worker_progress.Progress.{Progress}
use Rattle.runtime.specs.declared.worker_progress.Round.{Round}
use Rattle.runtime.specs.declared.worker_progress.Round.TheVariants.{Built, Marked}
use Rattle.runtime.specs.declared.worker_progress.Unsettled.{Unsettled}
use Rattle.runtime.specs.declared.log_entry.Entry.{Entry}
use Rattle.runtime.specs.declared.open_transaction.OpenTransaction.{OpenTransaction}
use Rattle.runtime.specs.declared.outcome.Outcome.TheVariants as outcomes
use Rattle.runtime.specs.declared.submission_status.SubmissionStatus.{SubmissionStatus}
use Rattle.runtime.specs.declared.submission_status.SubmissionStatus.TheVariants.{Committed, Refused}
use Rattle.runtime.specs.Traces.{Trace}
use Rattle.runtime.specs.declared.answers.RunError.{RunError}
use Rattle.runtime.specs.declared.answers.RunError.TheVariants as runs
use Rattle.runtime.specs.Builds.{HasAsked, IndexIn, IsBuilt, IsSubmission, IsTooMuch, IsWorkerRound}
use Rattle.runtime.specs.Builds.{committed_behind, entry_has_built, has_marked, own_of, records_built}
use Rattle.runtime.specs.Clients.{Knowledge, knows_that}
use Rattle.runtime.specs.History.{Name}
use Rattle.runtime.specs.Logs.{IsWellFormedLog, are_in_turn, cause_next, has_submission, is_once, version_of}
use Rattle.runtime.specs.Outcomes.{IsReason, decided, entry}
use Rattle.runtime.specs.Runs.{GoesOnFrom}
use Rattle.runtime.specs.Settles.{AreTokensOf, AreUnsettled, Counted, HasCounted, IsProgress, IsSettledUpto, TellsOne, IsUnsettled}
use Rattle.runtime.specs.Settles.{AskingEnds, IsWithheld, NoneStands, Overflows, upto}
use Rattle.runtime.specs.Submissions.{outcome_in, status_next}
use Rattle.runtime.proofs.RunAttempts.{follows_trans}
use Rattle.runtime.proofs.Beginnings.{prefix_self, prefix_trans}
use Rattle.runtime.proofs.Counting.{none_before_by, own_rest, stands_below, sum_wider}
use Rattle.runtime.proofs.Rounds.{built_marks, counted_by, counted_marked, marked_next, nothing_marks, nothing_next}
use Rattle.runtime.proofs.Submissions.{outcome_of_entry}
use Rattle.runtime.proofs.Works.{worker_round}

-- ---- in order

pub above_le : (index : IndexIn) (k : Knowledge) (above top : ℕ) (lost : List Unsettled) → AreUnsettled index k above top lost → above ≤ top
above_le index k above top [] are = omega (arith, are)
above_le index k above top (one ∷ others) are = let le : above + 1 ≤ top = above_le index k (above + 1) top others are.2 in omega (arith, le)

pub names_of : (index : IndexIn) (k : Knowledge) (above top : ℕ) (lost : List Unsettled) → AreUnsettled index k above top lost → AreTokensOf k.name lost
names_of index k above top [] are = tt
names_of index k above top (one ∷ others) are = (are.1.1.1.0, names_of index k (above + 1) top others are.2)

pub names_more : (name : Name) (lost : List Unsettled) (one : Unsettled) → AreTokensOf name lost → one.prefix.name ≡ name → AreTokensOf name (lost ++ one ∷ [])
names_more name [] one are is = (is, tt)
names_more name (first ∷ others) one are is = (are.0, names_more name others one are.1 is)

-- they stay where the name, the client's number and the numbers stay
pub unsettled_kept : (index : IndexIn) (a b : Knowledge) (above top : ℕ) (lost : List Unsettled) → b.name ≡ a.name → b.number ≡ a.number → AreUnsettled index a above top lost → AreUnsettled index b above top lost
unsettled_kept index a b above top [] name number are = are
unsettled_kept index a b above top (one ∷ others) name number are =
    let own = are.1 in (
      are.0,
      (own.0, (own.1.0, (own.1.1.0 ∙ sym name, (own.1.1.1.0, own.1.1.1.1 ∙ ap (λ (n : ℕ). own.1.1.1.0 ++ entry n one.number own.0 own.1.0 ∷ []) (sym number))), own.1.2)),
      unsettled_kept index a b (above + 1) top others name number are.2,
    )

-- with one more, which has the next number
pub unsettled_more : (index : IndexIn) (k : Knowledge) (above top : ℕ) (lost : List Unsettled) (one : Unsettled) → one.number ≡ top + 1 → IsUnsettled index k one → AreUnsettled index k above top lost → AreUnsettled index k above (top + 1) (lost ++ one ∷ [])
unsettled_more index k above top [] one next is are = (next ∙ ap (λ (n : ℕ). n + 1) are, is, ap (λ (n : ℕ). n + 1) are)
unsettled_more index k above top (first ∷ others) one next is are = (are.0, are.1, unsettled_more index k (above + 1) top others one next is are.2)

-- ---- by the log that has its entry

committed_so : (why : Option Cause) (version v : ℕ) → cond (is_none why) (Committed version) Refused ≡ Committed v → decided why version ≡ outcomes.Committed v
committed_so None version v is = let same : version ≡ v = cc (is) in ap outcomes.Committed same
committed_so (Some why) version v is = absurd (cc (is))

refused_so : (why : Option Cause) (version : ℕ) → cond (is_none why) (Committed version) Refused ≡ Refused → (cause : Cause) × (decided why version ≡ outcomes.Conflict cause.seen cause.range)
refused_so None version is = absurd (cc (is))
refused_so (Some why) version is = (why, refl)

-- what a log that begins with that of the submission says of it is decided by the entries before it
pub decides : (origin : Origin) (before log : List Entry) (e : Entry) → IsPrefix (before ++ e ∷ []) log → is_once log ≡ true → outcome_in origin log e.client e.number ≡ status_next origin before e.request
decides origin before log e begins once =
    let all : before ++ e ∷ begins.0 ≡ log = sym (append_assoc before (e ∷ []) begins.0) ∙ begins.1 in
    let once_all : is_once (before ++ e ∷ begins.0) ≡ true = subst (λ (l : List Entry). is_once l ≡ true) (sym all) once in
    let none : has_submission e.client e.number before ≡ false = none_before_by before begins.0 e e.client e.number refl refl once_all (has_submission e.client e.number before) refl in
    ap (λ (l : List Entry). outcome_in origin l e.client e.number) (sym all) ∙ outcome_of_entry origin before begins.0 e none

-- what the log says of a submission that is lost is decided by the entries before its own
settled_next : (index : IndexIn) (old new : Knowledge) (one : Unsettled) (status : SubmissionStatus) → (is : IsUnsettled index old one) → IsPrefix one.prefix.log new.log → is_once new.log ≡ true → outcome_in old.name.origin new.log old.number one.number ≡ status →
    status_next old.name.origin is.1.1.1.0 is.0 ≡ status
settled_next index old new one status is begins once told =
    let e : Entry = entry old.number one.number is.0 is.1.0 in
    let grown : IsPrefix (is.1.1.1.0 ++ e ∷ []) new.log = subst (λ (l : List Entry). IsPrefix l new.log) is.1.1.1.1 begins in
    sym (decides old.name.origin is.1.1.1.0 new.log e grown once) ∙ told

-- so one that is committed was, as if that had been told
pub settled_committed : (index : IndexIn) (old new : Knowledge) (above v : ℕ) (one : Unsettled) → one.number ≡ above + 1 → (is : IsUnsettled index old one) → IsPrefix one.prefix.log new.log → is_once new.log ≡ true →
    outcome_in old.name.origin new.log old.number one.number ≡ Committed v → IsSubmission (upto above old) (upto (above + 1) new) is.0 is.1.0 (outcomes.Committed v)
settled_committed index old new above v one next is begins once told =
    let before : List Entry = is.1.1.1.0 in
    let by : status_next old.name.origin before is.0 ≡ Committed v = settled_next index old new one (Committed v) is begins once told in
    let reason : IsReason old.name.origin before (entry old.number one.number is.0 is.1.0) (outcomes.Committed v) = committed_so (cause_next old.name.origin before is.0) (version_of old.name.origin before + 1) v by in
    (one.prefix.log, (before, is.1.1.1.1 ∙ ap (λ (n : ℕ). before ++ entry old.number n is.0 is.1.0 ∷ []) next, reason), begins, refl)

-- and so one that is refused
pub settled_refused : (index : IndexIn) (old new : Knowledge) (above : ℕ) (one : Unsettled) → one.number ≡ above + 1 → (is : IsUnsettled index old one) → IsPrefix one.prefix.log new.log → is_once new.log ≡ true →
    outcome_in old.name.origin new.log old.number one.number ≡ Refused → (cause : Cause) × IsSubmission (upto above old) (upto (above + 1) new) is.0 is.1.0 (outcomes.Conflict cause.seen cause.range)
settled_refused index old new above one next is begins once told =
    let before : List Entry = is.1.1.1.0 in
    let why = refused_so (cause_next old.name.origin before is.0) (version_of old.name.origin before + 1) (settled_next index old new one Refused is begins once told) in
    (why.0, (one.prefix.log, (before, is.1.1.1.1 ∙ ap (λ (n : ℕ). before ++ entry old.number n is.0 is.1.0 ∷ []) next, why.1), begins, refl))

-- ---- a round that is committed, or comes to nothing

module _ (index : IndexIn) (old mid new : Knowledge) (p q : Progress) (before : GoesOnFrom old mid) (after : GoesOnFrom mid new) (once : is_once new.log ≡ true) where
  abbrev pub Knows : Knowledge → Progress → Type 0
  Knows k r = Counted index old k r.built.steps r.built.records × (r.marked ≡ list_any (has_marked index) (own_of old k))

  pub counted_round : (round : Round) → Knows mid p → IsWorkerRound index (Some round) mid new → HasCounted round p q → Knows new q
  counted_round (Built more) knows is has = (
    counted_by index more old mid new p.built.steps p.built.records q.built.steps q.built.records before after once knows.0 is has.1 has.0,
    has.2 ∙ knows.1 ∙ sym (built_marks index more old mid new p.built.steps p.built.records before after once knows.0 is),
  )
  counted_round Marked knows is has = (
    subst (λ (t : Totals). Counted index old new t.steps t.records) (sym has.0) (counted_marked index old mid new p.built.steps p.built.records before after once knows.0 is),
    has.1 ∙ sym (marked_next index old mid new p.built.steps p.built.records before after once knows.0 is),
  )

  pub counted_nothing : Knows mid p → IsWorkerRound index None mid new → q.built ≡ p.built → q.marked ≡ p.marked → Knows new q
  counted_nothing knows is built marked = (
    subst (λ (t : Totals). Counted index old new t.steps t.records) (sym built) (nothing_next index old mid new p.built.steps p.built.records before after once knows.0 is),
    marked ∙ knows.1 ∙ sym (nothing_marks index old mid new p.built.steps p.built.records before after once knows.0 is),
  )

  -- the numbers don't suffice for it
  pub too_much : (round : Round) → Knows mid p → IsWorkerRound index (Some round) mid new → Overflows p.built round → IsTooMuch index old new
  too_much (Built more) knows is over =
      let counted : Counted index old new (p.built.steps + 1) (p.built.records + more) = counted_by index more old mid new p.built.steps p.built.records (p.built.steps + 1) (p.built.records + more) before after once knows.0 is refl refl in
      elim over [
        | inl records ↦ inl (subst (λ (n : ℕ). 2 ^ 64 ≤ n) counted.records records)
        | inr steps ↦ inr (subst (λ (n : ℕ). 2 ^ 64 ≤ n) counted.steps steps)
      ]
  too_much Marked knows is over = absurd over

-- ---- as far as a number

pub upto_from : (old k : Knowledge) (above : ℕ) → GoesOnFrom old k → GoesOnFrom old (upto above k)
upto_from old k above is = record { name = is.name; number = is.number; log = is.log }

upto_both : (a b : Knowledge) (low high : ℕ) → GoesOnFrom a b → GoesOnFrom (upto low a) (upto high b)
upto_both a b low high is = record { name = is.name; number = is.number; log = is.log }

pub upto_all : (k : Knowledge) (above : ℕ) → GoesOnFrom (upto above k) k
upto_all k above = record { name = refl; number = refl; log = prefix_self k.log }

-- the log may have grown
pub kept : (index : IndexIn) (old a b : Knowledge) (top : ℕ) (p : Progress) → GoesOnFrom a b → is_once b.log ≡ true → top ≤ b.last → IsProgress index old a top p → IsProgress index old b top p
kept index old a b top p on once le is =
    let knows = counted_nothing index old (upto is.above a) (upto is.above b) p p (upto_from old a is.above is.follows) (upto_both a b is.above is.above on) once (is.counted, is.marked) (inl refl) refl refl in
    record {
      above = is.above;
      follows = follows_trans is.follows on;
      counted = knows.0;
      marked = knows.1;
      lost = unsettled_kept index a b is.above top p.lost.items on.name on.number is.lost;
      last = le;
    }

-- ---- the first one that is lost

told_before : (a b : Knowledge) (number : ℕ) (status : SubmissionStatus) → GoesOnFrom a b → outcome_in b.name.origin b.log b.number number ≡ status → outcome_in a.name.origin b.log a.number number ≡ status
told_before a b number status on is =
    subst (λ (n : ℕ). outcome_in a.name.origin b.log n number ≡ status) on.number (subst (λ (n : Name). outcome_in n.origin b.log b.number number ≡ status) on.name is)

-- its transaction, as far as its entry tells
abbrev tx_of : Unsettled → CommitRequest → Trace → OpenTransaction
tx_of one request trace = record { prefix = one.prefix; transaction = request; trace = trace }

committed_open : (index : IndexIn) (a b : Knowledge) (above : ℕ) (one : Unsettled) → GoesOnFrom a b → is_once b.log ≡ true → one.number ≡ above + 1 → IsUnsettled index a one → TellsOne b one (Some true) → IsWorkerRound index (Some one.round) (upto above a) (upto (above + 1) b)
committed_open index a b above one on once next is told =
    worker_round index one.round (upto above a) (upto (above + 1) b) (tx_of one is.0 is.1.0) is.1.2
    (told.1.0, settled_committed index a b above told.1.0 one next is told.0 once (told_before a b one.number (Committed told.1.0) on told.1.1))

refused_open : (index : IndexIn) (a b : Knowledge) (above : ℕ) (one : Unsettled) → GoesOnFrom a b → is_once b.log ≡ true → one.number ≡ above + 1 → IsUnsettled index a one → TellsOne b one (Some false) → IsWorkerRound index None (upto above a) (upto (above + 1) b)
refused_open index a b above one on once next is told =
    let why = settled_refused index a b above one next is told.0 once (told_before a b one.number Refused on told.1) in
    inr (tx_of one is.0 is.1.0, inr (why.0.seen, (why.0.range, why.1)))

wider : (old b : Knowledge) (n : ℕ) (f : Entry → ℕ) → n ≤ b.last → sum_by f (own_of old (upto n b)) ≤ sum_by f (own_of old b)
wider old b n f le = sum_wider f old.number old.last n b.last (committed_behind old.name.origin [] b.log) le

above_all : (x y z : ℕ) → x ≤ y → y ≤ z → x ≤ z
above_all x y z p q = omega (arith, p, q)

-- what is too much up to a number is too much
wide_enough : (index : IndexIn) (old b : Knowledge) (n : ℕ) → n ≤ b.last → IsTooMuch index old (upto n b) → IsTooMuch index old b
wide_enough index old b n le much = elim much [
  | inl records ↦ inl (above_all (2 ^ 64) (sum_by (records_built index) (own_of old (upto n b))) (sum_by (records_built index) (own_of old b)) records (wider old b n (records_built index) le))
  | inr steps ↦ inr (above_all (2 ^ 64) (count_by (entry_has_built index) (own_of old (upto n b))) (count_by (entry_has_built index) (own_of old b)) steps (wider old b n (λ (e : Entry). cond (entry_has_built index e) 1 0) le))
]

module _ (index : IndexIn) (old a b : Knowledge) (top : ℕ) (p : Progress) (one : Unsettled) (others : List Unsettled) (on : GoesOnFrom a b) (same : b.last ≡ a.last)
    (is : IsProgress index old a top p) (items : p.lost.items ≡ one ∷ others) where
  pub first_open : AreUnsettled index a is.above top (one ∷ others)
  first_open = subst (AreUnsettled index a is.above top) items is.lost

  pub first_most : one.number ≤ top
  first_most =
      let le : is.above + 1 ≤ top = above_le index a (is.above + 1) top others first_open.2 in
      let next : one.number ≡ is.above + 1 = first_open.0 in
      omega (arith, le, next)

  pub first_last : one.number ≤ b.last
  first_last = let most : one.number ≤ top = first_most in let last : top ≤ a.last = is.last in omega (arith, most, last, same)

  pub first_above : old.last < one.number
  first_above =
      let low : old.last ≤ is.above = is.counted.last in
      let next : one.number ≡ is.above + 1 = first_open.0 in
      omega (arith, low, next)

  -- with what is settled then, and the others lost
  rest_open : (q : Progress) → q.lost.items ≡ others → Counted index old (upto (is.above + 1) b) q.built.steps q.built.records × (q.marked ≡ list_any (has_marked index) (own_of old (upto (is.above + 1) b))) → IsProgress index old b top q
  rest_open q rest knows = record {
    above = is.above + 1;
    follows = follows_trans is.follows on;
    counted = knows.0;
    marked = knows.1;
    lost = subst (AreUnsettled index b (is.above + 1) top) (sym rest) (unsettled_kept index a b (is.above + 1) top others on.name on.number first_open.2);
    last = let last : top ≤ a.last = is.last in omega (arith, last, same);
  }

  -- nothing is told of it
  pub first_ends : (error : RunError) → IsWithheld b one.number error → AskingEnds index old b error
  first_ends (runs.Refused why) withheld = withheld
  first_ends runs.GaveUp withheld = inr (one.number, first_above, first_last, withheld)

  pub first_gives_up : (error : RunError) → error ≡ runs.GaveUp → IsTooMuch index old b → AskingEnds index old b error
  first_gives_up error gives_up much = subst (AskingEnds index old b) (sym gives_up) (inl much)

module _ (index : IndexIn) (old a b : Knowledge) (top : ℕ) (p : Progress) (one : Unsettled) (others : List Unsettled) (on : GoesOnFrom a b) (same : b.last ≡ a.last) (once : is_once b.log ≡ true)
    (is : IsProgress index old a top p) (items : p.lost.items ≡ one ∷ others) where
  own_first : AreUnsettled index a is.above top (one ∷ others)
  own_first = first_open index old a b top p one others on same is items

  -- it is committed
  pub first_committed : (q : Progress) → q.lost.items ≡ others → TellsOne b one (Some true) → HasCounted one.round p q → IsProgress index old b top q
  first_committed q rest told has =
      rest_open index old a b top p one others on same is items q rest
      (counted_round index old (upto is.above a) (upto (is.above + 1) b) p q (upto_from old a is.above is.follows) (upto_both a b is.above (is.above + 1) on) once one.round (is.counted, is.marked)
      (committed_open index a b is.above one on once own_first.0 own_first.1 told) has)

  -- it is refused
  pub first_refused : (q : Progress) → q.lost.items ≡ others → TellsOne b one (Some false) → q.built ≡ p.built → q.marked ≡ p.marked → IsProgress index old b top q
  first_refused q rest told built marked =
      rest_open index old a b top p one others on same is items q rest
      (counted_nothing index old (upto is.above a) (upto (is.above + 1) b) p q (upto_from old a is.above is.follows) (upto_both a b is.above (is.above + 1) on) once (is.counted, is.marked)
      (refused_open index a b is.above one on once own_first.0 own_first.1 told) built marked)

  -- the numbers don't suffice for it
  pub first_too_much : TellsOne b one (Some true) → Overflows p.built one.round → IsTooMuch index old b
  first_too_much told over =
      let most : is.above + 1 ≤ b.last = subst (λ (n : ℕ). n ≤ b.last) own_first.0 (first_last index old a b top p one others on same is items) in
      wide_enough index old b (is.above + 1) most
      (too_much index old (upto is.above a) (upto (is.above + 1) b) p p (upto_from old a is.above is.follows) (upto_both a b is.above (is.above + 1) on) once one.round (is.counted, is.marked)
      (committed_open index a b is.above one on once own_first.0 own_first.1 told) over)

-- ---- none of those that are lost stands

pub none_open : (index : IndexIn) (k : Knowledge) (above top : ℕ) (lost : List Unsettled) → AreUnsettled index k above top lost → NoneStands k lost → are_in_turn [] k.log ≡ true → has_submission k.number (top + 1) k.log ≡ true → lost ≡ []
none_open index k above top [] are none turn there = refl
none_open index k above top (one ∷ others) are none turn there =
    let le : above + 1 ≤ top = above_le index k (above + 1) top others are.2 in
    let next : one.number ≡ above + 1 = are.0 in
    let stands : has_submission k.number one.number k.log ≡ true = stands_below k.number one.number (top + 1) k.log turn (omega (arith, next)) (omega (arith, next, le)) there in
    absurd (true≢false (sym stands ∙ none))

rest_none : (index : IndexIn) (k : Knowledge) (above top : ℕ) (lost : List Unsettled) → AreUnsettled index k above top lost → NoneStands k lost → are_in_turn [] k.log ≡ true → (n : ℕ) → above < n → n ≤ top → has_submission k.number n k.log ≡ false
rest_none index k above top [] are none turn n low high = absurd (omega (arith, are, low, high))
rest_none index k above top (one ∷ others) are none turn n low high = by (has_submission k.number n k.log) refl
  where
    by : (b : Bool) → has_submission k.number n k.log ≡ b → has_submission k.number n k.log ≡ false
    by true is =
        let next : one.number ≡ above + 1 = are.0 in
        let stands : has_submission k.number one.number k.log ≡ true = stands_below k.number one.number n k.log turn (omega (arith, next)) (omega (arith, next, low)) is in
        absurd (true≢false (sym stands ∙ none))
    by false is = is

module _ (index : IndexIn) (old k : Knowledge) (p : Progress) (is : IsSettledUpto index old k k.last p) (law : IsWellFormedLog k.name.origin k.log) where
  -- what is committed of all its submissions is what is committed of those that are settled
  own_settled : own_of old k ≡ own_of old (upto is.0.above k)
  own_settled =
      let low : is.0.above ≤ k.last = above_le index k is.0.above k.last p.lost.items is.0.lost in
      own_rest old.name.origin old.number old.last is.0.above k.last k.log low
      (λ n over most. subst (λ (c : ℕ). has_submission c n k.log ≡ false) is.0.follows.number (rest_none index k is.0.above k.last p.lost.items is.0.lost is.1 law.in_turn n over most))

  pub built_by : p.marked ≡ true → IsBuilt index old k p.built
  built_by marked = record {
    marked = ap (list_any (has_marked index)) own_settled ∙ sym is.0.marked ∙ marked;
    steps = is.0.counted.steps ∙ sym (ap (λ (l : List Entry). sum_by (λ (e : Entry). cond (entry_has_built index e) 1 0) l) own_settled);
    records = is.0.counted.records ∙ sym (ap (sum_by (records_built index)) own_settled);
  }

  pub unmarked : p.marked ≡ false → list_any (has_marked index) (own_of old k) ≡ false
  unmarked marked = ap (list_any (has_marked index)) own_settled ∙ sym is.0.marked ∙ marked

-- ---- asking

pub asked_follows : (a b : Knowledge) → HasAsked a b → GoesOnFrom a b
asked_follows a b asked = record { name = ap (λ (k : Knowledge). k.name) asked.1; number = ap (λ (k : Knowledge). k.number) asked.1; log = asked.0 }

pub asked_last : (a b : Knowledge) → HasAsked a b → b.last ≡ a.last
asked_last a b asked = ap (λ (k : Knowledge). k.last) asked.1

pub asked_self : (k : Knowledge) → HasAsked k k
asked_self k = (prefix_self k.log, refl)

pub asked_trans : (a b c : Knowledge) → HasAsked a b → HasAsked b c → HasAsked a c
asked_trans a b c first then = (
  prefix_trans a.log b.log c.log first.0 then.0,
  then.1 ∙ (λ i. knows_that (ap (λ (k : Knowledge). k.name) first.1 i) c.log (ap (λ (k : Knowledge). k.number) first.1 i) (ap (λ (k : Knowledge). k.last) first.1 i) (ap (λ (k : Knowledge). k.begun) first.1 i)),
)

pub remove_first : (one : Unsettled) (others : List Unsettled) → remove (one ∷ others) 0 ≡ others
remove_first one others = refl

-- a round is counted from what was built and marked alone
pub counted_from : (round : Round) (p s q : Progress) → s.built ≡ p.built → s.marked ≡ p.marked → HasCounted round s q → HasCounted round p q
counted_from (Built more) p s q built marked has = (has.0 ∙ ap (λ (t : Totals). t.records + more) built, has.1 ∙ ap (λ (t : Totals). t.steps + 1) built, has.2 ∙ marked)
counted_from Marked p s q built marked has = (has.0 ∙ built, has.1)
