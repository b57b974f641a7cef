-- What a worker has built, round by round.
use Rattle.std.proofs.Common.{◌≡◌, ◌==◌, ℕ, ◌+◌, ◌<◌, ◌≤◌, Bool, true, false, ◌&&◌, ◌||◌, cond, is_none, nat_le, Some, None, List, [], ◌∷◌, ◌++◌, inl, inr, refl, sym, ap, ◌∙◌, subst, arith, true≢false}
use Rattle.std.specs.Prelude.{count_by, sum_by}
use Rattle.std.specs.List.{list_any}
use Rattle.std.specs.Str.{bytes_eq}
use Rattle.std.proofs.lemmas.Slice.Eq.{bytes_eq-Decides}
use Rattle.std.proofs.lemmas.Bool.{eqb-false}
use Rattle.std.proofs.lemmas.Bool.Decides.{nat_tests}
use Rattle.std.proofs.lemmas.List.Sums.{sum_by-append, sum_by-cons}
use mathlib.Core.List.{IsPrefix}
use Rattle.kv_core.specs.Range.{KeyRange}
use Rattle.runtime.specs.declared.log_entry.Entry.{Entry}
use Rattle.runtime.specs.declared.performed.Performed.{Performed}
use Rattle.runtime.specs.declared.open_transaction.OpenTransaction.{OpenTransaction}
use Rattle.runtime.specs.declared.worker_progress.Round.{Round}
use Rattle.runtime.specs.declared.worker_progress.Round.TheVariants.{Built, Marked}
use Rattle.runtime.specs.declared.outcome.Outcome.{Outcome}
use Rattle.runtime.specs.declared.outcome.Outcome.TheVariants as outcomes
use Rattle.runtime.specs.Clients.{Knowledge, knows_that}
use Rattle.runtime.specs.Outcomes.{entry}
use Rattle.runtime.specs.History.{Name}
use Rattle.runtime.specs.Logs.{cause_next, has_submission, is_once, version_of}
use Rattle.runtime.specs.Builds.{Commits, HasWorked, IndexIn, IsSubmission, IsWorkerRound, entry_has_built, has_marked, is_in_store}
use Rattle.runtime.specs.Builds.{is_build, is_mark, own_committed, own_of, records_built, records_by}
use Rattle.runtime.specs.Runs.{GoesOnFrom}
use Rattle.runtime.specs.Settles.{Counted}
use Rattle.runtime.proofs.Numbers.{number_begins, number_of_last}
use Rattle.runtime.proofs.Counting.{or_left_false, or_right_false, own_grown, own_none, sum_next, none_decided, some_decided}

pub counted_first : (index : IndexIn) (k : Knowledge) → Counted index k k 0 0
counted_first index k =
    let none : own_of k k ≡ [] = own_none k.name.origin k.number k.last k.log in
    record {
      given = λ n low high. absurd (omega (arith, low, high));
      last = omega arith;
      steps = sym (ap (count_by (entry_has_built index)) none);
      records = sym (ap (sum_by (records_built index)) none);
    }

-- ---- what an entry weighs

name_same : (index : List ℕ) → bytes_eq index index ≡ true
name_same index = (bytes_eq-Decides index index).1 refl

-- in its store
pub there_same : (index : IndexIn) (round : Round) (e : Entry) → HasWorked index round e.trace → is_in_store index e ≡ true
there_same index round e worked = by_test (e.trace.store == index.0) refl
  where
    by_test : (b : Bool) → (e.trace.store == index.0) ≡ b → b ≡ true
    by_test true is = refl
    by_test false is = absurd (eqb-false e.trace.store index.0 is worked.store)

pub built_steps : (index : IndexIn) (records : ℕ) (e : Entry) → HasWorked index (Built records) e.trace → entry_has_built index e ≡ true
built_steps index records e worked =
    ap (λ b. b && list_any (λ (one : Performed). is_build index.1 one.command one.reply) e.trace.attempts.list) (there_same index (Built records) e worked)
    ∙ ap (list_any (λ (one : Performed). is_build index.1 one.command one.reply)) worked.performed.1.1 ∙ ap (λ b. b || false) (name_same index.1)

pub built_records : (index : IndexIn) (records : ℕ) (e : Entry) → HasWorked index (Built records) e.trace → records_built index e ≡ records
built_records index records e worked =
    ap (λ b. cond b (sum_by (λ (one : Performed). records_by index.1 one.command one.reply) e.trace.attempts.list) 0) (there_same index (Built records) e worked)
    ∙ ap (sum_by (λ (one : Performed). records_by index.1 one.command one.reply)) worked.performed.1.1
    ∙ ap (λ b. 0 + cond b records 0) (name_same index.1)
    ∙ (let z : 0 + records ≡ records = omega arith in z)

marked_steps : (index : IndexIn) (e : Entry) → HasWorked index Marked e.trace → entry_has_built index e ≡ false
marked_steps index e worked =
    ap (λ b. b && list_any (λ (one : Performed). is_build index.1 one.command one.reply) e.trace.attempts.list) (there_same index Marked e worked)
    ∙ ap (list_any (λ (one : Performed). is_build index.1 one.command one.reply)) worked.performed.1

marked_records : (index : IndexIn) (e : Entry) → HasWorked index Marked e.trace → records_built index e ≡ 0
marked_records index e worked =
    ap (λ b. cond b (sum_by (λ (one : Performed). records_by index.1 one.command one.reply) e.trace.attempts.list) 0) (there_same index Marked e worked)
    ∙ ap (sum_by (λ (one : Performed). records_by index.1 one.command one.reply)) worked.performed.1

pub marked_so : (index : IndexIn) (e : Entry) → HasWorked index Marked e.trace → has_marked index e ≡ true
marked_so index e worked =
    ap (λ b. b && list_any (λ (one : Performed). is_mark index.1 one.command one.reply) e.trace.attempts.list) (there_same index Marked e worked)
    ∙ ap (list_any (λ (one : Performed). is_mark index.1 one.command one.reply)) worked.performed.1
    ∙ ap (λ b. (b && true) || false) (name_same index.1)

built_no_mark : (index : IndexIn) (records : ℕ) (e : Entry) → HasWorked index (Built records) e.trace → has_marked index e ≡ false
built_no_mark index records e worked =
    ap (λ b. b && list_any (λ (one : Performed). is_mark index.1 one.command one.reply) e.trace.attempts.list) (there_same index (Built records) e worked)
    ∙ ap (list_any (λ (one : Performed). is_mark index.1 one.command one.reply)) worked.performed.1.1

-- ---- one submission more

abbrev pub entry_by : Knowledge → OpenTransaction → Entry
entry_by mid open_tx = entry mid.number (mid.last + 1) open_tx.transaction open_tx.trace

ends_there : (mid new : Knowledge) (open_tx : OpenTransaction) (outcome : Outcome) → (submits : IsSubmission mid new open_tx.transaction open_tx.trace outcome) → IsPrefix (submits.1.0 ++ entry_by mid open_tx ∷ []) new.log
ends_there mid new open_tx outcome submits = subst (λ (l : List Entry). IsPrefix l new.log) submits.1.1 submits.2

sum_after : (f : Entry → ℕ) (index : IndexIn) (old mid new : Knowledge) (steps records : ℕ) (open_tx : OpenTransaction) (outcome : Outcome) → GoesOnFrom old mid → GoesOnFrom mid new → is_once new.log ≡ true → Counted index old mid steps records → (submits : IsSubmission mid new open_tx.transaction open_tx.trace outcome) →
    sum_by f (own_of old new) ≡ sum_by f (own_of old mid) + sum_by f (cond (is_none (cause_next mid.name.origin submits.1.0 open_tx.transaction)) (entry_by mid open_tx ∷ []) [])
sum_after f index old mid new steps records open_tx outcome before after once counted submits =
    let client : mid.number ≡ old.number = before.number in
    let sum = sum_next f old.name.origin old.number old.last mid.last mid.log new.log submits.1.0 (entry_by mid open_tx) counted.last after.log (ends_there mid new open_tx outcome submits) once client refl counted.given in
    ap (λ (n : ℕ). sum_by f (own_committed old.name.origin old.number old.last n new.log)) submits.3
    ∙ sum
    ∙ ap (λ (n : Name). sum_by f (own_of old mid) + sum_by f (cond (is_none (cause_next n.origin submits.1.0 open_tx.transaction)) (entry_by mid open_tx ∷ []) [])) (sym before.name)

given_by : (index : IndexIn) (old mid new : Knowledge) (steps records : ℕ) (open_tx : OpenTransaction) (outcome : Outcome) → GoesOnFrom old mid → GoesOnFrom mid new → Counted index old mid steps records → IsSubmission mid new open_tx.transaction open_tx.trace outcome →
    (n : ℕ) → old.last < n → n ≤ new.last → (b : Bool) → nat_le n mid.last ≡ b → has_submission old.number n new.log ≡ true
given_by index old mid new steps records open_tx outcome before after counted submits n low high true is =
    let le : n ≤ mid.last = grind (arith, nat_tests) in
    number_begins old.number n mid.log new.log after.log (counted.given n low le)
given_by index old mid new steps records open_tx outcome before after counted submits n low high false is =
    let gt : mid.last < n = grind (arith, nat_tests) in
    let next : new.last ≡ mid.last + 1 = submits.3 in
    let same : mid.last + 1 ≡ n = omega (arith, gt, next, high) in
    number_begins old.number n (submits.1.0 ++ entry_by mid open_tx ∷ []) new.log (ends_there mid new open_tx outcome submits) (number_of_last old.number n submits.1.0 (entry_by mid open_tx) before.number same)

last_by : (index : IndexIn) (old mid new : Knowledge) (steps records : ℕ) (open_tx : OpenTransaction) (outcome : Outcome) → Counted index old mid steps records → IsSubmission mid new open_tx.transaction open_tx.trace outcome → old.last ≤ new.last
last_by index old mid new steps records open_tx outcome counted submits = let le : old.last ≤ mid.last = counted.last in let next : new.last ≡ mid.last + 1 = submits.3 in omega (arith, le, next)

-- a committed one adds what it weighs
pub committed_sum : (f : Entry → ℕ) (index : IndexIn) (old mid new : Knowledge) (steps records : ℕ) (open_tx : OpenTransaction) → GoesOnFrom old mid → GoesOnFrom mid new → is_once new.log ≡ true → Counted index old mid steps records → Commits mid new open_tx true →
    sum_by f (own_of old new) ≡ sum_by f (own_of old mid) + f (entry_by mid open_tx)
committed_sum f index old mid new steps records open_tx before after once counted commits =
    let submits : IsSubmission mid new open_tx.transaction open_tx.trace (outcomes.Committed commits.0) = commits.1 in
    let none : is_none (cause_next mid.name.origin submits.1.0 open_tx.transaction) ≡ true = none_decided (cause_next mid.name.origin submits.1.0 open_tx.transaction) (version_of mid.name.origin submits.1.0 + 1) commits.0 submits.1.2 in
    sum_after f index old mid new steps records open_tx (outcomes.Committed commits.0) before after once counted submits
    ∙ ap (λ b. sum_by f (own_of old mid) + sum_by f (cond b (entry_by mid open_tx ∷ []) [])) none
    ∙ (let z : 0 + f (entry_by mid open_tx) ≡ f (entry_by mid open_tx) = omega arith in ap (λ n. sum_by f (own_of old mid) + n) z)

-- a refused one adds nothing
pub refused_sum : (f : Entry → ℕ) (index : IndexIn) (old mid new : Knowledge) (steps records : ℕ) (open_tx : OpenTransaction) (seen : ℕ) (range : KeyRange) → GoesOnFrom old mid → GoesOnFrom mid new → is_once new.log ≡ true → Counted index old mid steps records →
    IsSubmission mid new open_tx.transaction open_tx.trace (outcomes.Conflict seen range) → sum_by f (own_of old new) ≡ sum_by f (own_of old mid)
refused_sum f index old mid new steps records open_tx seen range before after once counted submits =
    let some : is_none (cause_next mid.name.origin submits.1.0 open_tx.transaction) ≡ false = some_decided (cause_next mid.name.origin submits.1.0 open_tx.transaction) (version_of mid.name.origin submits.1.0 + 1) seen range submits.1.2 in
    sum_after f index old mid new steps records open_tx (outcomes.Conflict seen range) before after once counted submits
    ∙ ap (λ b. sum_by f (own_of old mid) + sum_by f (cond b (entry_by mid open_tx ∷ []) [])) some
    ∙ (let z : sum_by f (own_of old mid) + 0 ≡ sum_by f (own_of old mid) = omega arith in z)

committed_next : (index : IndexIn) (old mid new : Knowledge) (steps records : ℕ) (open_tx : OpenTransaction) → GoesOnFrom old mid → GoesOnFrom mid new → is_once new.log ≡ true → Counted index old mid steps records → Commits mid new open_tx true →
    Counted index old new (steps + cond (entry_has_built index (entry_by mid open_tx)) 1 0) (records + records_built index (entry_by mid open_tx))
committed_next index old mid new steps records open_tx before after once counted commits = record {
  given = λ n low high. given_by index old mid new steps records open_tx (outcomes.Committed commits.0) before after counted commits.1 n low high (nat_le n mid.last) refl;
  last = last_by index old mid new steps records open_tx (outcomes.Committed commits.0) counted commits.1;
  steps = ap (λ n. n + cond (entry_has_built index (entry_by mid open_tx)) 1 0) counted.steps ∙ sym (committed_sum (λ (e : Entry). cond (entry_has_built index e) 1 0) index old mid new steps records open_tx before after once counted commits);
  records = ap (λ n. n + records_built index (entry_by mid open_tx)) counted.records ∙ sym (committed_sum (records_built index) index old mid new steps records open_tx before after once counted commits);
}

-- where no number was given the log may only have grown
stayed_own : (index : IndexIn) (old mid new : Knowledge) (steps records : ℕ) → GoesOnFrom mid new → is_once new.log ≡ true → Counted index old mid steps records → new.last ≡ mid.last → own_of old new ≡ own_of old mid
stayed_own index old mid new steps records after once counted same =
    ap (λ (n : ℕ). own_committed old.name.origin old.number old.last n new.log) same
    ∙ own_grown old.name.origin old.number old.last mid.last mid.log new.log after.log once counted.given

stayed_next : (index : IndexIn) (old mid new : Knowledge) (steps records : ℕ) → GoesOnFrom mid new → is_once new.log ≡ true → Counted index old mid steps records → new.last ≡ mid.last → Counted index old new steps records
stayed_next index old mid new steps records after once counted same =
    let own : own_of old new ≡ own_of old mid = stayed_own index old mid new steps records after once counted same in
    record {
      given = λ n low high. number_begins old.number n mid.log new.log after.log (counted.given n low (omega (arith, high, same)));
      last = let le : old.last ≤ mid.last = counted.last in omega (arith, le, same);
      steps = counted.steps ∙ sym (ap (count_by (entry_has_built index)) own);
      records = counted.records ∙ sym (ap (sum_by (records_built index)) own);
    }

refused_next : (index : IndexIn) (old mid new : Knowledge) (steps records : ℕ) (open_tx : OpenTransaction) → GoesOnFrom old mid → GoesOnFrom mid new → is_once new.log ≡ true → Counted index old mid steps records → Commits mid new open_tx false →
    Counted index old new steps records
refused_next index old mid new steps records open_tx before after once counted commits = elim commits [
  | inl same ↦ stayed_next index old mid new steps records after once counted same
  | inr told ↦ record {
    given = λ n low high. given_by index old mid new steps records open_tx (outcomes.Conflict told.0 told.1.0) before after counted told.1.1 n low high (nat_le n mid.last) refl;
    last = last_by index old mid new steps records open_tx (outcomes.Conflict told.0 told.1.0) counted told.1.1;
    steps = counted.steps ∙ sym (refused_sum (λ (e : Entry). cond (entry_has_built index e) 1 0) index old mid new steps records open_tx told.0 told.1.0 before after once counted told.1.1);
    records = counted.records ∙ sym (refused_sum (records_built index) index old mid new steps records open_tx told.0 told.1.0 before after once counted told.1.1);
  }
]

-- ---- one round more

pub nothing_next : (index : IndexIn) (old mid new : Knowledge) (steps records : ℕ) → GoesOnFrom old mid → GoesOnFrom mid new → is_once new.log ≡ true → Counted index old mid steps records → IsWorkerRound index None mid new → Counted index old new steps records
nothing_next index old mid new steps records before after once counted is = elim is [
  | inl same ↦ stayed_next index old mid new steps records after once counted same
  | inr told ↦ refused_next index old mid new steps records told.0 before after once counted told.1
]

built_next : (index : IndexIn) (more : ℕ) (old mid new : Knowledge) (steps records : ℕ) → GoesOnFrom old mid → GoesOnFrom mid new → is_once new.log ≡ true → Counted index old mid steps records → IsWorkerRound index (Some (Built more)) mid new →
    Counted index old new (steps + 1) (records + more)
built_next index more old mid new steps records before after once counted is =
    let e : Entry = entry_by mid is.0 in
    let weighs : entry_has_built index e ≡ true = built_steps index more e is.1 in
    let adds : records_built index e ≡ more = built_records index more e is.1 in
    subst (λ (n : ℕ). Counted index old new (steps + 1) (records + n)) adds (subst (λ (b : Bool). Counted index old new (steps + cond b 1 0) (records + records_built index e)) weighs (committed_next index old mid new steps records is.0 before after once counted is.2))

pub counted_by : (index : IndexIn) (built : ℕ) (old mid new : Knowledge) (steps records more all : ℕ) → GoesOnFrom old mid → GoesOnFrom mid new → is_once new.log ≡ true → Counted index old mid steps records → IsWorkerRound index (Some (Built built)) mid new →
    more ≡ steps + 1 → all ≡ records + built → Counted index old new more all
counted_by index built old mid new steps records more all before after once counted is s r =
    subst (λ (n : ℕ). Counted index old new n all) (sym s) (subst (λ (n : ℕ). Counted index old new (steps + 1) n) (sym r) (built_next index built old mid new steps records before after once counted is))

-- a round that marks the index is no step
pub counted_marked : (index : IndexIn) (old mid new : Knowledge) (steps records : ℕ) → GoesOnFrom old mid → GoesOnFrom mid new → is_once new.log ≡ true → Counted index old mid steps records → IsWorkerRound index (Some Marked) mid new →
    Counted index old new steps records
counted_marked index old mid new steps records before after once counted is =
    let e : Entry = entry_by mid is.0 in
    let weighs : entry_has_built index e ≡ false = marked_steps index e is.1 in
    let adds : records_built index e ≡ 0 = marked_records index e is.1 in
    let s : steps + 0 ≡ steps = omega arith in
    let r : records + 0 ≡ records = omega arith in
    subst (λ (n : ℕ). Counted index old new n records) s
    (subst (λ (n : ℕ). Counted index old new (steps + 0) n) r (subst (λ (n : ℕ). Counted index old new (steps + 0) (records + n)) adds (subst (λ (b : Bool). Counted index old new (steps + cond b 1 0) (records + records_built index e)) weighs (committed_next index old mid new steps records is.0 before after once counted is.2))))

pub none_counted : {X : Type 0} (p : X → Bool) (xs : List X) → list_any p xs ≡ false → count_by p xs ≡ 0
none_counted p [] none = refl
none_counted p (x ∷ xs) none =
    let here : count_by p (x ∷ []) ≡ 0 = ap (λ b. 0 + cond b 1 0) (or_left_false (p x) (list_any p xs) none) in
    sum_by-append (λ y. cond (p y) 1 0) (x ∷ []) xs ∙ (λ i. here i + none_counted p xs (or_right_false (p x) (list_any p xs) none) i)

pub some_counted : {X : Type 0} (p : X → Bool) (xs : List X) (b : Bool) → list_any p xs ≡ b → 0 < count_by p xs → list_any p xs ≡ true
some_counted p xs true is some = is
some_counted p xs false is some = absurd (let none : count_by p xs ≡ 0 = none_counted p xs is in omega (arith, some, none))

positive : (b : Bool) → b ≡ true → 0 < cond b 1 0
positive true is = omega arith
positive false is = absurd (cc)

counted_head : {X : Type 0} (p : X → Bool) (x : X) (xs : List X) (b : Bool) → p x ≡ b → list_any p (x ∷ xs) ≡ true → (list_any p xs ≡ true → 0 < count_by p xs) → 0 < count_by p (x ∷ xs)
counted_head p x xs true is some rest =
    let all : count_by p (x ∷ xs) ≡ cond (p x) 1 0 + count_by p xs = sum_by-cons (λ y. cond (p y) 1 0) x xs in
    let one : ◌≡◌ {A = ℕ} (cond (p x) 1 0) 1 = ap (λ t. cond t 1 0) is in
    omega (arith, all, one)
counted_head p x xs false is some rest =
    let all : count_by p (x ∷ xs) ≡ cond (p x) 1 0 + count_by p xs = sum_by-cons (λ y. cond (p y) 1 0) x xs in
    let more : 0 < count_by p xs = rest (sym (ap (λ t. t || list_any p xs) is) ∙ some) in
    omega (arith, all, more)

counted_some : {X : Type 0} (p : X → Bool) (xs : List X) → list_any p xs ≡ true → 0 < count_by p xs
counted_some p [] some = absurd (true≢false (sym some))
counted_some p (x ∷ xs) some = counted_head p x xs (p x) refl some (counted_some p xs)

-- whether one passes is told by how many do
pub same_any : {X : Type 0} (p : X → Bool) (xs ys : List X) → count_by p ys ≡ count_by p xs → list_any p ys ≡ list_any p xs
same_any p xs ys same = by (list_any p xs) refl (list_any p ys) refl
  where
    by : (a : Bool) → list_any p xs ≡ a → (b : Bool) → list_any p ys ≡ b → list_any p ys ≡ list_any p xs
    by true is true are = are ∙ sym is
    by false is false are = are ∙ sym is
    by true is false are =
        let some : 0 < count_by p xs = counted_some p xs is in
        let none : count_by p ys ≡ 0 = none_counted p ys are in
        absurd (omega (arith, some, none, same))
    by false is true are =
        let some : 0 < count_by p ys = counted_some p ys are in
        let none : count_by p xs ≡ 0 = none_counted p xs is in
        absurd (omega (arith, some, none, same))

-- a round that marks the index
pub marked_next : (index : IndexIn) (old mid new : Knowledge) (steps records : ℕ) → GoesOnFrom old mid → GoesOnFrom mid new → is_once new.log ≡ true → Counted index old mid steps records → IsWorkerRound index (Some Marked) mid new →
    list_any (has_marked index) (own_of old new) ≡ true
marked_next index old mid new steps records before after once counted is =
    let e : Entry = entry_by mid is.0 in
    let weighs : has_marked index e ≡ true = marked_so index e is.1 in
    let sum : count_by (has_marked index) (own_of old new) ≡ count_by (has_marked index) (own_of old mid) + cond (has_marked index e) 1 0 = committed_sum (λ (e : Entry). cond (has_marked index e) 1 0) index old mid new steps records is.0 before after once counted is.2 in
    let one : 0 < cond (has_marked index e) 1 0 = positive (has_marked index e) weighs in
    some_counted (has_marked index) (own_of old new) (list_any (has_marked index) (own_of old new)) refl (omega (arith, sum, one))

-- one that builds a part marks none
pub built_marks : (index : IndexIn) (more : ℕ) (old mid new : Knowledge) (steps records : ℕ) → GoesOnFrom old mid → GoesOnFrom mid new → is_once new.log ≡ true → Counted index old mid steps records → IsWorkerRound index (Some (Built more)) mid new →
    list_any (has_marked index) (own_of old new) ≡ list_any (has_marked index) (own_of old mid)
built_marks index more old mid new steps records before after once counted is =
    let e : Entry = entry_by mid is.0 in
    let weighs : has_marked index e ≡ false = built_no_mark index more e is.1 in
    let sum : count_by (has_marked index) (own_of old new) ≡ count_by (has_marked index) (own_of old mid) + cond (has_marked index e) 1 0 = committed_sum (λ (e : Entry). cond (has_marked index e) 1 0) index old mid new steps records is.0 before after once counted is.2 in
    let none : ◌≡◌ {A = ℕ} (cond (has_marked index e) 1 0) 0 = ap (λ b. cond b 1 0) weighs in
    same_any (has_marked index) (own_of old mid) (own_of old new) (omega (arith, sum, none))

-- nor does one that comes to nothing
pub nothing_marks : (index : IndexIn) (old mid new : Knowledge) (steps records : ℕ) → GoesOnFrom old mid → GoesOnFrom mid new → is_once new.log ≡ true → Counted index old mid steps records → IsWorkerRound index None mid new →
    list_any (has_marked index) (own_of old new) ≡ list_any (has_marked index) (own_of old mid)
nothing_marks index old mid new steps records before after once counted is = elim is [
  | inl same ↦ ap (list_any (has_marked index)) (stayed_own index old mid new steps records after once counted same)
  | inr told ↦ refused told.0 told.1
]
  where
    refused : (open_tx : OpenTransaction) → Commits mid new open_tx false → list_any (has_marked index) (own_of old new) ≡ list_any (has_marked index) (own_of old mid)
    refused open_tx commits = elim commits [
      | inl same ↦ ap (list_any (has_marked index)) (stayed_own index old mid new steps records after once counted same)
      | inr told ↦ same_any (has_marked index) (own_of old mid) (own_of old new) (refused_sum (λ (e : Entry). cond (has_marked index e) 1 0) index old mid new steps records open_tx told.0 told.1.0 before after once counted told.1.1)
    ]

-- ---- the commit of a round

-- what a client is told stays where its name, number and last number were the same before
pub submits_from : (a b c : Knowledge) (open_tx : OpenTransaction) (outcome : Outcome) → b.name ≡ a.name → b.number ≡ a.number → b.last ≡ a.last → IsSubmission b c open_tx.transaction open_tx.trace outcome → IsSubmission a c open_tx.transaction open_tx.trace outcome
submits_from a b c open_tx outcome name number last submits =
    let with_name : IsSubmission (knows_that a.name b.log b.number b.last b.begun) c open_tx.transaction open_tx.trace outcome = subst (λ (n : Name). IsSubmission (knows_that n b.log b.number b.last b.begun) c open_tx.transaction open_tx.trace outcome) name submits in
    let with_number : IsSubmission (knows_that a.name b.log a.number b.last b.begun) c open_tx.transaction open_tx.trace outcome = subst (λ (n : ℕ). IsSubmission (knows_that a.name b.log n b.last b.begun) c open_tx.transaction open_tx.trace outcome) number with_name in
    subst (λ (n : ℕ). IsSubmission (knows_that a.name b.log a.number n b.begun) c open_tx.transaction open_tx.trace outcome) last with_number

pub commits_from : (a b c : Knowledge) (open_tx : OpenTransaction) (yes : Bool) → b.name ≡ a.name → b.number ≡ a.number → b.last ≡ a.last → Commits b c open_tx yes → Commits a c open_tx yes
commits_from a b c open_tx true name number last commits = (commits.0, submits_from a b c open_tx (outcomes.Committed commits.0) name number last commits.1)
commits_from a b c open_tx false name number last commits = elim commits [
  | inl same ↦ inl (same ∙ last)
  | inr told ↦ inr (told.0, (told.1.0, submits_from a b c open_tx (outcomes.Conflict told.0 told.1.0) name number last told.1.1))
]
