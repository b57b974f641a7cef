-- How a run of device calls goes on.
use Rattle.std.proofs.Common.{◌≡◌, inl, inr, ⊎_elim, ℕ, List, refl, ◌∙◌, arith}
use Rattle.journal.specs.Device.{Elapses, LeavesOnly, Reads}

module _ {D : Type 0} (moment : D → ℕ) (left_since : D → ℕ → List ℕ → Type 0) where
  -- before the first call
  pub started : (old : D) (P : List ℕ → Type 0) → ((c : List ℕ) → left_since old (moment old) c → P c) → LeavesOnly moment left_since old old P
  started old P here = record { later = omega arith; each = here; before = λ t c le left. inl left }

  -- one call more, after which a crash leaves what has P
  pub goes_on : (old mid new : D) (P may_leave : List ℕ → Type 0) → LeavesOnly moment left_since old mid P → Elapses (moment mid) (moment new) (left_since mid) (left_since new) may_leave
      → ((c : List ℕ) → may_leave c → P c) → LeavesOnly moment left_since old new P
  goes_on old mid new P may_leave so_far time here = record {
    later = omega (arith, so_far.later, time.later);
    each = λ c left. ⊎_elim (so_far.each c) (here c) (time.nothing_else (moment old) c so_far.later left);
    before = λ t c le left. ⊎_elim (so_far.before t c le) (λ now. inr (here c now)) (time.nothing_else t c (omega (arith, le, so_far.later)) left);
  }

  -- one run after another
  pub joined : (old mid new : D) (P : List ℕ → Type 0) → LeavesOnly moment left_since old mid P → LeavesOnly moment left_since mid new P → LeavesOnly moment left_since old new P
  joined old mid new P first second = record {
    later = omega (arith, first.later, second.later);
    each = λ c left. ⊎_elim (first.each c) (λ has. has) (second.before (moment old) c first.later left);
    before = λ t c le left. ⊎_elim (first.before t c le) (λ has. inr has) (second.before t c (omega (arith, le, first.later)) left);
  }

  pub weaker : (old new : D) (P Q : List ℕ → Type 0) → ((c : List ℕ) → P c → Q c) → LeavesOnly moment left_since old new P → LeavesOnly moment left_since old new Q
  weaker old new P Q so run = record {
    later = run.later;
    each = λ c left. so c (run.each c left);
    before = λ t c le left. ⊎_elim (λ was. inl was) (λ has. inr (so c has)) (run.before t c le left);
  }

-- A run, and what a crash may leave at its end.
pub record Run {D : Type 0} (may_leave : D → List ℕ → Type 0) (moment : D → ℕ) (left_since : D → ℕ → List ℕ → Type 0) (P : List ℕ → Type 0) (old new : D) : Type 0 where
  pub leaves : LeavesOnly moment left_since old new P
  pub now : (c : List ℕ) → may_leave new c → P c

module _ {D : Type 0} (may_leave : D → List ℕ → Type 0) (moment : D → ℕ) (left_since : D → ℕ → List ℕ → Type 0) (P : List ℕ → Type 0) (old : D) where
  pub begins : ((file : D) (c : List ℕ) → left_since file (moment file) c → may_leave file c) → ((c : List ℕ) → may_leave old c → P c) → Run may_leave moment left_since P old old
  begins only_now now = record { leaves = started moment left_since old P (λ c left. now c (only_now old c left)); now = now }

  -- a call after which a crash leaves what has P
  pub calls : (mid new : D) → Run may_leave moment left_since P old mid → Elapses (moment mid) (moment new) (left_since mid) (left_since new) (may_leave new)
      → ((c : List ℕ) → may_leave new c → P c) → Run may_leave moment left_since P old new
  calls mid new run time now = record { leaves = goes_on moment left_since old mid new P (may_leave new) run.leaves time now; now = now }

  -- a call that writes nothing
  pub keeps : (mid new : D) → Run may_leave moment left_since P old mid → Elapses (moment mid) (moment new) (left_since mid) (left_since new) (may_leave new)
      → ((c : List ℕ) → may_leave new c → may_leave mid c) → Run may_leave moment left_since P old new
  keeps mid new run time crash = calls mid new run time (λ c left. run.now c (crash c left))

  pub run_on : (mid new : D) → Run may_leave moment left_since P old mid → Run may_leave moment left_since P mid new → Run may_leave moment left_since P old new
  run_on mid new first second = record { leaves = joined moment left_since old mid new P first.leaves second.leaves; now = second.now }

-- ---- runs that only read

module _ {D : Type 0} (seen : D → List ℕ) (may_leave : D → List ℕ → Type 0) (moment : D → ℕ) (left_since : D → ℕ → List ℕ → Type 0) where
  pub reads_none : (old : D) → Reads seen may_leave moment left_since old old
  reads_none old = record { same = refl; crash = λ c left. left; later = omega arith; nothing_else = λ t c le left. inl left }

  -- a call more that writes nothing
  pub reads_more : (old mid new : D) → Reads seen may_leave moment left_since old mid → seen new ≡ seen mid → ((c : List ℕ) → may_leave new c → may_leave mid c)
      → Elapses (moment mid) (moment new) (left_since mid) (left_since new) (may_leave new) → Reads seen may_leave moment left_since old new
  reads_more old mid new reads same crash time = record {
    same = same ∙ reads.same;
    crash = λ c left. reads.crash c (crash c left);
    later = omega (arith, reads.later, time.later);
    nothing_else = λ t c le left. ⊎_elim (reads.nothing_else t c le) (λ now. inr (reads.crash c (crash c now))) (time.nothing_else t c (omega (arith, le, reads.later)) left);
  }

  pub reads_on : (old mid new : D) → Reads seen may_leave moment left_since old mid → Reads seen may_leave moment left_since mid new → Reads seen may_leave moment left_since old new
  reads_on old mid new first second = record {
    same = second.same ∙ first.same;
    crash = λ c left. first.crash c (second.crash c left);
    later = omega (arith, first.later, second.later);
    nothing_else = λ t c le left. ⊎_elim (first.nothing_else t c le) (λ now. inr (first.crash c now)) (second.nothing_else t c (omega (arith, le, first.later)) left);
  }

  -- they leave what could be left before them
  pub reads_run : (P : List ℕ → Type 0) (old mid new : D) → Run may_leave moment left_since P old mid → Reads seen may_leave moment left_since mid new → Run may_leave moment left_since P old new
  reads_run P old mid new run reads = record {
    leaves = record {
      later = omega (arith, run.leaves.later, reads.later);
      each = λ c left. ⊎_elim (run.leaves.each c) (run.now c) (reads.nothing_else (moment old) c run.leaves.later left);
      before = λ t c le left. ⊎_elim (run.leaves.before t c le) (λ now. inr (run.now c now)) (reads.nothing_else t c (omega (arith, le, run.leaves.later)) left);
    };
    now = λ c left. run.now c (reads.crash c left);
  }
