-- Attempts of work in sessions, one after another.
use Rattle.std.proofs.Common.{◌≡◌, ◌≢◌, ◌↔◌, ℕ, suc, ◌+◌, ◌-◌, ◌<◌, ◌≤◌, nat_lt, max, Bool, true, false, refl, sym, subst, arith}
use Rattle.std.specs.Prelude.{Result, Ok, Err}
use Rattle.std.proofs.lemmas.Bool.Decides.{nat_tests}
use Rattle.kv_core.specs.declared.change.CommitRequest.{CommitRequest}
use Rattle.txn.specs.Attempts.{MayTryAgain}
use Rattle.txn.specs.declared.retry.Ended.{Ended}
use Rattle.txn.specs.declared.retry.Next.{Next}
use Rattle.txn.specs.declared.retry.Next.TheVariants as nexts
use Rattle.runtime.specs.Runs.{InTurn}
use Rattle.record_layer.specs.declared.database.NotCommitted.{NotCommitted}
use Rattle.record_layer.specs.declared.error.Error.{Error}
use Rattle.record_layer.specs.declared.not_done.NotDone.TheVariants as undone
use Rattle.record_layer.specs.Databases.{DatabaseView, IsCommit, IsNotCommitted}
use Rattle.record_layer.specs.Sessions.{SessionView}
use Rattle.record_layer.specs.Working.{Retries, IsAttempt, IsCompleted, IsNoAttempt, Turn, ended_uncommitted}

one_more : {X : Type 0} (Step : X → X → Type 0) (number : ℕ) (a b c : X) → 1 ≤ number → InTurn Step (number - 1) a b → Step b c → InTurn Step (number + 1 - 1) a c
one_more {X} Step number a b c some turns step =
    let same : suc (number - 1) ≡ number + 1 - 1 = omega (arith, some) in
    subst (λ (n : ℕ). InTurn Step n a c) same (b, turns, step)

above : (limit number : ℕ) (b : Bool) → nat_lt number limit ≡ b → ¬ (number < limit) → limit ≤ number
above limit number true is not = absurd (not (let lt : number < limit = grind (arith, nat_tests) in lt))
above limit number false is not = grind (arith, nat_tests)

-- the last of some attempts, the first of which is numbered 1
module _ {W A : Type 0} (does : W → SessionView → Result A Error → W → SessionView → Type 0) (limit number : ℕ) (first last : Turn W A) (some : 1 ≤ number) (most : number ≤ max 1 limit) (turns : InTurn (Retries does) (number - 1) first last) where
  pub is_committed : (version : ℕ) (db : DatabaseView) → IsCommit last.tx version last.database db → IsCompleted does limit first (Ok (last.answer, version)) last.work db
  is_committed version db commit = (number - 1, omega (arith, some, most), (last, turns, refl, refl, commit))

  module _ (why : NotCommitted) (db : DatabaseView) (refused : IsNotCommitted why last.tx last.database db) (ended : Ended) (told : ended ≡ ended_uncommitted why) (next : Next) (again : (next ≡ nexts.Again) ↔ ((number < limit) × MayTryAgain ended false)) where
    pub gave_up : next ≢ nexts.Again → IsCompleted does limit first (Err (undone.NotCommitted why)) last.work db
    gave_up not = (
      number - 1,
      omega (arith, some, most),
      (
        last,
        turns,
        refl,
        refused,
        λ follows.
            let no_more : limit ≤ number = above limit number (nat_lt number limit) refl (λ below. not (again.1 (below, subst (λ (e : Ended). MayTryAgain e false) (sym told) follows))) in
            omega (arith, some, most, no_more),
      ),
    )

    may : next ≡ nexts.Again → MayTryAgain (ended_uncommitted why) false
    may is = subst (λ (e : Ended). MayTryAgain e false) told (again.0 is).1

    pub had_no_other : next ≡ nexts.Again → (error : Error) (work : W) → IsNoAttempt does db last.work error work → IsCompleted does limit first (Err (undone.Refused error)) work db
    had_no_other is error work none = (number - 1, omega (arith, some, most), (last, turns, (why, may is, refused), none))

    pub had_another : next ≡ nexts.Again → (answer : A) (tx : CommitRequest) (work : W) → IsAttempt does db last.work answer tx work → InTurn (Retries does) (number + 1 - 1) first (record { database = db; work = work; answer = answer; tx = tx })
    had_another is answer tx work attempt = one_more (Retries does) number first last (record { database = db; work = work; answer = answer; tx = tx }) some turns ((why, may is, refused), attempt)
