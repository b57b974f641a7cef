-- What is so after one more call on a file.
use Rattle.std.proofs.Common.{ℕ, List, ◌∷◌, sym, subst}
use Rattle.journal_file.specs.Files.{NotedCall, unmade, may_leave}
use Rattle.journal_file.specs.Histories.{HasGone}
use Rattle.journal_file.specs.declared.history.History.{History}

-- what is so of the calls with one more is so of the new history
pub on : (P : List ℕ → List NotedCall → Type 0) (old new : History) (e : NotedCall) → HasGone old new e → P old.first (e ∷ old.calls) → P new.first new.calls
on P old new e gone here =
    subst (λ (es : List NotedCall). P new.first es) (sym gone.calls) (subst (λ (first : List ℕ). P first (e ∷ old.calls)) (sym gone.first) here)

-- a call that isn't made leaves what was left before
pub crash_refused : (old new : History) → HasGone old new unmade → (c : List ℕ) → may_leave new.first new.calls c → may_leave old.first old.calls c
crash_refused old new gone =
    on (λ first es. (c : List ℕ) → may_leave first es c → may_leave old.first old.calls c) old new unmade gone (λ c left. left)
