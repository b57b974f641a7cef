-- The exchange that adds an entry keeps the rule of the history.
use Rattle.std.proofs.Common.{◌≡◌, ℕ, ◌+◌, ◌<◌, ◌==◌, Bool, true, false, List, [], ◌∷◌, ◌++◌, length, None, inl, refl, sym, ap, ◌∙◌, subst, arith, append-nil, length-append}
use Rattle.std.specs.Prelude.{MatchBool}
use Rattle.std.proofs.lemmas.Bool.{eqb-true}
use mathlib.Core.List.{IsPrefix}
use prog.Atomic.{either}
use Rattle.logbook.specs.Pages.{Cell, Nib, Moves, Goes, cell, step, keeps}
use Rattle.runtime.specs.declared.log_entry.Entry.{Entry}
use Rattle.runtime.specs.History.{IsBook, Adds}
use Rattle.runtime.proofs.Beginnings.{prefix_whole}

abbrev Nowhere : List Entry → List Entry → ℕ → Type 0
Nowhere xs ys n = Unit {0}

abbrev shows : List Entry → List Entry
shows log = []

abbrev cells_of : List Entry → List Cell
cells_of log = (length log, true) ∷ (0, true) ∷ []

module _ (count : ℕ) (ask : Entry) (v : List Entry) (p : Nib) (is : count ≡ length v) where
  abbrev after : ℕ → ℕ
  after n = either (n == count) (count + 1) n

  goes : (log : List Entry) → IsPrefix v log → (b : Bool) → (length log == count) ≡ b → Goes {A = ℕ} IsBook shows Nowhere 0 (v, (p, None)) after (Adds (step 0 count (count + 1) ask) (v, (p, None))) (cells_of log) log
  goes log begins true found =
      let same : length log ≡ count = eqb-true (length log) count found in
      let whole : v ≡ log = prefix_whole v log begins (omega (arith, same, is)) in
      let longer : count + 1 ≡ length (log ++ ask ∷ []) = omega (arith, length-append log (ask ∷ []), same) in (
        keeps,
        ask ∷ [],
        None,
        tt,
        record { words = ap (λ (b : Bool). (either b (count + 1) (length log), true) ∷ (0, true) ∷ []) found ∙ ap (λ (n : ℕ). (n, true) ∷ (0, true) ∷ []) longer },
        inl (refl, refl),
        subst (λ (b : Bool). MatchBool b (log ++ ask ∷ [] ≡ v ++ ask ∷ []) (length (log ++ ask ∷ []) ≡ length log)) (sym found) (ap (λ (l : List Entry). l ++ ask ∷ []) (sym whole)),
      )
  goes log begins false found = (
    keeps,
    [],
    None,
    tt,
    record { words = ap (λ (b : Bool). (either b (count + 1) (length log), true) ∷ (0, true) ∷ []) found ∙ ap (λ (l : List Entry). cells_of l) (sym (append-nil log)) },
    inl (refl, refl),
    subst (λ (b : Bool). MatchBool b (log ++ [] ≡ v ++ ask ∷ []) (length (log ++ []) ≡ length log)) (sym found) (ap length (append-nil log)),
  )

  pub adds : Moves {A = ℕ} IsBook shows Nowhere 0 (v, (p, None)) after (Adds (step 0 count (count + 1) ask) (v, (p, None)))
  adds cs log kept begins away =
      subst (λ (c : List Cell). (0 < length c) × ((cell c 0).1 ≡ true) × Goes {A = ℕ} IsBook shows Nowhere 0 (v, (p, None)) after (Adds (step 0 count (count + 1) ask) (v, (p, None))) c log) (sym kept.words)
      (omega arith, refl, goes log begins (length log == count) refl)
