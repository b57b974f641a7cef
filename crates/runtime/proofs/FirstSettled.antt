-- What the first of a worker's lost submissions comes to, once the client has asked for it.
use Rattle.std.proofs.Common.{◌≡◌, ℕ, ◌<◌, ◌≤◌, Bool, true, false, Option, Some, None, List, ◌∷◌, refl, sym, ◌∙◌, subst, arith}
use Rattle.runtime.specs.declared.answers.RunError.{RunError}
use Rattle.runtime.specs.declared.answers.RunError.TheVariants as runs
use Rattle.runtime.specs.declared.worker_progress.Progress.{Progress}
use Rattle.runtime.specs.declared.worker_progress.Unsettled.{Unsettled}
use Rattle.runtime.specs.Builds.{HasAsked, IndexIn}
use Rattle.runtime.specs.Clients.{Knowledge}
use Rattle.runtime.specs.Logs.{is_once}
use Rattle.runtime.specs.Runs.{GoesOnFrom}
use Rattle.runtime.specs.Settles.{AskingEnds, HasCounted, IsProgress, IsSettledUpto, IsUnsettled, IsWithheld, NoneStands, Overflows, TellsOne}
use Rattle.runtime.proofs.Settling.{progress_same}
use Rattle.runtime.proofs.Unsettled.{asked_follows, asked_last, asked_self, first_above, first_committed, first_ends, first_gives_up, first_last, first_open, first_refused, first_too_much, kept}

above_zero : (low one : ℕ) → low < one → 1 ≤ one
above_zero low one lt = omega (arith, lt)

below : {top low high : ℕ} → top ≤ low → high ≡ low → top ≤ high
below le same = omega (arith, le, same)

module _ (index : IndexIn) (old a b : Knowledge) (top : ℕ) (p : Progress) (one : Unsettled) (others : List Unsettled) (asked : HasAsked a b) (is : IsProgress index old a top p) (items : p.lost.items ≡ one ∷ others) where
  -- what is told of a number that was given
  abbrev IfGiven : Type 0 → Type 0
  IfGiven Tells = IsUnsettled index a one → 1 ≤ one.number → one.number ≤ a.last → Tells

  told_first : {Tells : Type 0} → IfGiven Tells → Tells
  told_first tells =
      let self : GoesOnFrom a a = asked_follows a a (asked_self a) in
      tells (first_open index old a a top p one others self refl is items).1
      (above_zero old.last one.number (first_above index old a a top p one others self refl is items))
      (first_last index old a a top p one others self refl is items)

  -- nothing is told of it
  pub first_withheld : (error : RunError) → IfGiven (IsWithheld b one.number error) → AskingEnds index old b error
  first_withheld error tells = first_ends index old a b top p one others (asked_follows a b asked) (asked_last a b asked) is items error (told_first tells)

  module _ (once : is_once b.log ≡ true) (told : Option Bool) (tells : IfGiven (TellsOne b one told)) where
    tells_so : (other : Option Bool) → told ≡ other → TellsOne b one other
    tells_so other same = subst (TellsOne b one) same (told_first tells)

    -- it isn't decided
    pub first_pending : (q : Progress) → told ≡ None → q.built ≡ p.built → q.marked ≡ p.marked → q.lost.items ≡ p.lost.items → IsSettledUpto index old b top q
    first_pending q same built marked lost = (
      progress_same index old b top p q built marked lost (kept index old a b top p (asked_follows a b asked) once (below is.last (asked_last a b asked)) is),
      subst (NoneStands b) (sym (lost ∙ items)) (tells_so None same),
    )

    -- it is refused
    pub first_dropped : (q : Progress) → told ≡ Some false → q.lost.items ≡ others → q.built ≡ p.built → q.marked ≡ p.marked → IsProgress index old b top q
    first_dropped q same rest built marked = first_refused index old a b top p one others (asked_follows a b asked) (asked_last a b asked) once is items q rest (tells_so (Some false) same) built marked

    -- it is committed
    pub first_counted : (q : Progress) → told ≡ Some true → q.lost.items ≡ others → HasCounted one.round p q → IsProgress index old b top q
    first_counted q same rest has = first_committed index old a b top p one others (asked_follows a b asked) (asked_last a b asked) once is items q rest (tells_so (Some true) same) has

    -- and the numbers don't suffice for it
    pub first_overflows : (error : RunError) → told ≡ Some true → error ≡ runs.GaveUp → Overflows p.built one.round → AskingEnds index old b error
    first_overflows error same gives_up over =
        first_gives_up index old a b top p one others (asked_follows a b asked) (asked_last a b asked) is items error gives_up
        (first_too_much index old a b top p one others (asked_follows a b asked) (asked_last a b asked) once is items (tells_so (Some true) same) over)
