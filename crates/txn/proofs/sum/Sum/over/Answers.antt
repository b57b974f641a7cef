use Rattle.std.proofs.Common.{◌≡◌, ◌∙◌, ap, sym, Some, [], unwrap_or}
use Rattle.std.specs.Option.{option_copied}
use Rattle.txn.specs.Own.{sum_over}
use Rattle.txn.proofs.OneMore.{from_nothing}
use Rattle.txn.proofs.sum.Sum.over.Goals as goal
use Rattle.txn.proofs.sum.Sum.over.Goals.{in-Some+in_ok-value-in-Some, in-None}

pub returns : goal.returns
returns c =
    let value : c.match-before.value ≡ unwrap_or (option_copied c.args.before) [] =
    elim c.match-before.branch [
      | in-Some+in_ok-value-in-Some w ↦ w.value-is ∙ w.in_ok-value-in-Some.ensures ∙ ap (λ o. unwrap_or (option_copied o) []) (sym w.in-Some.is)
      | in-None w ↦ w.value-is ∙ w.new-value.ensures ∙ w.new.ensures.items ∙ ap (λ o. unwrap_or (option_copied o) []) (sym w.in-None.is)
    ] in
    c.in_ok-sum.ensures ∙ (λ i. sum_over ((c.as_slice.ensures.value ∙ c.self.view_is) i) (Some (value i))) ∙ from_nothing c.args.self.now (option_copied c.args.before)
