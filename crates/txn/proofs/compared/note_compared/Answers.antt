use Rattle.std.proofs.Common.{◌≡◌, ◌++◌, ◌∷◌, ◌∙◌, [], Some, ap, unwrap_or}
use Rattle.txn.proofs.Comparing.{noted_more}
use Rattle.txn.proofs.compared.note_compared.Goals as goal
use Rattle.txn.proofs.compared.note_compared.Goals.{in-Some, in-None}

pub returns : goal.returns
returns c =
    let taken : c.match-remove.mutations ≡ unwrap_or c.remove.result [] =
    elim c.match-remove.branch [
      | in-Some w ↦ w.mutations-is ∙ ap (λ o. unwrap_or o []) (Rattle.std.proofs.Common.sym w.in-Some.is)
      | in-None w ↦ w.mutations-is ∙ w.new-mutations.ensures ∙ w.new.ensures.items ∙ ap (λ o. unwrap_or o []) (Rattle.std.proofs.Common.sym w.in-None.is)
    ] in
    noted_more c.args.compared.now c.remove.new.self c.insert.new.self c.args.key.now c.in_ok-copy-2.field-0 c.remove.result c.push.new.self c.args.mutation.now c.remove.ensures.value
    (c.in_ok-push.ensures.ok ∙ (λ i. taken i ++ c.in_ok-copy.ensures i ∷ [])) c.in_ok-copy-2.ensures c.remove.ensures.updates.0 c.in_ok-insert.ensures.updates.0
