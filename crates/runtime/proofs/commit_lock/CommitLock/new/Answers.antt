use Rattle.std.proofs.Common.{◌≡◌, List, [], ◌∷◌, ◌++◌, Option, Some, sym, ap, ◌∙◌, subst}
use Rattle.atomic_table.specs.Table.{opening}
use Rattle.runtime.specs.CommitLocks.{Locked, opener}
use Rattle.runtime.proofs.CommitLocks.{vault_opens}
use Rattle.runtime.proofs.commit_lock.CommitLock.new.Goals as goal

pub new-requires : goal.new-requires
new-requires g c =
    let about = c.of-about.result in
    let items : c.push_reserved.new.self.items ≡ Some c.args.value ∷ [] = c.push_reserved.ensures.items ∙ ap (λ (l : List (Option g.row.T.Denot)). l ++ Some c.args.value ∷ []) c.in_ok-slots.ensures.items in
    subst (λ (l : List (Option g.row.T.Denot)). Locked g.T.Lockable.name g.T.Lockable.last about (opening (0 ∷ []) l (opener about))) (sym items) (vault_opens g.T.Lockable.name g.T.Lockable.last about c.args.value (sym c.of-about.ensures) c.requires)
