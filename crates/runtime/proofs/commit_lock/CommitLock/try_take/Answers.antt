use Rattle.std.proofs.Common.{◌<◌, arith, ◌∙◌, sym, ap, ◌∷◌, Option, Some}
use Rattle.runtime.specs.declared.commit_lock.KeyHolder.{KeyHolder}
use Rattle.atomic_table.specs.Table.{rest, Me}
use Rattle.runtime.proofs.CommitLocks.{takes_at}
use Rattle.runtime.proofs.commit_lock.CommitLock.try_take.Goals as goal

pub compare_exchange-found-requires : goal.compare_exchange-found-requires
compare_exchange-found-requires g c =
    let sized = c.args.self.now.sized in
    let some : 0 < c.args.self.now.table.shared.table_id.words = omega (arith, sized.0) in
    (c.requires.0, some, takes_at g.T.Lockable.name g.T.Lockable.last _ _ _ _ c.requires.1)

pub exchange-requires : goal.exchange-requires
exchange-requires g c =
    let e = c.compare_exchange-found.ensures in
    let x = e.2.0 c.if-found-ne0.false in
    let slots = ap (λ (z : Me (Option g.row.T.Denot) (KeyHolder g.row.T.Denot)). z.1) x.1 in
    (e.0 ∙ c.requires.0, (Some x.0, slots ∙ sym (ap (λ l. (0, Some x.0) ∷ rest l) slots)))
