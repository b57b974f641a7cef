use Rattle.std.proofs.Common.{◌<◌, arith, ap, ◌∙◌, ◌∷◌, Some}
use Rattle.atomic_table.specs.Table.{rest}
use Rattle.runtime.proofs.CommitLocks.{gives_at}
use Rattle.runtime.proofs.commit_lock.CommitLock.put.Goals as goal

pub store-requires : goal.store-requires
store-requires g c =
    let sized = c.args.self.now.sized in
    let some : 0 < c.args.self.now.table.shared.table_id.words = omega (arith, sized.0) in
    let e = c.exchange.ensures in
    let old = c.args.key.now.me in
    (e.0 ∙ c.requires.key.0, some, gives_at g.T.Lockable.name g.T.Lockable.last _ _ _ _ old.0 c.args.value (e.3 ∙ ap (λ l. (old.0, (0, Some c.args.value) ∷ rest l)) c.requires.key.1) c.requires.name c.requires.numbers)
