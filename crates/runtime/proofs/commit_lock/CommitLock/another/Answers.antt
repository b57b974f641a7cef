use Rattle.std.proofs.Common.{◌<◌, arith}
use Rattle.runtime.proofs.CommitLocks.{vault_splits}
use Rattle.runtime.proofs.commit_lock.CommitLock.another.Goals as goal

pub split_seat-requires : goal.split_seat-requires
split_seat-requires g c =
    let sized = c.args.self.now.sized in
    let some : 0 < c.args.self.now.table.shared.table_id.words = omega (arith, sized.0) in
    (c.requires.0, some, vault_splits g.T.Lockable.name g.T.Lockable.last _ _ _ c.requires.2)
