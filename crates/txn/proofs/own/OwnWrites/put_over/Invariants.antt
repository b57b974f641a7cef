use Rattle.std.proofs.Common.{◌≡◌}
use Rattle.txn.specs.Own.{laid_over}
use Rattle.txn.proofs.own.OwnWrites.put_over.Given as goal

-- the pairs that are left, put over the map so far, make of it what all make of the first one
abbrev pub invariant-loop-key : goal.invariant-loop-key
invariant-loop-key l =
    (goal.iterator-loop-key).can_next l.key-iterator × (goal.iterator-loop-key).is_finite l.key-iterator
    × (laid_over l.self.sums.entries l.key-iterator.rest.items l.laid ≡ laid_over l.self.sums.entries l.fn.pairs.items l.fn.map)
