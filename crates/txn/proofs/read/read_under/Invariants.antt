use Rattle.std.proofs.Common.{◌≤◌}
use Rattle.kv_core.specs.Map.{Map}
use Rattle.txn.specs.Own.{IsUnder, own_state}
use Rattle.txn.specs.Reading.{IsReadSoFar, IsRestOf, left_count}
use Rattle.txn.proofs.read.read_under.Given as goal

-- the pairs so far are the read, or its beginning, and what is left is a part of the range with fewer stored pairs
abbrev pub invariant-loop-rest : goal.invariant-loop-rest
invariant-loop-rest g l =
    let base = g.S.Snapshot.map_at l.db l.version in
    (l.limit ≤ l.asked) × IsRestOf base l.range l.limit l.pairs.items l.rest
    × ((m : Map) → IsUnder (own_state l.own) base m → IsReadSoFar m l.range l.limit l.reverse l.pairs.items l.rest)
    × (g.S.Snapshot.must_refuse l.db l.range l.version → ⊥)

abbrev pub decreases-loop-rest : goal.decreases-loop-rest
decreases-loop-rest g l = left_count (g.S.Snapshot.map_at l.db l.version) l.rest
