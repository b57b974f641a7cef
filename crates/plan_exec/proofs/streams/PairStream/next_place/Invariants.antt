use Rattle.txn.specs.Reads.{seen}
use Rattle.plan_exec.specs.Streams.{HasOnlyRead, pair_course}
use Rattle.plan_exec.proofs.InBatches.{left_count}
use Rattle.plan_exec.proofs.streams.PairStream.next_place.Given as goal

-- the stream has gone on by reads alone
abbrev pub invariant-loop-self : goal.invariant-loop-self
invariant-loop-self g l = HasOnlyRead (g.S.Snapshot.map_at l.db) (pair_course l.fn.self) (pair_course l.self) l.fn.tx l.tx

abbrev pub decreases-loop-self : goal.decreases-loop-self
decreases-loop-self g l = left_count (seen l.tx (g.S.Snapshot.map_at l.db l.tx.read_version)) l.self.cursor
