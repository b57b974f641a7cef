use Rattle.std.specs.Prelude.{◌+◌, ◌<◌, List, length}
use Rattle.std.specs.FinMap.{entries}
use Rattle.metadata.specs.Layout.{Pair}
use Rattle.txn.specs.Reads.{seen}
use Rattle.plan_exec.specs.Course.{joined}
use Rattle.plan_exec.specs.Levels.{head_then, joined_levels}
use Rattle.plan_exec.proofs.Courses.{things}
use Rattle.plan_exec.proofs.Levels.{HasReadOn, of_stream}
use Rattle.plan_exec.proofs.joined.+next_joined.Given as goal

abbrev pub decreases-next_joined : goal.decreases-next_joined
decreases-next_joined g l = length l.levels.now

-- of the two courses both were read so far
abbrev pub invariant-heads : goal.invariant-heads
invariant-heads g l = record {
  more : 0 < length l.rest;
  come :
      HasReadOn (g.S.Snapshot.map_at l.db) (joined_levels g.R.Stream.course g.R.Found.Keyed.key l.fn.levels)
      (λ pairs. joined g.R.Found.Keyed.key g.R.Found.Keyed.key (of_stream g.R.Stream.course l.level pairs)
      (head_then l.level.other (joined_levels g.R.Stream.course g.R.Found.Keyed.key l.rest pairs))) l.fn.tx l.tx;
}

-- how many things both have still to find in the map
abbrev pub decreases-heads : goal.decreases-heads
decreases-heads g l =
    let pairs : List Pair = entries (seen l.tx (g.S.Snapshot.map_at l.db l.tx.read_version)) in
    length (things (of_stream g.R.Stream.course l.level pairs))
    + length (things (head_then l.level.other (joined_levels g.R.Stream.course g.R.Found.Keyed.key l.rest pairs)))
