use Rattle.std.proofs.Common.{◌≡◌, ◌+◌, ◌*◌, [], ◌∷◌, map}
use Rattle.query.specs.View.{filter_of}
use Rattle.plan_exec.specs.Rows.{chained_levels, first_rows, kept_rows, level_of, weights}
use Rattle.plan_exec.specs.Streams.{HasOnlyRead}
use Rattle.plan_exec.proofs.Streaming.{count_left}
use Rattle.plan_exec.proofs.rows.+rows.Given as goal

-- the parts of a step weigh less than its rows, and of the functions for a step's parts each calls one that goes on with
-- fewer parts, or stands below it
abbrev pub decreases-next_row : goal.decreases-next_row
decreases-next_row g l = 4 * weights l.parts.now + 3

abbrev pub decreases-next_chained : goal.decreases-next_chained
decreases-next_chained g l = 4 * weights l.parts.now + 1

abbrev pub decreases-next_kept : goal.decreases-next_kept
decreases-next_kept g l = 4 * weights l.parts.now + 2

abbrev pub decreases-next_first : goal.decreases-next_first
decreases-next_first g l = 4 * weights l.parts.now + 2

abbrev pub decreases-find_head : goal.decreases-find_head
decreases-find_head g l = 4 * weights (l.part.now ∷ [])

abbrev pub decreases-next_merged : goal.decreases-next_merged
decreases-next_merged g l = 4 * weights l.parts.now + 1

-- the parts weigh as much as before, and the rows have gone on by reads alone
abbrev pub invariant-next_kept-loop-row : goal.invariant-next_kept-loop-row
invariant-next_kept-loop-row g l =
    (weights l.parts ≡ weights l.fn.parts)
    × HasOnlyRead (g.S.Snapshot.map_at l.db) (kept_rows (filter_of l.fn.condition) (map level_of l.fn.parts)) (kept_rows (filter_of l.condition) (map level_of l.parts)) l.fn.tx l.tx

abbrev pub decreases-next_kept-loop-row : goal.decreases-next_kept-loop-row
decreases-next_kept-loop-row g l = count_left (g.S.Snapshot.map_at l.db) (chained_levels (map level_of l.parts)) l.tx

abbrev pub invariant-next_first-loop-row : goal.invariant-next_first-loop-row
invariant-next_first-loop-row g l =
    (weights l.parts ≡ weights l.fn.parts)
    × HasOnlyRead (g.S.Snapshot.map_at l.db) (first_rows l.fn.seen (map level_of l.fn.parts)) (first_rows l.seen (map level_of l.parts)) l.fn.tx l.tx

abbrev pub decreases-next_first-loop-row : goal.decreases-next_first-loop-row
decreases-next_first-loop-row g l = count_left (g.S.Snapshot.map_at l.db) (chained_levels (map level_of l.parts)) l.tx
