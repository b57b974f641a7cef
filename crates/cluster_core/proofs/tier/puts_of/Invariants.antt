use Rattle.std.proofs.Common.{◌≡◌, length}
use Rattle.std.specs.FinMap.{empty, from_entries}
use Rattle.kv_core.specs.Map.{after_all}
use Rattle.kv_core.proofs.Stored.{put_before}
use Rattle.cluster_core.proofs.tier.puts_of.Given as goal

-- the pairs that are left, put before what the mutations so far make, are all pairs
abbrev pub invariant-loop-key : goal.invariant-loop-key
invariant-loop-key l = put_before l.rest.items (after_all l.mutations.items empty) ≡ from_entries l.fn.pairs.items

abbrev pub decreases-loop-key : goal.decreases-loop-key
decreases-loop-key l = length l.rest.items
