use Rattle.std.proofs.Common.{◌≡◌, ◌++◌, drop}
use Rattle.cluster_core.specs.Decision.{owners, owners_from}
use Rattle.cluster_core.proofs.part.parts_between.Given as goal

-- the parts so far, and those between the splits that are left, are all
abbrev pub invariant-loop-split : goal.invariant-loop-split
invariant-loop-split l = l.parts.items ++ owners_from l.from (drop l.split-index l.splits) ≡ owners l.splits
