use Rattle.std.proofs.Common.{◌≡◌, [], drop}
use Rattle.cluster_core.specs.Configuration.{is_rising_above}
use Rattle.cluster_core.proofs.config.are_rising.Given as goal

-- the keys that are left rise above the last one where all rise
abbrev pub invariant-loop-split : goal.invariant-loop-split
invariant-loop-split l = is_rising_above l.last (drop l.split-index l.splits) ≡ is_rising_above [] l.splits
