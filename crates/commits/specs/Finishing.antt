-- A version that stands submitted and isn't reported, since memory ran out.
use Rattle.std.specs.Prelude.{◌≡◌, ◌+◌}
use Rattle.cluster_core.specs.Roles.{PipelineState, all_handled, submitted}

-- of all versions that were given just the last one isn't reported
abbrev pub IsUnfinished : PipelineState → Type 0
IsUnfinished p = submitted p ≡ p.reported + 1

-- roles have gone on with what was submitted before; nothing else is submitted, and nothing reported
abbrev pub HasGoneOn : PipelineState → PipelineState → Type 0
HasGoneOn old new = (all_handled new ≡ all_handled old) × (new.reported ≡ old.reported)
