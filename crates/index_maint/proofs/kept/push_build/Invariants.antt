use Rattle.std.proofs.Common.{◌≡◌, ◌++◌, take}
use Rattle.index_maint.specs.Kept.{build_writes}
use Rattle.index_maint.proofs.kept.push_build.Given as goal

abbrev pub invariant-loop-one : goal.invariant-loop-one
invariant-loop-one l = l.mutations.items ≡ l.fn.mutations.items ++ build_writes l.prefix l.index (take l.one-index l.records)
