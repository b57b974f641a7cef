use Rattle.std.proofs.Common.{◌≡◌, take}
use Rattle.explain.specs.Planning.{asked_states}
use Rattle.explain.proofs.planning.index_states.Given as goal

abbrev pub invariant-loop-index : goal.invariant-loop-index
invariant-loop-index l = l.made.items ≡ asked_states l.states (take l.index-index l.indexes)
