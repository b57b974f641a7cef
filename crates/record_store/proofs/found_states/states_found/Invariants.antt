use Rattle.std.proofs.Common.{take}
use Rattle.record_store.specs.Reading.{AreStates}
use Rattle.record_store.proofs.found_states.states_found.Given as goal

abbrev pub invariant-loop-pair : goal.invariant-loop-pair
invariant-loop-pair l = AreStates l.prefix l.indexes (take l.pair-index l.pairs) l.states.items
