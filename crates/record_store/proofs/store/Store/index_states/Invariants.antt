use Rattle.std.proofs.Common.{◌≡◌, map, take}
use Rattle.record_store.specs.Store.{state_in}
use Rattle.record_store.proofs.store.Store.index_states.Given as goal

abbrev pub invariant-loop-index : goal.invariant-loop-index
invariant-loop-index l =
    l.made.items ≡ map (λ index. (index.number, state_in l.self.states index.number)) (take l.index-index l.self.schema.indexes)
