use Rattle.std.proofs.Common.{◌≡◌, take}
use Rattle.record_store.specs.Store.{listed_by, altered_at, state_in}
use Rattle.record_store.proofs.store.Store.listed_with.Given as goal

abbrev pub invariant-loop-index : goal.invariant-loop-index
invariant-loop-index l = l.states.items ≡ listed_by (take l.index-index l.indexes) (altered_at l.number l.state (state_in l.self.states))
