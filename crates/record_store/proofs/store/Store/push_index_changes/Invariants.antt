use Rattle.std.proofs.Common.{map, take}
use Rattle.std.specs.Option.{option_copied}
use Rattle.record_store.specs.BuiltReading.{position_in}
use Rattle.record_store.specs.Reading.{HaveFollowed}
use Rattle.record_store.proofs.store.Store.push_index_changes.Given as goal

abbrev pub invariant-loop-at : goal.invariant-loop-at
invariant-loop-at l = HaveFollowed l.self l.number (position_in l.self.prefix l.number l.key) (option_copied l.old) (option_copied l.new) (map (λ pairs. pairs.items) l.found) (take l.at l.self.schema.indexes) l.fn.mutations.items l.mutations.items
