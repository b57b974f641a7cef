use Rattle.std.proofs.Common.{map, take}
use Rattle.record_store.specs.BuiltReading.{position_in}
use Rattle.record_store.specs.Reading.{HasReadBuilt}
use Rattle.record_store.proofs.store.Store.read_built.Given as goal

abbrev pub invariant-loop-index : goal.invariant-loop-index
invariant-loop-index g l = HasReadBuilt (g.S.Snapshot.map_at l.db) l.self l.number (position_in l.self.prefix l.number l.key) (take l.index-index l.index-items) (map (λ pairs. pairs.items) l.found.items) l.fn.tx l.tx
