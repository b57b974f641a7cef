use Rattle.std.proofs.Common.{take}
use Rattle.record_store.specs.Reading.{ArePairsOfRecords}
use Rattle.record_store.proofs.scan.records_in.Given as goal

abbrev pub invariant-loop-pair : goal.invariant-loop-pair
invariant-loop-pair l = ArePairsOfRecords l.place l.definition (take l.pair-index l.pairs) l.records.items
