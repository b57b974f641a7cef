use Rattle.std.proofs.Common.{◌≡◌, map, take}
use Rattle.tuple_codec.specs.Elements.{items_in}
use Rattle.metadata.specs.Written.{index_item}
use Rattle.metadata.proofs.writing.indexes_element.Given as goal

abbrev pub invariant-loop-index : goal.invariant-loop-index
invariant-loop-index l = items_in l.parts.items ≡ map (index_item l.second) (take l.index-index l.indexes)
