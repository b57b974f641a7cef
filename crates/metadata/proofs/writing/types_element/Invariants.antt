use Rattle.std.proofs.Common.{◌≡◌, map, take}
use Rattle.tuple_codec.specs.Elements.{items_in}
use Rattle.metadata.specs.Written.{type_item}
use Rattle.metadata.proofs.writing.types_element.Given as goal

abbrev pub invariant-loop-definition : goal.invariant-loop-definition
invariant-loop-definition l = items_in l.parts.items ≡ map (type_item l.second) (take l.definition-index l.types)
