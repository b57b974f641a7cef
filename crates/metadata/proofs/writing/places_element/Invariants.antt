use Rattle.std.proofs.Common.{◌≡◌, map, take}
use Rattle.tuple_codec.specs.Elements.{items_in}
use Rattle.metadata.specs.Written.{number_item}
use Rattle.metadata.proofs.writing.places_element.Given as goal

abbrev pub invariant-loop-place : goal.invariant-loop-place
invariant-loop-place l = items_in l.parts.items ≡ map number_item (take l.place-index l.places)
