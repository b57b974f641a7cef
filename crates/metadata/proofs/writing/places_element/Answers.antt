use Rattle.metadata.proofs.WrittenDepth.{shallow-numbers}
use Rattle.metadata.proofs.writing.places_element.Goals as goal

pub nested-requires : goal.nested-requires
nested-requires c = shallow-numbers c.loop-place.parts.items _ c.loop-place.invariant
