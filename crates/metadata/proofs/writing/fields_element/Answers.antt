use Rattle.metadata.proofs.WrittenDepth.{shallow-fields}
use Rattle.metadata.proofs.writing.fields_element.Goals as goal

pub nested-requires : goal.nested-requires
nested-requires c = shallow-fields c.loop-field.parts.items _ c.loop-field.invariant
