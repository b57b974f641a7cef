use Rattle.metadata.proofs.WrittenDepth.{shallow-types}
use Rattle.metadata.proofs.writing.types_element.Goals as goal

pub nested-requires : goal.nested-requires
nested-requires c = shallow-types c.loop-definition.parts.items c.args.second _ c.loop-definition.invariant
