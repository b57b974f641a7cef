use Rattle.metadata.proofs.WrittenDepth.{shallow-indexes}
use Rattle.metadata.proofs.writing.indexes_element.Goals as goal

pub nested-requires : goal.nested-requires
nested-requires c = shallow-indexes c.loop-index.parts.items c.args.second _ c.loop-index.invariant
