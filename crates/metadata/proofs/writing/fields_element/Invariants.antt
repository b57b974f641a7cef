use Rattle.std.proofs.Common.{◌≡◌, map, take}
use Rattle.tuple_codec.specs.Elements.{items_in}
use Rattle.metadata.specs.Written.{field_item}
use Rattle.metadata.proofs.writing.fields_element.Given as goal

abbrev pub invariant-loop-field : goal.invariant-loop-field
invariant-loop-field l = items_in l.parts.items ≡ map field_item (take l.field-index l.fields)
