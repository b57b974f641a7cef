use Rattle.std.proofs.Common.{◌≡◌, map, take}
use Rattle.record_layer.specs.Making.{field_with}
use Rattle.record_layer.proofs.making.fields.Given as goal

abbrev pub invariant-loop-name : goal.invariant-loop-name
invariant-loop-name l = l.fields.items ≡ map field_with (take l.name-index l.list)
