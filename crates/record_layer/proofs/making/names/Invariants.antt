use Rattle.std.proofs.Common.{◌≡◌, take}
use Rattle.record_layer.specs.Making.{names_of}
use Rattle.record_layer.proofs.making.names.Given as goal

abbrev pub invariant-loop-text : goal.invariant-loop-text
invariant-loop-text l = l.names.items ≡ names_of (take l.text-index l.texts)
