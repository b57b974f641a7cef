use Rattle.std.proofs.Common.{◌≡◌, ◌++◌, drop}
use Rattle.std.specs.Option.{option_map}
use Rattle.tuple_codec.specs.Elements.{items_in}
use Rattle.metadata.specs.Reading.{all_read, first_of}
use Rattle.metadata.proofs.reading.firsts_of.Given as goal

abbrev pub invariant-loop-element : goal.invariant-loop-element
invariant-loop-element l = option_map (λ rest. l.firsts.items ++ rest) (all_read first_of (items_in (drop l.element-index l.elements))) ≡ all_read first_of (items_in l.elements)
