use Rattle.std.proofs.Common.{◌≡◌, ◌++◌, drop}
use Rattle.std.specs.Option.{option_map}
use Rattle.tuple_codec.specs.Elements.{items_in}
use Rattle.metadata.specs.Reading.{all_read}
use Rattle.command_log.proofs.part.list_of.Given as goal

-- with what is still to be read, the parts so far are what all elements are
abbrev pub invariant-loop-element : goal.invariant-loop-element
invariant-loop-element g l = option_map (λ rest. l.parts.items ++ rest) (all_read g.P.Part.read (items_in (drop l.element-index l.elements))) ≡ all_read g.P.Part.read (items_in l.elements)
