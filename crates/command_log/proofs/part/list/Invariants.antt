use Rattle.std.proofs.Common.{◌≡◌, All, map, take}
use Rattle.tuple_codec.specs.Elements.{items_in}
use Rattle.command_log.proofs.part.list.Given as goal

-- the elements so far are those of the first parts
abbrev pub invariant-loop-part : goal.invariant-loop-part
invariant-loop-part g l = (items_in l.elements.items ≡ map g.P.Part.item (take l.part-index l.parts)) × All g.P.Part.is (take l.part-index l.parts)
