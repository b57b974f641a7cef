use Rattle.std.proofs.Common.{◌≡◌, drop, map}
use Rattle.std.specs.Prelude.{◌↔◌}
use Rattle.tuple_codec.specs.Elements.{items_in}
use Rattle.metadata.proofs.same_form.are_in.Given as goal

abbrev pub invariant-loop-item : goal.invariant-loop-item
invariant-loop-item g l = (items_in l.rest ≡ map (g.T.Written.item l.second) (drop l.item-index l.items)) ↔ (items_in l.elements ≡ map (g.T.Written.item l.second) l.items)
