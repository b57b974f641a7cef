use Rattle.std.proofs.Common.{◌≡◌, ◌++◌}
use Rattle.std.specs.Option.{option_map}
use Rattle.std.specs.Vec.Iter.{into_iter_items}
use Rattle.tuple_codec.specs.Elements.{items_in}
use Rattle.metadata.specs.Cell.{cells_of}
use Rattle.metadata.proofs.cells.Cells.from_tuple.Given as goal

abbrev pub invariant-loop-element : goal.invariant-loop-element
invariant-loop-element l = record {
  can_next : (goal.iterator-loop-element).can_next l.element-iterator;
  is_finite : (goal.iterator-loop-element).is_finite l.element-iterator;
  rest : option_map (λ cells. l.cells.items ++ cells) (cells_of (items_in (into_iter_items l.element-iterator))) ≡ cells_of l.fn.tuple;
}
