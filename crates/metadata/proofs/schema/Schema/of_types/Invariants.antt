use Rattle.std.proofs.Common.{◌≡◌}
use Rattle.std.specs.Vec.Iter.{into_iter_items}
use Rattle.metadata.specs.Change.{add_types, schema_of}
use Rattle.metadata.proofs.schema.Schema.of_types.Given as goal

abbrev pub invariant-loop-one : goal.invariant-loop-one
invariant-loop-one l = record {
  can_next : (goal.iterator-loop-one).can_next l.one-iterator;
  is_finite : (goal.iterator-loop-one).is_finite l.one-iterator;
  rest : add_types l.schema (into_iter_items l.one-iterator) ≡ schema_of l.fn.types.items;
}
