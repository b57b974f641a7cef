use Rattle.std.proofs.Common.{◌+◌, ◌<◌, ◌≤◌, arith, rules}
use Rattle.tuple_codec.specs.Item.{item_depth, nesting}
use Rattle.tuple_codec.specs.Elements.{item_in as item_of, items_in}
use Rattle.json_forms.proofs.Each.{depth_pushed}
use Rattle.json_forms.proofs.Labels.{at_levels}
use Rattle.json_forms.proofs.TupleForms.{nests_at, nested_stands, values_more}
use Rattle.json_forms.proofs.tuple_json.+write.Goals as goal

pub element_value-returns-in-Bytes-clause-read : goal.element_value-returns-in-Bytes-clause-read
element_value-returns-in-Bytes-clause-read n c = rw (c.in-Bytes.is, ← c.as_slice.ensures) (at_levels c.args.levels c.hex_value.result _ c.hex_value.ensures.item)

pub element_value-returns-in-Int-clause-read : goal.element_value-returns-in-Int-clause-read
element_value-returns-in-Int-clause-read n c = rw c.in-Int.is (at_levels c.args.levels c.int_value.result _ c.int_value.ensures.read)

pub element_value-returns-in-Uuid-clause-read : goal.element_value-returns-in-Uuid-clause-read
element_value-returns-in-Uuid-clause-read n c = rw c.in-Uuid.is (at_levels c.args.levels c.uuid_value.result _ c.uuid_value.ensures.read)

pub element_value-returns-in-Stamp-clause-read : goal.element_value-returns-in-Stamp-clause-read
element_value-returns-in-Stamp-clause-read n c = rw c.in-Stamp.is (at_levels c.args.levels c.stamp_value.result _ c.stamp_value.ensures.read)

pub element_values-element_value-requires : goal.element_values-element_value-requires
element_values-element_value-requires n c =
    let deep : item_depth (item_of c.element-item.result) ≤ c.args.levels = nests_at c.args.levels c.args.elements.now c.loop-element.element-index c.element-item.result c.loop-element-test.true c.element-item.is c.requires.nests in
    search (rules, deep)

pub nested_value-element_values-requires : goal.nested_value-element_values-requires
nested_value-element_values-requires n c =
    let deep : nesting (items_in c.elements.result.now) < c.args.levels = rw c.elements.ensures.items c.requires.nests in
    search (rules, deep)

pub nested_value-returns-clause-read : goal.nested_value-returns-clause-read
nested_value-returns-clause-read n c = nested_stands c.args.levels c.in_ok-values.values c.args.tuple.now (omega (arith, c.requires.nests)) (rw c.elements.ensures.items at c.in_ok-values.ensures.read)

pub element_values-loop-element-preserved : goal.element_values-loop-element-preserved
element_values-loop-element-preserved n c = record {
  read = rw c.in_ok-push.ensures.items (values_more c.args.levels c.args.elements.now c.loop-element.element-index c.element-item.result c.loop-element.values.items _ c.loop-element-test.true c.element-item.is c.in_ok-element_value.ensures.read c.loop-element.invariant.read);
  depth = rw c.in_ok-push.ensures.items (depth_pushed (c.args.levels + 1) c.loop-element.values.items _ c.loop-element.invariant.depth c.in_ok-element_value.ensures.depth);
}
