use Rattle.std.proofs.Common.{◌≡◌, ◌∙◌, Some, None, map, ap, sym, arith, rules}
use Rattle.serde_json.specs.View.{view}
use Rattle.tuple_codec.specs.Item.{nested, items_from}
use Rattle.json_forms.specs.Json.{each_in}
use Rattle.json_forms.specs.TupleJson.{json_item, nested_in}
use Rattle.json_forms.specs.declared.error.PartError.TheVariants.{BadForm}
use Rattle.json_forms.proofs.Each.{each_none}
use Rattle.json_forms.proofs.TupleForms.{array_item, no_level, one_level, elements_more, nests_pushed}
use Rattle.json_forms.proofs.tuple_json.+read.Goals as goal

pub element_of-returns-in_err-tuple-in-Array-clause-err : goal.element_of-returns-in_err-tuple-in-Array-clause-err
element_of-returns-in_err-tuple-in-Array-clause-err n c =
    let none : c.in_err-tuple-in-Array.field-0.0 ≡ BadForm → json_item c.args.levels (view c.args.value.now) ≡ None =
    λ e. rw c.in-Array.is (array_item c.args.levels c.in-Array.items ∙ (rw c.as_slice.ensures.value at (c.in_err-tuple-in-Array.ensures.err e))) in
    search (rules, none)

pub element_of-returns-in_ok-tuple-in-Array-clause-ok : goal.element_of-returns-in_ok-tuple-in-Array-clause-ok
element_of-returns-in_ok-tuple-in-Array-clause-ok n c = rw c.in-Array.is (array_item c.args.levels c.in-Array.items ∙ (rw c.as_slice.ensures.value at c.in_ok-tuple-in-Array.ensures.ok))

pub nested_tuple-returns-then-levels-eq0-clause-err : goal.nested_tuple-returns-then-levels-eq0-clause-err
nested_tuple-returns-then-levels-eq0-clause-err n c e = rw c.if-levels-eq0.true (no_level (map view c.args.items.now))

pub nested_tuple-returns-in_err-elements_of-clause-err : goal.nested_tuple-returns-in_err-elements_of-clause-err
nested_tuple-returns-in_err-elements_of-clause-err n c =
    let none : c.in_err-elements_of.field-0.0 ≡ BadForm → nested_in c.args.levels (map view c.args.items.now) ≡ None =
    λ e. one_level c.args.levels (map view c.args.items.now) None (omega (arith, c.if-levels-eq0.false)) (c.in_err-elements_of.ensures.err e) in
    search (rules, none)

pub nested_tuple-returns-clause-ok : goal.nested_tuple-returns-clause-ok
nested_tuple-returns-clause-ok n c = one_level c.args.levels (map view c.args.items.now) _ (omega (arith, c.if-levels-eq0.false)) c.in_ok-elements_of.ensures.ok ∙ ap (λ t. Some (nested (items_from t))) (sym c.in-Ok.ensures.0)

pub elements_of-returns-in_err-element_of-clause-err : goal.elements_of-returns-in_err-element_of-clause-err
elements_of-returns-in_err-element_of-clause-err n c =
    let none : c.in_err-element_of.field-0.0 ≡ BadForm → each_in (json_item c.args.levels) (map view c.args.items.now) ≡ None =
    λ e. each_none (json_item c.args.levels) c.args.items.now c.loop-item.item-index c.item-item.result c.loop-item-test.true c.item-item.is (c.in_err-element_of.ensures.err e) in
    search (rules, none)

pub elements_of-loop-item-preserved : goal.elements_of-loop-item-preserved
elements_of-loop-item-preserved n c = record {
  read = rw c.in_ok-push.ensures.items (elements_more c.args.levels c.args.items.now c.loop-item.item-index c.item-item.result c.loop-item.elements.items _ c.loop-item-test.true c.item-item.is c.in_ok-element_of.ensures.ok c.loop-item.invariant.read);
  nests = rw c.in_ok-push.ensures.items (nests_pushed c.args.levels c.loop-item.elements.items _ c.loop-item.invariant.nests c.in_ok-element_of.ensures.nests);
}
