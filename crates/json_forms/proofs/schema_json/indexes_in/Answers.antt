use Rattle.std.proofs.Common.{◌≡◌, None, rules}
use Rattle.serde_json.specs.View.{view}
use Rattle.json_forms.specs.SchemaJson.{json_index, json_indexes_listed}
use Rattle.json_forms.specs.declared.error.PartError.TheVariants.{BadForm}
use Rattle.json_forms.proofs.Each.{each_more, each_none}
use Rattle.json_forms.proofs.schema_json.indexes_in.Goals as goal

pub returns-in_err-index_of-clause-err : goal.returns-in_err-index_of-clause-err
returns-in_err-index_of-clause-err c =
    let none : c.in_err-index_of.field-0.0 ≡ BadForm → json_indexes_listed (view c.args.value.now) ≡ None =
    λ e. rw c.in_ok-item-items.ensures.ok (each_none json_index c.in_ok-item-items.item-items.now c.loop-item.item-index c.item-item.result c.loop-item-test.true c.item-item.is (c.in_err-index_of.ensures.err e)) in
    search (rules, none)

pub loop-item-preserved : goal.loop-item-preserved
loop-item-preserved c = rw c.in_ok-push.ensures.items (each_more json_index c.in_ok-item-items.item-items.now c.loop-item.item-index c.item-item.result _ _ c.loop-item-test.true c.item-item.is c.in_ok-index_of.ensures.ok c.loop-item.invariant)
