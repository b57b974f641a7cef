use Rattle.std.proofs.Common.{◌≡◌, None, rules}
use Rattle.json_forms.specs.SchemaJson.{json_field}
use Rattle.serde_json.specs.View.{view}
use Rattle.json_forms.specs.SchemaJson.{fields_in}
use Rattle.json_forms.specs.declared.error.PartError.TheVariants.{BadForm}
use Rattle.json_forms.proofs.Each.{each_more, each_none}
use Rattle.json_forms.proofs.schema_json.fields_of.Goals as goal

pub returns-in_err-field_of-clause-err : goal.returns-in_err-field_of-clause-err
returns-in_err-field_of-clause-err c =
    let none : c.in_err-field_of.field-0.0 ≡ BadForm → fields_in (view c.args.value.now) ≡ None =
    λ e. rw c.in_ok-item-items.ensures.ok (each_none json_field c.in_ok-item-items.item-items.now c.loop-item.item-index c.item-item.result c.loop-item-test.true c.item-item.is (c.in_err-field_of.ensures.err e)) in
    search (rules, none)

pub loop-item-preserved : goal.loop-item-preserved
loop-item-preserved c = rw c.in_ok-push.ensures.items (each_more json_field c.in_ok-item-items.item-items.now c.loop-item.item-index c.item-item.result _ _ c.loop-item-test.true c.item-item.is c.in_ok-field_of.ensures.ok c.loop-item.invariant)
