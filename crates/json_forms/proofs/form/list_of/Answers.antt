use Rattle.serde_json.specs.View.{view}
use Rattle.json_forms.proofs.Forms.{list_found}
use Rattle.json_forms.proofs.form.list_of.Goals as goal

pub returns-in-Some-clause-ok : goal.returns-in-Some-clause-ok
returns-in-Some-clause-ok c = rw c.as_slice.ensures.value (list_found (view c.args.value.now) c.in-Some.items.now.items c.in-Some.ensures)
