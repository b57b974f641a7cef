use Rattle.serde_json.specs.View.{view}
use Rattle.json_forms.proofs.Forms.{keys_counted, same_count}
use Rattle.json_forms.proofs.form.has_keys.Goals as goal

pub returns-in-Some : goal.returns-in-Some
returns-in-Some c = rw (keys_counted (view c.args.value.now) c.in-Some.members.now.entries c.len.result c.in-Some.ensures c.len.ensures.len) (same_count c.len.result c.args.keys)
