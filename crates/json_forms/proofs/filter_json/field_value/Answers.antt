use Rattle.json_forms.proofs.Filters.{two_items}
use Rattle.json_forms.proofs.filter_json.field_value.Goals as goal

pub returns : goal.returns
returns c = two_items c.push.new.self c.in_ok-items.items.items c.in_ok-try_from_str.field-0 _ _ c.in_ok-push.ensures.items c.in_ok-items.ensures (rw c.as_str.ensures at c.in_ok-try_from_str.ensures)
