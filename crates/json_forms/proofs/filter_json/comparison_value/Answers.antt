use Rattle.json_forms.proofs.Filters.{three_items}
use Rattle.json_forms.proofs.filter_json.comparison_value.Goals as goal

pub returns : goal.returns
returns c = three_items c.push-2.new.self c.in_ok-items.items.items c.push.new.self.items c.in_ok-try_from_str.field-0 c.in_ok-cell_value.field-0 _ _ _ c.in_ok-push-2.ensures.items c.in_ok-push.ensures.items c.in_ok-items.ensures (rw c.as_str.ensures at c.in_ok-try_from_str.ensures) c.in_ok-cell_value.ensures.is
