use Rattle.std.proofs.Common.{Some}
use Rattle.tuple_codec.specs.Item.{max_nesting}
use Rattle.json_forms.specs.TupleJson.{json_item}
use Rattle.json_forms.proofs.Each.{all_array}
use Rattle.json_forms.proofs.tuple_json.tuple_value.Goals as goal

pub returns-clause-read : goal.returns-clause-read
returns-clause-read c = all_array (json_item max_nesting) c.in_ok-values.values (Some c.args.tuple.now) (rw c.elements.ensures.items at c.in_ok-values.ensures.read)
