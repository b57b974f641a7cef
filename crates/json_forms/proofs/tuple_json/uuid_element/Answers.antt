use Rattle.tuple_codec.specs.Item.{uuid}
use Rattle.uuid.specs.Text.{parsed}
use Rattle.serde_json.specs.View.{view}
use Rattle.json_forms.proofs.TupleForms.{parsed_to_none, no_meaning}
use Rattle.json_forms.proofs.tuple_json.uuid_element.Goals as goal

pub returns-in-Err-clause-err : goal.returns-in-Err-clause-err
returns-in-Err-clause-err c = no_meaning parsed uuid (view c.args.value.now) c.in_ok-str_of.field-0.now c.in_ok-str_of.ensures.ok (parsed_to_none (parsed c.in_ok-str_of.field-0.now) c.try_parse.result c.in-Err.field-0 c.in-Err.is c.try_parse.ensures.ok)
