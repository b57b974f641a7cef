use Rattle.serde_json.specs.View.{view}
use Rattle.query.specs.View.{filter_of}
use Rattle.json_forms.specs.QueryJson.{filter_data}
use Rattle.json_forms.proofs.Filters.{filter_without_float, text_is}
use Rattle.json_forms.proofs.filter_json.filter_text.Goals as goal

pub returns : goal.returns
returns c = text_is c.to_string.result (view c.in_ok-filter_value.field-0) (filter_data (filter_of c.args.filter.now)) c.in_ok-filter_value.ensures (filter_without_float (filter_of c.args.filter.now)) c.to_string.ensures.text
