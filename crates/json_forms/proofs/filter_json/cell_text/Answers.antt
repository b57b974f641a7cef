use Rattle.serde_json.specs.View.{view}
use Rattle.json_forms.specs.CellJson.{cell_data}
use Rattle.json_forms.proofs.Filters.{cell_without_float, text_is}
use Rattle.json_forms.proofs.filter_json.cell_text.Goals as goal

pub returns : goal.returns
returns c = text_is c.to_string.result (view c.in_ok-cell_value.field-0) (cell_data c.args.cell.now) c.in_ok-cell_value.ensures.is (cell_without_float c.args.cell.now) c.to_string.ensures.text
