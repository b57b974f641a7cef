use Rattle.std.proofs.Common.{◌≡◌, ◌∙◌, ◌++◌, [], string_bytes, ap}
use Rattle.std.proofs.lemmas.Result.{IfOk-weaker}
use Rattle.json.specs.Lex.{tokens}
use Rattle.json.specs.Tree.{json_tokens}
use Rattle.json_forms.specs.CellJson.{IsTextOfCells}
use Rattle.json_forms.specs.RowText.{row_json}
use Rattle.json_forms.proofs.RowTexts.{cells_read}
use Rattle.json_forms.proofs.row_text.cells_text.Goals as goal

pub returns : goal.returns
returns c =
    IfOk-weaker c.text_of.result (λ text. c.write_cells.new.out.before ≡ [] → tokens (string_bytes text) ≡ c.write_cells.new.out.tokens) (λ text. IsTextOfCells (string_bytes text) c.args.cells.now)
    (λ text same. cells_read (string_bytes text) c.args.cells.now
    (same (c.in_ok-write_cells.ensures.written.1 ∙ c.new-out.ensures.before ∙ c.in_ok-buffer.ensures.items) ∙ c.in_ok-write_cells.ensures.written.0 ∙ ap (λ ts. ts ++ json_tokens (row_json c.args.cells.now)) c.new-out.ensures.tokens)
    c.in_ok-write_cells.ensures.known) c.text_of.ensures
