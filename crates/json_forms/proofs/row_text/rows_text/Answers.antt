use Rattle.std.proofs.Common.{◌≡◌, ◌∙◌, ◌++◌, [], string_bytes, ap}
use Rattle.std.proofs.lemmas.Result.{IfOk-weaker}
use Rattle.json.specs.Lex.{tokens}
use Rattle.json.specs.Tree.{json_tokens}
use Rattle.json_forms.specs.CellJson.{IsTextOfRows}
use Rattle.json_forms.specs.RowText.{rows_json}
use Rattle.json_forms.proofs.RowTexts.{rows_read}
use Rattle.json_forms.proofs.row_text.rows_text.Goals as goal

pub returns : goal.returns
returns c =
    IfOk-weaker c.text_of.result (λ text. c.write_rows.new.out.before ≡ [] → tokens (string_bytes text) ≡ c.write_rows.new.out.tokens) (λ text. IsTextOfRows (string_bytes text) c.args.rows.now)
    (λ text same. rows_read (string_bytes text) c.args.rows.now
    (same (c.in_ok-write_rows.ensures.written.1 ∙ c.new-out.ensures.before ∙ c.in_ok-buffer.ensures.items) ∙ c.in_ok-write_rows.ensures.written.0 ∙ ap (λ ts. ts ++ json_tokens (rows_json c.args.rows.now)) c.new-out.ensures.tokens)
    c.in_ok-write_rows.ensures.known) c.text_of.ensures
