use Rattle.std.proofs.Common.{◌≡◌, ◌∷◌, sym, ap, subst, ◌∙◌, arith}
use Rattle.std.proofs.lemmas.Result.{IfOk-weaker}
use Rattle.json.specs.Token.{Token}
use Rattle.json.specs.Reads.{token_of}
use Rattle.json_forms.specs.CellJson.{cell_in, cells_in}
use Rattle.json_forms.specs.InTurn.{IsNextOf}
use Rattle.json_forms.proofs.InTurn.{list_next}
use Rattle.json_forms.proofs.in_turn.next_cells.Goals as goal

pub returns-in-BeginArray-clause-ok : goal.returns-in-BeginArray-clause-ok
returns-in-BeginArray-clause-ok c =
    let rest = c.next_token.new.reader in
    let is : c.args.reader.now ≡ Token.begin_array ∷ rest = c.in_ok-next_token.ensures ∙ ap (λ k. token_of k ∷ rest) c.in-BeginArray.is in
    IfOk-weaker c.rest_of_cells.result _ _ (λ cells more. subst (λ ts. IsNextOf cells_in c.args.depth ts cells c.rest_of_cells.new.reader) (sym is)
    (list_next cell_in c.args.depth rest cells c.rest_of_cells.new.reader (omega arith) more)) c.rest_of_cells.ensures.ok
