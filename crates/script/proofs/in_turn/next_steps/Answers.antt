use Rattle.std.proofs.Common.{◌≡◌, ◌∷◌, sym, ap, subst, ◌∙◌, arith}
use Rattle.std.proofs.lemmas.Result.{IfOk-weaker}
use Rattle.json.specs.Token.{Token}
use Rattle.json.specs.Reads.{token_of}
use Rattle.json_forms.specs.InTurn.{IsNextOf}
use Rattle.json_forms.specs.Json.{all_in}
use Rattle.json_forms.proofs.InTurn.{list_next}
use Rattle.script.specs.Steps.{step_in}
use Rattle.script.proofs.in_turn.next_steps.Goals as goal

pub returns-in-BeginArray : goal.returns-in-BeginArray
returns-in-BeginArray c =
    let first = c.next_token.new.reader in
    let rest = c.rest_of_steps.new.reader in
    let is : c.args.reader.now ≡ Token.begin_array ∷ first = c.in_ok-next_token.ensures ∙ ap (λ k. token_of k ∷ first) c.in-BeginArray.is in
    IfOk-weaker c.rest_of_steps.result _ _ (λ steps more. subst (λ ts. IsNextOf (all_in step_in) 126 ts steps.items rest) (sym is)
    (list_next step_in 126 first steps.items rest (omega arith) more)) c.rest_of_steps.ensures
