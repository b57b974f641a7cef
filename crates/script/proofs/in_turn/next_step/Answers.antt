use Rattle.std.proofs.Common.{◌≡◌, ◌∷◌, refl, sym, ap, subst, ◌∙◌, arith}
use Rattle.std.proofs.lemmas.Result.{IfOk-weaker}
use Rattle.json.specs.Token.{Token}
use Rattle.json.specs.Reads.{token_of}
use Rattle.serde_json.specs.Data.{array, string}
use Rattle.json_forms.specs.InTurn.{IsNextOf, IsRest}
use Rattle.json_forms.proofs.InTurn.{list_of_rest, rest_more}
use Rattle.script.specs.Steps.{step_in, step_of}
use Rattle.script.proofs.InTurn.{string_read}
use Rattle.script.proofs.in_turn.next_step.Goals as goal

pub returns-in-String-clause-ok : goal.returns-in-String-clause-ok
returns-in-String-clause-ok c =
    let first = c.next_token.new.reader in
    let r = c.next_token-2.new.reader in
    let rest = c.next_named_step.new.reader in
    let name = c.in-String.name.now in
    let named : first ≡ Token.string name ∷ r = c.in_ok-name.ensures ∙ ap (λ k. token_of k ∷ r) c.in-String.is in
    let is : c.args.reader.now ≡ Token.begin_array ∷ Token.string name ∷ r = c.in_ok-next_token.ensures ∙ ap (λ k. token_of k ∷ first) c.in-BeginArray.is ∙ ap (λ ts. Token.begin_array ∷ ts) named in
    IfOk-weaker c.next_named_step.result _ _ (λ step h.
    let whole : IsRest 124 (Token.string name ∷ r) (string name ∷ h.0) rest = rest_more 124 (Token.string name ∷ r) r (string name) h.0 rest refl (string_read 124 r name) (omega arith) h.1 in
    let js = list_of_rest 125 (Token.string name ∷ r) (string name ∷ h.0) rest (omega arith) whole in
    subst (λ ts. IsNextOf step_in 125 ts step rest) (sym is) (array js.0, js.1, ap step_of js.2 ∙ h.2)) c.next_named_step.ensures.ok
