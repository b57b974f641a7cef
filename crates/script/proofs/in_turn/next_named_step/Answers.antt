use Rattle.std.proofs.Common.{◌≡◌, ◌<◌, [], ◌∷◌, length, Some, None, sym, ap, ◌∙◌, arith}
use Rattle.std.proofs.lemmas.Result.{IfOk-weaker}
use Rattle.json.specs.Token.{Token}
use Rattle.json.specs.Json.{after_end_array}
use Rattle.json.specs.Reads.{token_of}
use Rattle.serde_json.specs.Data.{number, unsigned}
use Rattle.json_forms.proofs.InTurn.{rest_more, rest_over}
use Rattle.script.proofs.InTurn.{number_read}
use Rattle.script.proofs.in_turn.next_named_step.Goals as goal

pub returns-then-take_end_array-clause-ok : goal.returns-then-take_end_array-clause-ok
returns-then-take_end_array-clause-ok c =
    let over : after_end_array c.args.reader.now ≡ Some c.take_end_array.new.self = grind arith in
    IfOk-weaker c.common_step.result _ _ (λ step e. ([], rest_over 124 c.args.reader.now c.take_end_array.new.self over, e)) c.common_step.ensures.ok

pub returns-in_ok-whole_of-in-Number-clause-ok : goal.returns-in_ok-whole_of-in-Number-clause-ok
returns-in_ok-whole_of-in-Number-clause-ok c =
    let ts = c.args.reader.now in
    let r = c.next_token.new.reader in
    let rest = c.next_numbered_step.new.reader in
    let one = unsigned c.in_ok-whole_of-in-Number.field-0 in
    let going : (after_end_array ts ≡ None) × (c.take_end_array.new.self ≡ ts) = grind arith in
    let is : ts ≡ Token.number c.in-Number.text.now ∷ r = sym going.1 ∙ c.in_ok-text.ensures ∙ ap (λ k. token_of k ∷ r) c.in-Number.is in
    let shorter : length r < length ts = rw is (omega arith) in
    let read = number_read 124 ts r c.in-Number.text.now one is c.in_ok-whole_of-in-Number.ensures in
    IfOk-weaker c.next_numbered_step.result _ _ (λ step h. (number one ∷ h.0, rest_more 124 ts r (number one) h.0 rest going.0 read shorter h.1, h.2)) c.next_numbered_step.ensures.ok
