use Rattle.std.proofs.Common.{◌≡◌, [], Some, sym, ap, ◌∙◌, arith}
use Rattle.json.specs.Lex.{tokens}
use Rattle.json_forms.specs.InTurn.{value_read}
use Rattle.script.specs.Script.{steps_alone}
use Rattle.script.proofs.InTurn.{script_read}
use Rattle.script.proofs.in_turn.script_in_turn.Goals as goal

pub returns : goal.returns
returns c =
    let text = c.args.bytes.now in
    let next = c.in_ok-steps.ensures in
    let is : c.in_ok-reader.reader ≡ tokens text = c.in_ok-reader.ensures.ok ∙ ap tokens c.in-Ok.ensures.cases.0 in
    let read : value_read 127 (tokens text) ≡ Some (steps_alone next.0, []) = ap (value_read 127) (sym is) ∙ next.1 in
    script_read text next.0 _ _ (omega arith) c.in-Ok.ensures.cases.1 read next.2 c.in_ok-config.ensures.ok
