use Rattle.std.proofs.Common.{◌≡◌, [], ◌∷◌, Some, ap, ◌∙◌}
use Rattle.json.specs.Token.{Token}
use Rattle.json_forms.specs.InTurn.{value_read}
use Rattle.script.proofs.InTurn.{alone_read}
use Rattle.script.proofs.in_turn.steps_alone.Goals as goal

pub returns : goal.returns
returns c =
    let next = c.in_ok-steps.ensures in
    let read : value_read 126 c.take_frame.new.reader ≡ Some (next.0, Token.end_object ∷ []) = next.1 ∙ ap (λ rest. Some (next.0, rest)) c.in_ok-take_end.ensures in
    (next.0, ap (value_read 127) c.in_ok-take_frame.ensures ∙ alone_read c.take_frame.new.reader next.0 read, next.2)
