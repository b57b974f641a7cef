use Rattle.std.proofs.Common.{◌≡◌, ◌<◌, [], ◌∷◌, length, Some, None, ap, arith}
use Rattle.std.specs.Prelude.{option_map}
use Rattle.std.proofs.lemmas.Result.{IfOk-weaker}
use Rattle.json.specs.Json.{after_end_array}
use Rattle.serde_json.specs.View.{view}
use Rattle.schedule.specs.declared.step.Step.TheVariants.{Perform}
use Rattle.json_forms.specs.InTurn.{IsNextOf, value_read}
use Rattle.json_forms.proofs.InTurn.{rest_more, rest_over}
use Rattle.script.specs.Steps.{command_on}
use Rattle.script.proofs.in_turn.next_numbered_step.Goals as goal

pub returns-then-take_end_array-clause-ok : goal.returns-then-take_end_array-clause-ok
returns-then-take_end_array-clause-ok c =
    let over : after_end_array c.args.reader.now ≡ Some c.take_end_array.new.self = grind arith in
    IfOk-weaker c.step_of_number.result _ _ (λ step e. ([], rest_over 124 c.args.reader.now c.take_end_array.new.self over, e)) c.step_of_number.ensures.ok

pub returns-then-take_end_array-2-clause-ok : goal.returns-then-take_end_array-2-clause-ok
returns-then-take_end_array-2-clause-ok c =
    let ts = c.args.reader.now in
    let r = c.next_value.new.reader in
    let rest = c.take_end_array-2.new.self in
    let first = view c.in_ok-first.first in
    let going : (after_end_array ts ≡ None) × (c.take_end_array.new.self ≡ ts) = grind arith in
    let read : value_read 124 ts ≡ Some (first, r) = rw (← going.1) c.in_ok-first.ensures.ok in
    let shorter : length r < length ts = rw (← going.1) c.in_ok-first.ensures.shorter in
    let over : after_end_array r ≡ Some rest = grind arith in
    IfOk-weaker c.step_with_part.result _ _ (λ step e. (first ∷ [], rest_more 124 ts r first [] rest going.0 read shorter (rest_over 124 r rest over), e)) c.step_with_part.ensures.ok

pub returns-then-take_end_array-3-clause-ok : goal.returns-then-take_end_array-3-clause-ok
returns-then-take_end_array-3-clause-ok c =
    let ts = c.args.reader.now in
    let r = c.next_value.new.reader in
    let s = c.next_command_on.new.reader in
    let rest = c.take_end_array-3.new.self in
    let first = view c.in_ok-first.first in
    let going : (after_end_array ts ≡ None) × (c.take_end_array.new.self ≡ ts) = grind arith in
    let read : value_read 124 ts ≡ Some (first, r) = rw (← going.1) c.in_ok-first.ensures.ok in
    let shorter : length r < length ts = rw (← going.1) c.in_ok-first.ensures.shorter in
    let further : (after_end_array r ≡ None) × (c.take_end_array-2.new.self ≡ r) = grind arith in
    let next : IsNextOf (command_on c.args.name.now first) 124 r c.in_ok-command.command s = rw (← further.1) c.in_ok-command.ensures.ok in
    let less : length s < length r = rw (← further.1) c.in_ok-command.ensures.shorter in
    let over : after_end_array s ≡ Some rest = grind arith in (
      first ∷ next.0 ∷ [],
      rest_more 124 ts r first (next.0 ∷ []) rest going.0 read shorter (rest_more 124 r s next.0 [] rest further.0 next.1 less (rest_over 124 s rest over)),
      ap (option_map (Perform c.args.number)) next.2,
    )
