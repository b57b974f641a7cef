use Rattle.std.proofs.Common.{◌≡◌, ◌<◌, length, None, sym, subst, arith}
use Rattle.json.specs.Json.{after_end_array}
use Rattle.json_forms.specs.InTurn.{IsNextOf}
use Rattle.json_forms.proofs.InTurn.{IsReadTo, read_all, read_none, read_one_more}
use Rattle.script.specs.Steps.{step_in}
use Rattle.script.proofs.in_turn.rest_of_steps.Goals as goal

pub steps-init : goal.steps-init
steps-init c = read_none step_in 125 c.args.reader.now c.new-steps.result.items c.new-steps.ensures.items

pub steps-preserved : goal.steps-preserved
steps-preserved c =
    let l = c.steps in
    let r = c.next_step.new.reader in
    let going : (after_end_array l.reader ≡ None) × (c.take_end_array.new.self ≡ l.reader) = grind arith in
    let next : IsNextOf step_in 125 l.reader c.in_ok-next_step.field-0 r = rw (← going.1) c.in_ok-next_step.ensures.ok in
    let shorter : length r < length l.reader = rw (← going.1) c.in_ok-next_step.ensures.shorter in
    subst (λ steps. IsReadTo step_in 125 c.args.reader.now r steps) (sym c.in_ok-push.ensures.items)
    (read_one_more step_in 125 c.args.reader.now l.reader r l.steps.items c.in_ok-next_step.field-0 l.invariant going.0 next shorter)

pub returns : goal.returns
returns c =
    let l = c.steps in
    read_all step_in 125 c.args.reader.now l.reader c.take_end_array.new.self l.steps.items l.invariant (grind arith)
