use Rattle.std.proofs.Common.{length}
use Rattle.json_forms.proofs.InTurn.{IsReadTo}
use Rattle.script.specs.Steps.{step_in}
use Rattle.script.proofs.in_turn.rest_of_steps.Given as goal

abbrev pub invariant-steps : goal.invariant-steps
invariant-steps l = IsReadTo step_in 125 l.initial.reader l.reader l.steps.items

abbrev pub decreases-steps : goal.decreases-steps
decreases-steps l = length l.reader
