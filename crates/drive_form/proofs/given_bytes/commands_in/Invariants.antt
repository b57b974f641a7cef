use Rattle.std.proofs.Common.{List, ◌++◌}
use Rattle.std.specs.Vec.Iter.{into_iter_items}
use Rattle.schedule.specs.declared.step.Command.{Command}
use Rattle.drive_form.specs.Spelled.{AreCommands}
use Rattle.drive_form.proofs.given_bytes.commands_in.Given as goal

-- commands of the steps that are left make, after those so far, the commands of all steps, and commands of all steps end
-- with those of the steps that are left
abbrev pub invariant-loop-step : goal.invariant-loop-step
invariant-loop-step l = record {
  can_next : (goal.iterator-loop-step).can_next l.step-iterator;
  is_finite : (goal.iterator-loop-step).is_finite l.step-iterator;
  rest :
      (more : List Command) → AreCommands (into_iter_items l.step-iterator) more →
      AreCommands l.fn.steps.items (l.commands.items ++ more);
  ends :
      (all : List Command) → AreCommands l.fn.steps.items all →
      (more : List Command) × AreCommands (into_iter_items l.step-iterator) more;
}
