use Rattle.std.proofs.Common.{◌+◌, ◌*◌}
use Rattle.script_check.proofs.checking.+checking.Given as goal

abbrev pub decreases-check_part : goal.decreases-check_part
decreases-check_part l = 4 * l.levels

abbrev pub decreases-check_each : goal.decreases-check_each
decreases-check_each l = 4 * l.levels + 1

abbrev pub decreases-check_list : goal.decreases-check_list
decreases-check_list l = 4 * l.levels + 2

abbrev pub decreases-check_member : goal.decreases-check_member
decreases-check_member l = 4 * l.levels + 1

abbrev pub decreases-check_object : goal.decreases-check_object
decreases-check_object l = 4 * l.levels + 2

abbrev pub decreases-check_operands : goal.decreases-check_operands
decreases-check_operands l = 4 * l.levels + 2

abbrev pub decreases-check_filter : goal.decreases-check_filter
decreases-check_filter l = 4 * l.levels + 3

abbrev pub decreases-check_parts : goal.decreases-check_parts
decreases-check_parts l = 4 * l.levels + 1

abbrev pub decreases-check_named_step : goal.decreases-check_named_step
decreases-check_named_step l = 4 * l.levels + 2

abbrev pub decreases-check_step : goal.decreases-check_step
decreases-check_step l = 4 * l.levels + 3

abbrev pub decreases-check_steps : goal.decreases-check_steps
decreases-check_steps l = 4 * l.levels + 1
