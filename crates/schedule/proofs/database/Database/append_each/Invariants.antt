use Rattle.schedule.specs.Settling.{HaveWorked, log_may}
use Rattle.schedule.proofs.database.Database.append_each.Given as goal

-- the first ones did so
abbrev pub invariant-loop-log : goal.invariant-loop-log
invariant-loop-log l = HaveWorked log_may l.log l.done l.fn.self l.self
