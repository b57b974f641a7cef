use Rattle.schedule.specs.Settling.{HaveWorked, resolver_may}
use Rattle.schedule.proofs.database.Database.resolve_each.Given as goal

-- the first ones did so
abbrev pub invariant-loop-resolver : goal.invariant-loop-resolver
invariant-loop-resolver l = HaveWorked resolver_may l.resolver l.done l.fn.self l.self
