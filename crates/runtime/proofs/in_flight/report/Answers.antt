use Rattle.std.proofs.Common.{ap, sym, subst}
use Rattle.cluster_core.specs.Roles.{whole}
use Rattle.runtime.specs.declared.in_flight.InFlight.{InFlight}
use Rattle.runtime.specs.CommitStates.{IsInFlight}
use Rattle.runtime.proofs.Reporting.{due_further, due_reported}
use Rattle.runtime.proofs.in_flight.report.Goals as goal

pub returns-in-Ok-clause-further : goal.returns-in-Ok-clause-further
returns-in-Ok-clause-further c name log was =
    subst (λ (f : InFlight). IsInFlight name log (whole c.finish.new.pipeline) f) (sym c.decided.ensures)
    (due_reported name log c.args.due (whole c.args.pipeline.now) (whole c.finish.new.pipeline) c.in-Ok.reported was (ap whole c.in-Ok.ensures.handled) c.in-Ok.ensures.told)

pub returns-in-Err-clause-further : goal.returns-in-Err-clause-further
returns-in-Err-clause-further c name log was = due_further name log c.args.due (whole c.args.pipeline.now) (whole c.finish.new.pipeline) was (ap whole c.in-Err.ensures.stays.0, c.in-Err.ensures.stays.1)
