use Rattle.std.proofs.Common.{◌∙◌, ap}
use Rattle.query.specs.View.{query_of}
use Rattle.explain.specs.Planning.{asked_states}
use Rattle.explain.proofs.Plans.{planned_under}
use Rattle.explain.proofs.planning.plan_checked.Goals as goal

pub returns-in-Ok-clause-ok : goal.returns-in-Ok-clause-ok
returns-in-Ok-clause-ok c =
    planned_under c.args.schema.now c.args.states.now (query_of c.args.query.now) c.in-Ok.plan c.as_slice.result.now (c.as_slice.ensures.value ∙ c.in_ok-states.ensures ∙ ap (asked_states c.args.states.now) c.indexes.ensures) c.requires.known c.requires.checked c.in-Ok.ensures.served c.in-Ok.ensures.typed c.in-Ok.ensures.query c.in-Ok.ensures.is
