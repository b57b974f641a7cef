use Rattle.std.proofs.Common.{subst}
use Rattle.query.specs.View.{query_of}
use Rattle.planner.specs.Right.{IsPlanFor}
use Rattle.planner.specs.View.{plan_of}
use Rattle.planner.proofs.plan.Plan.query.Goals as goal

pub returns-clause-typed : goal.returns-clause-typed
returns-clause-typed c =
    (subst (λ p. IsPlanFor (query_of c.self.inside.query) (plan_of p)) c.self.view_is c.self.invariant).typed

pub returns-clause-over : goal.returns-clause-over
returns-clause-over c =
    (subst (λ p. IsPlanFor (query_of c.self.inside.query) (plan_of p)) c.self.view_is c.self.invariant).over

pub returns-clause-right : goal.returns-clause-right
returns-clause-right c =
    (subst (λ p. IsPlanFor (query_of c.self.inside.query) (plan_of p)) c.self.view_is c.self.invariant).right

pub returns-clause-merges : goal.returns-clause-merges
returns-clause-merges c =
    (subst (λ p. IsPlanFor (query_of c.self.inside.query) (plan_of p)) c.self.view_is c.self.invariant).merges
