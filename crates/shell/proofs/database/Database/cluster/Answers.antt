use Rattle.std.proofs.Common.{◌∙◌, ap, sym, subst}
use Rattle.schedule.specs.Exact.{IsExactOver, IsExactRun}
use Rattle.schedule.specs.Headline.{IsHeadline, IsHeadlineOver}
use Rattle.schedule.specs.Right.{IsRightOver, IsRightRun}
use Rattle.schedule.specs.Stepwise.{IsSoFar, IsSoFarOver}
use Rattle.shell.specs.Held.{held_state}
use Rattle.shell.proofs.database.Database.cluster.Goals as goal

pub returns-in-Passing-clause-right : goal.returns-in-Passing-clause-right
returns-in-Passing-clause-right c = subst (IsSoFar IsRightRun) (sym (ap held_state c.in-Passing.is) ∙ c.self.view_is) c.cluster.ensures.right

pub returns-in-Passing-clause-exact : goal.returns-in-Passing-clause-exact
returns-in-Passing-clause-exact c = subst (IsSoFar IsExactRun) (sym (ap held_state c.in-Passing.is) ∙ c.self.view_is) c.cluster.ensures.exact

pub returns-in-Passing-clause-headline : goal.returns-in-Passing-clause-headline
returns-in-Passing-clause-headline c = subst (IsSoFar (λ _. IsHeadline)) (sym (ap held_state c.in-Passing.is) ∙ c.self.view_is) c.cluster.ensures.headline

pub returns-in-Logged-clause-right : goal.returns-in-Logged-clause-right
returns-in-Logged-clause-right c = subst (IsSoFar IsRightRun) (c.schedule.ensures ∙ sym (ap held_state c.in-Logged.is) ∙ c.self.view_is) c.cluster-in-Logged.ensures.right

pub returns-in-Logged-clause-exact : goal.returns-in-Logged-clause-exact
returns-in-Logged-clause-exact c = subst (IsSoFar IsExactRun) (c.schedule.ensures ∙ sym (ap held_state c.in-Logged.is) ∙ c.self.view_is) c.cluster-in-Logged.ensures.exact

pub returns-in-Logged-clause-headline : goal.returns-in-Logged-clause-headline
returns-in-Logged-clause-headline c = subst (IsSoFar (λ _. IsHeadline)) (c.schedule.ensures ∙ sym (ap held_state c.in-Logged.is) ∙ c.self.view_is) c.cluster-in-Logged.ensures.headline

pub returns-in-Passing-clause-right_over : goal.returns-in-Passing-clause-right_over
returns-in-Passing-clause-right_over c = subst (IsSoFarOver IsRightOver) (sym (ap held_state c.in-Passing.is) ∙ c.self.view_is) c.cluster.ensures.right_over

pub returns-in-Passing-clause-exact_over : goal.returns-in-Passing-clause-exact_over
returns-in-Passing-clause-exact_over c = subst (IsSoFarOver IsExactOver) (sym (ap held_state c.in-Passing.is) ∙ c.self.view_is) c.cluster.ensures.exact_over

pub returns-in-Passing-clause-headline_over : goal.returns-in-Passing-clause-headline_over
returns-in-Passing-clause-headline_over c = subst (IsSoFarOver (λ _. IsHeadlineOver)) (sym (ap held_state c.in-Passing.is) ∙ c.self.view_is) c.cluster.ensures.headline_over

pub returns-in-Logged-clause-right_over : goal.returns-in-Logged-clause-right_over
returns-in-Logged-clause-right_over c = subst (IsSoFarOver IsRightOver) (c.schedule.ensures ∙ sym (ap held_state c.in-Logged.is) ∙ c.self.view_is) c.cluster-in-Logged.ensures.right_over

pub returns-in-Logged-clause-exact_over : goal.returns-in-Logged-clause-exact_over
returns-in-Logged-clause-exact_over c = subst (IsSoFarOver IsExactOver) (c.schedule.ensures ∙ sym (ap held_state c.in-Logged.is) ∙ c.self.view_is) c.cluster-in-Logged.ensures.exact_over

pub returns-in-Logged-clause-headline_over : goal.returns-in-Logged-clause-headline_over
returns-in-Logged-clause-headline_over c = subst (IsSoFarOver (λ _. IsHeadlineOver)) (c.schedule.ensures ∙ sym (ap held_state c.in-Logged.is) ∙ c.self.view_is) c.cluster-in-Logged.ensures.headline_over
