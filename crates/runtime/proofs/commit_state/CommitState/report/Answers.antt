use Rattle.std.proofs.Common.{◌++◌, subst}
use Rattle.runtime.specs.CommitStates.{CommitView, IsOneDue}
use Rattle.runtime.specs.Logs.{AreGiven}
use Rattle.runtime.proofs.Handled.{one_due}
use Rattle.runtime.proofs.commit_state.CommitState.report.Goals as goal

pub returns-in-Unreported-clause-waiting : goal.returns-in-Unreported-clause-waiting
returns-in-Unreported-clause-waiting c = subst (λ (h : CommitView). IsOneDue h.log h.due) c.self.view_is (one_due c.self.inside.in_flight (c.self.inside.publisher.published ++ c.self.inside.publisher.pending))

pub returns-in-Unreported-clause-given : goal.returns-in-Unreported-clause-given
returns-in-Unreported-clause-given c = subst (λ (h : CommitView). AreGiven h.last h.due) c.self.view_is c.self.invariant.4

pub returns-in_default-clause-waiting : goal.returns-in_default-clause-waiting
returns-in_default-clause-waiting c = subst (λ (h : CommitView). IsOneDue h.log h.due) c.self.view_is (one_due c.self.inside.in_flight (c.self.inside.publisher.published ++ c.self.inside.publisher.pending))

pub returns-in_default-clause-given : goal.returns-in_default-clause-given
returns-in_default-clause-given c = subst (λ (h : CommitView). AreGiven h.last h.due) c.self.view_is c.self.invariant.4
