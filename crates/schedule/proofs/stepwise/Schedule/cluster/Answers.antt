use Rattle.std.proofs.Common.{ap, subst, sym, ◌∙◌, ◌≡◌}
use Rattle.cluster_core.specs.Cluster.{forget}
use Rattle.cluster_core.specs.Configuration.{first_cluster}
use Rattle.cluster_core.specs.History.{IsLegalOver}
use Rattle.cluster_core.specs.Roles.{history}
use Rattle.schedule.specs.Holds.{no_stores}
use Rattle.schedule.specs.Stepwise.{StepwiseState, whole_cluster}
use Rattle.schedule.specs.declared.stepwise.Parts.{Parts}
use Rattle.schedule.proofs.OwnStore.{holds_nothing}
use Rattle.schedule.proofs.RunSteps.{run_ends}
use Rattle.schedule.proofs.stepwise.Schedule.cluster.Goals as goal

pub returns-clause-now : goal.returns-clause-now
returns-clause-now c =
    ap (λ (p : Parts). whole_cluster p.database.cluster) c.as_ref-parts.ensures ∙ ap (λ (s : StepwiseState). s.database.cluster) c.self.view_is

pub returns-clause-forgotten : goal.returns-clause-forgotten
returns-clause-forgotten c =
    subst (λ (p : Parts). p.database.cluster ≡ forget p.database.cluster) (sym c.as_ref-parts.ensures) c.self.invariant.forgotten

pub returns-clause-right : goal.returns-clause-right
returns-clause-right c config steps replies done =
    let legal = subst (λ (s : StepwiseState). IsLegalOver s.database.cluster.base (history s.database.cluster.pipeline)) c.self.view_is (subst (λ (p : Parts). IsLegalOver p.database.cluster.base (history p.database.cluster.pipeline)) c.as_ref-parts.ensures c.laws_of.ensures.legal) in
    (run_ends (first_cluster config) no_stores holds_nothing steps replies c.args.self.now.database done.0 legal).right

pub returns-clause-exact : goal.returns-clause-exact
returns-clause-exact c config steps replies done =
    let legal = subst (λ (s : StepwiseState). IsLegalOver s.database.cluster.base (history s.database.cluster.pipeline)) c.self.view_is (subst (λ (p : Parts). IsLegalOver p.database.cluster.base (history p.database.cluster.pipeline)) c.as_ref-parts.ensures c.laws_of.ensures.legal) in
    (run_ends (first_cluster config) no_stores holds_nothing steps replies c.args.self.now.database done.0 legal).exact

pub returns-clause-headline : goal.returns-clause-headline
returns-clause-headline c config steps replies done =
    let legal = subst (λ (s : StepwiseState). IsLegalOver s.database.cluster.base (history s.database.cluster.pipeline)) c.self.view_is (subst (λ (p : Parts). IsLegalOver p.database.cluster.base (history p.database.cluster.pipeline)) c.as_ref-parts.ensures c.laws_of.ensures.legal) in
    (run_ends (first_cluster config) no_stores holds_nothing steps replies c.args.self.now.database done.0 legal).headline

pub returns-clause-right_over : goal.returns-clause-right_over
returns-clause-right_over c first at_first steps replies done holds =
    let legal = subst (λ (s : StepwiseState). IsLegalOver s.database.cluster.base (history s.database.cluster.pipeline)) c.self.view_is (subst (λ (p : Parts). IsLegalOver p.database.cluster.base (history p.database.cluster.pipeline)) c.as_ref-parts.ensures c.laws_of.ensures.legal) in
    (run_ends first at_first holds steps replies c.args.self.now.database done.0 legal).right

pub returns-clause-exact_over : goal.returns-clause-exact_over
returns-clause-exact_over c first at_first steps replies done holds =
    let legal = subst (λ (s : StepwiseState). IsLegalOver s.database.cluster.base (history s.database.cluster.pipeline)) c.self.view_is (subst (λ (p : Parts). IsLegalOver p.database.cluster.base (history p.database.cluster.pipeline)) c.as_ref-parts.ensures c.laws_of.ensures.legal) in
    (run_ends first at_first holds steps replies c.args.self.now.database done.0 legal).exact

pub returns-clause-headline_over : goal.returns-clause-headline_over
returns-clause-headline_over c first at_first steps replies done holds =
    let legal = subst (λ (s : StepwiseState). IsLegalOver s.database.cluster.base (history s.database.cluster.pipeline)) c.self.view_is (subst (λ (p : Parts). IsLegalOver p.database.cluster.base (history p.database.cluster.pipeline)) c.as_ref-parts.ensures c.laws_of.ensures.legal) in
    (run_ends first at_first holds steps replies c.args.self.now.database done.0 legal).headline
