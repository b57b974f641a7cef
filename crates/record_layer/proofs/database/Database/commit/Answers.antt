use Rattle.std.proofs.Common.{◌∙◌, ap, false, sym}
use Rattle.cluster_core.specs.Cluster.{ClusterState}
use Rattle.cluster_core.specs.Roles.{submit, submit_refusal}
use Rattle.cluster_core.proofs.ClusterSteps.{none_from}
use Rattle.record_layer.specs.Databases.{DatabaseView}
use Rattle.record_layer.proofs.Settling.{committed_request, refused_request, submitted_database}
use Rattle.record_layer.proofs.database.Database.commit.Goals as goal

pub invariant_of-self-2 : goal.invariant_of-self-2
invariant_of-self-2 c =
    submitted_database c.self.inside.cluster c.submit.new.self c.self.inside.is_settled c.into_request-request.result c.self.invariant (cc (c.if-not-self.false)) c.in_default.ensures.given.0

pub returns-clause-committed : goal.returns-clause-committed
returns-clause-committed c =
    committed_request c.args.tx c.args.self.now (record { cluster = c.submit.new.self; is_settled = false }) c.finish.new.self
    (ap (λ (s : ClusterState). s.pipeline) c.in_default.ensures.given.0 ∙ (λ i. submit (c.into_request-request.ensures i) (c.self.view_is i).cluster.pipeline))
    c.finish.result c.finish.ensures.settled c.finish.ensures.committed

pub returns-clause-refused : goal.returns-clause-refused
returns-clause-refused c =
    refused_request c.args.tx c.args.self.now (record { cluster = c.submit.new.self; is_settled = false }) c.finish.new.self
    (ap (λ (s : ClusterState). s.pipeline) c.in_default.ensures.given.0 ∙ (λ i. submit (c.into_request-request.ensures i) (c.self.view_is i).cluster.pipeline))
    c.finish.result (
      ap (λ (d : DatabaseView). d.is_settled) (sym c.self.view_is) ∙ cc (c.if-not-self.false),
      sym (λ i. submit_refusal (c.self.view_is i).cluster.pipeline (c.into_request-request.ensures i).read_version)
          ∙ none_from (submit_refusal c.self.inside.cluster.pipeline c.into_request-request.result.read_version) c.in_default.ensures.allowed,
    )
    c.finish.ensures.refused
