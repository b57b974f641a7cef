use Rattle.cluster_core.proofs.ClusterSteps.{none_from}
use Rattle.cluster_core.specs.Roles.{submit_refusal}
use Rattle.commits.proofs.Handling.{behind-unread, now-readable}
use Rattle.commits.proofs.commit.ClusterCommit.commit.Goals as goal
use Rattle.std.proofs.Common.{◌∙◌, ap, sym}
use Rattle.commits.specs.Holds.{verdict}

pub returns-in-Ok-clause-readable : goal.returns-in-Ok-clause-readable
returns-in-Ok-clause-readable c =
    now-readable c.handle.new.roles c.pull_all.new.self c.args.request c.args.self.now.pipeline c.in_ok-reported.ensures.handled c.in_ok-reported.ensures.some_log c.in-Ok.ensures.pulled
    c.in-Ok.ensures.all

pub returns-in-Err-clause-refused : goal.returns-in-Err-clause-refused
returns-in-Err-clause-refused c = (
  none_from (submit_refusal c.args.self.now.pipeline c.args.request.read_version) c.in_ok-reported.ensures.allowed,
  c.in-Err.ensures.pulled.pipeline ∙ c.in_ok-reported.ensures.handled,
  c.in_ok-reported.ensures.decided ∙ ap (verdict c.args.request) (sym c.in-Err.ensures.pulled.pipeline),
  behind-unread c.handle.new.roles c.pull_all.new.self c.args.request c.args.self.now.pipeline c.in_ok-reported.ensures.handled c.in_ok-reported.ensures.some_log c.in-Err.ensures.pulled
      c.in-Err.ensures.behind,
)
