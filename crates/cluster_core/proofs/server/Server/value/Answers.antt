use Rattle.std.proofs.Common.{◌∙◌, ap, sym}
use Rattle.std.specs.FinMap.{get}
use Rattle.cluster_core.specs.Chains.{shown}
use Rattle.cluster_core.proofs.ServerSteps.{read_map}
use Rattle.cluster_core.proofs.server.Server.value.Goals as goal

pub returns : goal.returns
returns c =
    let server = c.args.self.now in
    c.value.ensures
    ∙ ap (λ m. get m c.args.key.now) (ap (shown server.chains.chains.entries) c.version_read.ensures ∙ sym (read_map server c.args.version))
