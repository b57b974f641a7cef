use Rattle.std.proofs.Common.{◌≡◌, ◌∙◌, IfOk, ap, subst, sym}
use Rattle.kv_core.specs.Read.{read_of}
use Rattle.cluster_core.specs.Chains.{shown}
use Rattle.cluster_core.proofs.ServerSteps.{read_map}
use Rattle.cluster_core.proofs.server.Server.read.Goals as goal

pub returns : goal.returns
returns c =
    let server = c.args.self.now in
    subst (λ m. IfOk c.read.result (λ pairs. pairs.items ≡ read_of m c.args.range.now c.args.limit c.args.reverse))
    (ap (shown server.chains.chains.entries) c.version_read.ensures ∙ sym (read_map server c.args.version)) c.read.ensures
