use Rattle.std.proofs.Common.{◌∙◌, sym}
use Rattle.cluster_core.proofs.Shown.{get-shown}
use Rattle.cluster_core.proofs.chains.Chains.value.Goals as goal

pub returns : goal.returns
returns c = c.value_of.ensures ∙ sym (get-shown c.args.self.now.chains c.args.version c.args.key.now)
