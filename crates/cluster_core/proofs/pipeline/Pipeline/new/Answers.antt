use Rattle.std.proofs.Common.{◌∙◌, [], ap, map, replicate, sym}
use Rattle.cluster_core.specs.Decision.{owners}
use Rattle.cluster_core.specs.Progress.{fresh, pipeline_state}
use Rattle.cluster_core.proofs.Clocks.{state_first}
use Rattle.cluster_core.proofs.Configured.{some_log}
use Rattle.cluster_core.proofs.Standing.{no_requests}
use Rattle.cluster_core.proofs.pipeline.Pipeline.new.Goals as goal

pub with_roles-requires : goal.with_roles-requires
with_roles-requires c = some_log c.args.config.now (sym c.refusal_of.ensures ∙ c.in_default.is)

pub returns-clause-made : goal.returns-clause-made
returns-clause-made c =
    let config = c.args.config.now in
    c.in_ok-pipeline.ensures
    ∙ ap (λ splits. pipeline_state splits config.window config.start no_requests (map fresh (owners splits)) (replicate config.logs []) 0) c.in_ok-splits.ensures
    ∙ state_first config
