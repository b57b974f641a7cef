use Rattle.std.proofs.Common.{rules, ◌∙◌, ◌<◌, ◌^◌, ap, map, subst, sym}
use Rattle.cluster_core.specs.Decision.{owners}
use Rattle.cluster_core.specs.Progress.{IsPipeline, fresh, pipeline_state}
use Rattle.cluster_core.proofs.Standing.{no_requests, stands_first}
use Rattle.cluster_core.proofs.pipeline.Pipeline.with_roles.Goals as goal

pub invariant_of-result : goal.invariant_of-result
invariant_of-result c =
    let small : c.args.start < 2 ^ 64 = search rules in
    let resolvers = c.in_ok-resolvers.ensures ∙ ap (map fresh) (c.in_ok-parts.ensures ∙ ap owners c.as_slice.ensures) in
    subst (λ qs. IsPipeline c.args.splits c.args.window c.args.start qs c.in_ok-resolvers.resolvers.items c.in_ok-logs.logs.items 0) (sym c.new.ensures)
    (subst (λ rs. IsPipeline c.args.splits c.args.window c.args.start no_requests rs c.in_ok-logs.logs.items 0) (sym resolvers)
    (subst (λ ls. IsPipeline c.args.splits c.args.window c.args.start no_requests (map fresh (owners c.args.splits)) ls 0) (sym c.in_ok-logs.ensures)
    (stands_first c.args.splits c.args.window c.args.start c.args.logs small c.requires)))

pub returns : goal.returns
returns c =
    let resolvers = c.in_ok-resolvers.ensures ∙ ap (map fresh) (c.in_ok-parts.ensures ∙ ap owners c.as_slice.ensures) in
    λ i. pipeline_state c.args.splits c.args.window c.args.start (c.new.ensures i) (resolvers i) (c.in_ok-logs.ensures i) 0
