use Rattle.std.proofs.Common.{◌≤◌, ◌<◌, ◌+◌, ◌^◌, length, subst, sym, rules}
use Rattle.cluster_core.specs.Progress.{IsPipeline}
use Rattle.cluster_core.proofs.Standing.{stands_submitted}
use Rattle.cluster_core.proofs.pipeline.Pipeline.submit.Goals as goal

pub invariant_of-self-2 : goal.invariant_of-self-2
invariant_of-self-2 c =
    let small : c.self.inside.start + length c.self.inside.requests.all + 1 < 2 ^ 64 = search rules in
    let recent : c.self.inside.start + length c.self.inside.requests.all ≤ c.args.request.read_version + c.self.inside.window = search rules in
    let reads : c.args.request.read_version ≤ c.self.inside.start + length c.self.inside.requests.all = search rules in
    subst (λ xs. IsPipeline c.self.inside.splits c.self.inside.window c.self.inside.start xs c.self.inside.resolvers.items c.self.inside.logs.items c.self.inside.reported) (sym c.in_ok-push.ensures.ok)
    (stands_submitted _ _ _ _ _ _ _ c.self.invariant c.args.request small reads recent)
