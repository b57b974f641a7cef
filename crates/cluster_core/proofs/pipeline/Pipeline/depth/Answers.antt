use Rattle.std.proofs.Common.{◌≡◌, ◌∙◌, ◌*◌, ◌+◌, ◌-◌, ◌<◌, ◌≤◌, ap, arith, get_or, length, subst, sym}
use Rattle.std.proofs.lemmas.List.Elements.{All-get_or}
use Rattle.cluster_core.specs.Progress.{IsResolver, ResolverState}
use Rattle.cluster_core.proofs.Clocks.{within_clocks}
use Rattle.cluster_core.proofs.pipeline.Pipeline.depth.Goals as goal

pub returns : goal.returns
returns c =
    let f = c.self.inside in
    let d = c.index.result.now in
    let inside = within_clocks f.start (λ r. length r.causes) f.resolvers.items c.args.r (subst (λ p. c.args.r < length p.resolved) (sym c.self.view_is) c.requires) in
    let own = All-get_or (IsResolver f.window f.start f.requests.all f.reported) f.resolvers.items c.args.r d inside c.self.invariant.resolving in
    let within = own.recent.within in
    let is : c.depth.result ≡ length (get_or f.resolvers.items c.args.r d).causes - (get_or f.resolvers.items c.args.r d).writers.dropped =
    c.depth.ensures ∙ ap (λ (r : ResolverState). length r.causes - r.writers.dropped) c.index.ensures in
    subst (λ p. c.depth.result ≤ 2 * p.window + (1 - p.window)) c.self.view_is (omega (arith, within, is))
