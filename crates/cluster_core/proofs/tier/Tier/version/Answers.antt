use Rattle.std.proofs.Common.{◌∙◌, Some, ap, sym}
use Rattle.std.proofs.lemmas.Option.{slice_get-map}
use Rattle.std.specs.Option.{option_map}
use Rattle.cluster_core.proofs.TierStarts.{below-servers, state-there}
use Rattle.cluster_core.proofs.tier.Tier.version.Goals as goal

pub returns : goal.returns
returns c =
    let f = c.self.inside in
    slice_get-map (λ server. server.version) c.args.self.now.servers c.args.s
    ∙ ap (option_map (λ server. server.version))
    (state-there c.args.self.now f.splits f.window f.servers.items c.self.view_is c.args.s c.index.result.now
    (below-servers c.args.self.now f.splits f.window f.servers.items c.self.view_is c.args.s c.requires) c.index.ensures)
    ∙ ap Some (sym c.version.ensures)
