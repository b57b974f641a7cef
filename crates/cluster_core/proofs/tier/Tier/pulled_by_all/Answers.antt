use Rattle.std.proofs.Common.{◌≡◌, ◌∙◌, List, [], ◌∷◌, ℕ, ap, map, refl}
use Rattle.cluster_core.specs.Cluster.{done_with_by}
use Rattle.cluster_core.specs.Server.{server_state}
use Rattle.cluster_core.specs.Tier.{TierState}
use Rattle.cluster_core.specs.declared.server.Server.{Server}
use Rattle.cluster_core.proofs.tier.Tier.pulled_by_all.Goals as goal

versions : (servers : List Server) → map (λ s. s.version) servers ≡ map (λ s. s.version) (map server_state servers)
versions [] = refl
versions (s ∷ servers) = ap (λ (ns : List ℕ). s.version ∷ ns) (versions servers)

pub returns : goal.returns
returns c =
    c.least_pulled.ensures
    ∙ ap (λ (ss : List Server). done_with_by c.args.start c.args.most (map (λ s. s.version) ss)) c.as_slice.ensures.value
    ∙ ap (done_with_by c.args.start c.args.most) (versions c.self.inside.servers.items)
    ∙ ap (λ (t : TierState). done_with_by c.args.start c.args.most (map (λ s. s.version) t.servers)) c.self.view_is
