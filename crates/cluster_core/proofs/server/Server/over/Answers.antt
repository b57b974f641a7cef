use Rattle.std.proofs.Common.{◌≡◌, ◌∙◌, ap, sym}
use Rattle.std.specs.FinMap.{empty}
use Rattle.kv_core.specs.Map.{after_all}
use Rattle.cluster_core.specs.Configuration.{first_server_over}
use Rattle.cluster_core.specs.Server.{owner_of}
use Rattle.cluster_core.specs.Tier.{absorb}
use Rattle.cluster_core.proofs.OverBase.{any_window, over_first}
use Rattle.cluster_core.proofs.server.Server.over.Goals as goal

pub pull-requires-clause-kept : goal.pull-requires-clause-kept
pull-requires-clause-kept c = c.new-server.ensures.kept 0

pub returns-clause-first : goal.returns-clause-first
returns-clause-first c =
    let ms = c.args.mutations.now in
    let owner : owner_of c.pull.new.self ≡ c.args.part = c.in_ok-pull.ensures.owner ∙ c.new-server.ensures.owner in
    c.in_ok-pull.ensures.ok
    ∙ (λ i. absorb 0 (c.new-server.ensures.owner i) ms (c.new-server.ensures.first i))
    ∙ over_first c.args.part ms c.args.version c.requires
    ∙ ap (first_server_over (after_all ms empty) c.args.version) (sym owner)

pub returns-clause-kept : goal.returns-clause-kept
returns-clause-kept c window = any_window c.pull.new.self c.in_ok-pull.ensures.kept window
