use Rattle.std.proofs.lemmas.Result.{err_from_is_err_and}
use Rattle.cluster_core.specs.Server.{server_state}
use Rattle.cluster_core.proofs.TierStarts.{below-servers, kept-there, pulled-there, state-there, tier-set, unpulled-there}
use Rattle.cluster_core.proofs.tier.Tier.pull.Goals as goal

pub pull-requires-clause-next : goal.pull-requires-clause-next
pull-requires-clause-next c =
    let f = c.self.inside in
    c.requires.next (server_state c.index_mut-server.result.now)
    (state-there c.args.self.now f.splits f.window f.servers.items c.self.view_is c.args.s c.index_mut-server.result.now
    (below-servers c.args.self.now f.splits f.window f.servers.items c.self.view_is c.args.s c.requires.server) c.index_mut-server.ensures.value)

pub pull-requires-clause-kept : goal.pull-requires-clause-kept
pull-requires-clause-kept c =
    let f = c.self.inside in
    kept-there f.window f.servers.items c.args.s c.index_mut-server.result.now (below-servers c.args.self.now f.splits f.window f.servers.items c.self.view_is c.args.s c.requires.server)
    c.index_mut-server.ensures.value c.self.invariant.kept

pub invariant_of-self : goal.invariant_of-self
invariant_of-self c =
    let f = c.self.inside in
    tier-set f.splits f.window f.servers.items c.args.s c.index_mut-server.result.now c.pull.new.self c.index_mut-server.ensures.value c.in_err-pull.ensures.owner c.in_err-pull.ensures.kept c.self.invariant

pub returns-in_err-pull-clause-err : goal.returns-in_err-pull-clause-err
returns-in_err-pull-clause-err c =
    let f = c.self.inside in
    let p = err_from_is_err_and c.from_residual.result c.from_residual.ensures.1 in
    rw p.1
    (unpulled-there c.args.self.now f.splits f.window f.servers.items c.self.view_is c.args.s c.index_mut-server.result.now c.pull.new.self c.index_mut-server.ensures.value c.in_err-pull.ensures.err)

pub invariant_of-self-2 : goal.invariant_of-self-2
invariant_of-self-2 c =
    let f = c.self.inside in
    tier-set f.splits f.window f.servers.items c.args.s c.index_mut-server.result.now c.pull.new.self c.index_mut-server.ensures.value c.in_ok-pull.ensures.owner c.in_ok-pull.ensures.kept c.self.invariant

pub returns-clause-ok : goal.returns-clause-ok
returns-clause-ok c =
    let f = c.self.inside in
    pulled-there c.args.self.now f.splits f.window f.servers.items c.self.view_is c.args.s c.index_mut-server.result.now c.pull.new.self c.args.mutations.now
    (below-servers c.args.self.now f.splits f.window f.servers.items c.self.view_is c.args.s c.requires.server) c.index_mut-server.ensures.value c.self.invariant c.in_ok-pull.ensures.ok
