use Rattle.std.proofs.Common.{◌≡◌, ◌<◌, length, rules, sym, ◌∙◌}
use Rattle.cluster_core.proofs.OwnMaps.{All-others, first_of_all}
use Rattle.cluster_core.proofs.Telling.{first_none, first_some}
use Rattle.cluster_core.proofs.resolver.+take_cause.Goals as goal

pub take_cause-first-requires : goal.take_cause-first-requires
take_cause-first-requires t c = first_of_all (λ r. r.told < length r.causes) c.in-Some.resolver.now c.in-Some.others.now c.args.resolvers.now c.in-Some.ensures.cases.0 c.requires

pub take_cause-later-requires : goal.take_cause-later-requires
take_cause-later-requires t c =
    (search rules, All-others (λ r. r.told < length r.causes) c.in-Some.resolver.now c.in-Some.others.now c.args.resolvers.now c.in-Some.ensures.cases.0 c.requires)

pub returns-then-is_some-clause-cause : goal.returns-then-is_some-clause-cause
returns-then-is_some-clause-cause t c = λ place told.
    first_some place c.in-Some.resolver.now c.in-Some.others.now c.args.resolvers.now c.take_cause-first.result c.in-Some.ensures.cases.0
    (first_of_all (λ r. r.told ≡ place) c.in-Some.resolver.now c.in-Some.others.now c.args.resolvers.now c.in-Some.ensures.cases.0 told)
    c.take_cause-first.ensures.cause (sym c.is_some.ensures ∙ c.if-is_some.true)

pub returns-else-is_some-clause-cause : goal.returns-else-is_some-clause-cause
returns-else-is_some-clause-cause t c = λ place told.
    first_none place c.in-Some.resolver.now c.in-Some.others.now c.args.resolvers.now c.take_cause-first.result c.take_cause-later.result c.in-Some.ensures.cases.0
    (first_of_all (λ r. r.told ≡ place) c.in-Some.resolver.now c.in-Some.others.now c.args.resolvers.now c.in-Some.ensures.cases.0 told)
    c.take_cause-first.ensures.cause (sym c.is_some.ensures ∙ c.if-is_some.false)
    (c.take_cause-later.ensures.cause place (All-others (λ r. r.told ≡ place) c.in-Some.resolver.now c.in-Some.others.now c.args.resolvers.now c.in-Some.ensures.cases.0 told))
