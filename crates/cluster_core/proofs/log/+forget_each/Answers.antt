use Rattle.std.proofs.Common.{◌≤◌, length, rules}
use Rattle.cluster_core.proofs.OwnMaps.{All-others, first_of_all}
use Rattle.cluster_core.proofs.log.+forget_each.Goals as goal

pub forget-requires : goal.forget-requires
forget-requires t c = first_of_all (λ passes. c.args.place ≤ length passes) c.in-Some.log.now c.in-Some.others.now c.args.logs.now c.in-Some.ensures.cases.0 c.requires

pub forget_each-requires : goal.forget_each-requires
forget_each-requires t c =
    (search rules, All-others (λ passes. c.args.place ≤ length passes) c.in-Some.log.now c.in-Some.others.now c.args.logs.now c.in-Some.ensures.cases.0 c.requires)
