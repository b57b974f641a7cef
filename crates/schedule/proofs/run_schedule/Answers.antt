use Rattle.cluster_core.specs.Configuration.{first_cluster}
use Rattle.schedule.specs.Holds.{no_stores}
use Rattle.schedule.proofs.OwnStore.{holds_nothing}
use Rattle.schedule.proofs.RunSteps.{ended}
use Rattle.schedule.proofs.run_schedule.Goals as goal

pub returns-in-Some-clause-right : goal.returns-in-Some-clause-right
returns-in-Some-clause-right c =
    (ended (first_cluster c.args.config.now) no_stores holds_nothing c.args.steps.now c.in-Ok.replies.items c.new.result c.in-Some.commits c.steps.new.self c.new.ensures c.in-Some.ensures (c.in-Ok.ensures c.args.config.now c.in_ok-database.ensures.made) c.laws_of.ensures.legal).right

pub returns-in-Some-clause-exact : goal.returns-in-Some-clause-exact
returns-in-Some-clause-exact c =
    (ended (first_cluster c.args.config.now) no_stores holds_nothing c.args.steps.now c.in-Ok.replies.items c.new.result c.in-Some.commits c.steps.new.self c.new.ensures c.in-Some.ensures (c.in-Ok.ensures c.args.config.now c.in_ok-database.ensures.made) c.laws_of.ensures.legal).exact

pub returns-in-Some-clause-headline : goal.returns-in-Some-clause-headline
returns-in-Some-clause-headline c =
    (ended (first_cluster c.args.config.now) no_stores holds_nothing c.args.steps.now c.in-Ok.replies.items c.new.result c.in-Some.commits c.steps.new.self c.new.ensures c.in-Some.ensures (c.in-Ok.ensures c.args.config.now c.in_ok-database.ensures.made) c.laws_of.ensures.legal).headline
