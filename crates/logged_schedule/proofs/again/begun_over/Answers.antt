use Rattle.logged_schedule.proofs.Rising.{begun_on_none, begun_on_some, some_on_none, some_on_some}
use Rattle.logged_schedule.proofs.again.begun_over.Goals as goal

pub returns-then-last-eq0-clause-begun : goal.returns-then-last-eq0-clause-begun
returns-then-last-eq0-clause-begun c = begun_on_none c.args.config c.args.image c.version-last.result c.max.result c.new.result c.version-last.ensures c.if-last-eq0.true c.max.ensures c.new.ensures.begun

pub returns-then-last-eq0-clause-over_some : goal.returns-then-last-eq0-clause-over_some
returns-then-last-eq0-clause-over_some c = some_on_none c.args.config c.max.result c.new.result c.new.ensures.over_none

pub returns-clause-begun : goal.returns-clause-begun
returns-clause-begun c = begun_on_some c.args.config c.args.image c.version-last.result c.max.result c.over.result c.version-last.ensures c.max.ensures c.over.ensures.begun

pub returns-clause-over_some : goal.returns-clause-over_some
returns-clause-over_some c = some_on_some c.args.config c.max.result c.over.result c.over.ensures.over_some
