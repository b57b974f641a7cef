use Rattle.runtime.proofs.Bases.{logged_none}
use Rattle.runtime.proofs.base.Base.none.Goals as goal

pub returns-clause-logged : goal.returns-clause-logged
returns-clause-logged c = logged_none c.new.result.items c.new-2.result c.new.ensures.items c.new-2.ensures
