use Rattle.runtime.proofs.Kept.{stored_if}
use Rattle.runtime.proofs.group_commit.look_in.Goals as goal

pub returns-clause-stored : goal.returns-clause-stored
returns-clause-stored g c = stored_if g.E.End.may_leave g.E.End.is_log c.kept_and_seen-owned.result.1 c.args.log.now c.kept_and_seen-owned.result.0.end c.kept_and_seen-owned.ensures.safe
