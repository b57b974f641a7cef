use Rattle.recordctl.proofs.KnownInput.{steps_none}
use Rattle.recordctl.proofs.folders.database_in.Goals as goal

pub returns-in-None-clause-over : goal.returns-in-None-clause-over
returns-in-None-clause-over g c = steps_none c.args.config c.args.empty
