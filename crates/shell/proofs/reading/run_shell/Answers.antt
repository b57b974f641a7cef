use Rattle.shell.proofs.Further.{steps_further}
use Rattle.shell.proofs.reading.run_shell.Goals as goal

pub returns-clause-steps : goal.returns-clause-steps
returns-clause-steps g c = λ first of. steps_further first c.args.database c.in_ok-after.after c.in_ok-after.ensures of
