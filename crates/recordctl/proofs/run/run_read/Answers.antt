use Rattle.std.proofs.Common.{IsNone}
use Rattle.recordctl.proofs.KnownInput.{run_of_begun, run_over_begun}
use Rattle.recordctl.proofs.run.run_read.Goals as goal

pub returns-clause-over : goal.returns-clause-over
returns-clause-over g c =
    run_over_begun (g.R.Read.remaining c.args.input.now) c.in_ok-text.field-0.begun c.in_ok-database.database c.write_in_turn-ran.result c.in_ok-text.ensures.ok c.in_ok-database.ensures.over (rw c.as_slice-2.ensures.value at c.write_in_turn-ran.ensures.done)

pub returns-clause-ran : goal.returns-clause-ran
returns-clause-ran g c =
    run_of_begun (g.R.Read.remaining c.args.input.now) c.in_ok-text.field-0.begun (IsNone c.args.folder) c.in_ok-database.database c.write_in_turn-ran.result c.in_ok-text.ensures.ok c.in_ok-database.ensures.empty (rw c.as_slice-2.ensures.value at c.write_in_turn-ran.ensures.done)
