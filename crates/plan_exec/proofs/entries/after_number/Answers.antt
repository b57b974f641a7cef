use Rattle.plan_exec.proofs.EntryCells.{number_beyond, number_told}
use Rattle.plan_exec.proofs.entries.after_number.Goals as goal

pub returns-then-number-lt-BEYOND_CELLS-clause-told : goal.returns-then-number-lt-BEYOND_CELLS-clause-told
returns-then-number-lt-BEYOND_CELLS-clause-told c = number_told c.args.number c.from.result c.from.ensures c.if-number-lt-BEYOND_CELLS.true c.args.bytes.now c.strip_int.result c.strip_int.ensures

pub returns-else-number-lt-BEYOND_CELLS-clause-told : goal.returns-else-number-lt-BEYOND_CELLS-clause-told
returns-else-number-lt-BEYOND_CELLS-clause-told c = number_beyond c.args.number c.if-number-lt-BEYOND_CELLS.false c.args.bytes.now
