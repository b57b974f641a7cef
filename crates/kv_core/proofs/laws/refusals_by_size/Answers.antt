use Rattle.kv_core.proofs.Refusals.{write_all-by_size}
use Rattle.kv_core.proofs.laws.refusals_by_size.Goals as goal

pub returns : goal.returns
returns c = write_all-by_size
