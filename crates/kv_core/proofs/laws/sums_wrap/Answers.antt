use Rattle.kv_core.proofs.Sums.{added_twice, sums_wrap_at}
use Rattle.kv_core.proofs.laws.sums_wrap.Goals as goal

pub returns-clause-wrap : goal.returns-clause-wrap
returns-clause-wrap c = sums_wrap_at

pub returns-clause-join : goal.returns-clause-join
returns-clause-join c = added_twice
