use Rattle.kv_core.proofs.Changes.{get-after_all-value}
use Rattle.kv_core.proofs.Pairs.{pairs_by_key}
use Rattle.kv_core.proofs.laws.maps_by_their_keys.Goals as goal

pub returns-clause-values : goal.returns-clause-values
returns-clause-values c = get-after_all-value

pub returns-clause-pairs : goal.returns-clause-pairs
returns-clause-pairs c = pairs_by_key
