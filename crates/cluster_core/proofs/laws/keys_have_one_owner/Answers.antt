use Rattle.cluster_core.proofs.Ownership.{one_owner, meets_in_an_owned_key}
use Rattle.cluster_core.proofs.laws.keys_have_one_owner.Goals as goal

pub returns-clause-one : goal.returns-clause-one
returns-clause-one c = one_owner

pub returns-clause-meets : goal.returns-clause-meets
returns-clause-meets c = meets_in_an_owned_key
