use Rattle.metadata.proofs.StoredApart.{apart, named_typed, storable}
use Rattle.metadata.proofs.StoredOnce.{stored_once}
use Rattle.metadata.proofs.stored.records_are_stored_once.Goals as goal

pub returns-clause-once : goal.returns-clause-once
returns-clause-once c = stored_once

pub returns-clause-apart : goal.returns-clause-apart
returns-clause-apart c = apart

pub returns-clause-storable : goal.returns-clause-storable
returns-clause-storable c = storable

pub returns-clause-typed : goal.returns-clause-typed
returns-clause-typed c = named_typed
