use Rattle.metadata.proofs.FieldAdded.{field_lawful}
use Rattle.metadata.proofs.IndexAdded.{index_lawful}
use Rattle.metadata.proofs.StayLawful.{dropped_lawful, made_lawful, type_lawful}
use Rattle.metadata.proofs.written.schemas_stay_lawful.Goals as goal

pub returns-clause-made : goal.returns-clause-made
returns-clause-made c = made_lawful

pub returns-clause-types : goal.returns-clause-types
returns-clause-types c = type_lawful

pub returns-clause-fields : goal.returns-clause-fields
returns-clause-fields c = field_lawful

pub returns-clause-indexes : goal.returns-clause-indexes
returns-clause-indexes c = index_lawful

pub returns-clause-dropped : goal.returns-clause-dropped
returns-clause-dropped c = dropped_lawful
