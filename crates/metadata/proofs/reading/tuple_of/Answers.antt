use Rattle.metadata.proofs.ReadBack.{tuple_found}
use Rattle.metadata.proofs.reading.tuple_of.Goals as goal

pub returns-in-Nested : goal.returns-in-Nested
returns-in-Nested c = tuple_found _ c.in-Nested.tuple c.in-Nested.is
