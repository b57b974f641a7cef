use Rattle.command_log.proofs.ReadBack.{tuple_found}
use Rattle.command_log.proofs.part.tuple_in.Goals as goal

pub returns-in-Nested : goal.returns-in-Nested
returns-in-Nested c = tuple_found _ c.in-Nested.tuple c.in-Nested.is
