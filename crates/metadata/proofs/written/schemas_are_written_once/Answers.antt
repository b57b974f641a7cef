use Rattle.metadata.proofs.OneSchema.{bytes_spell, written_once}
use Rattle.metadata.proofs.written.schemas_are_written_once.Goals as goal

pub returns : goal.returns
returns c = record { spelled = bytes_spell; once = written_once }
