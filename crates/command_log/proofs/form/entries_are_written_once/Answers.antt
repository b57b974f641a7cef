use Rattle.command_log.proofs.Bytes.{bytes_spell, bytes_tell}
use Rattle.command_log.proofs.form.entries_are_written_once.Goals as goal

pub returns : goal.returns
returns c = record { spelled = bytes_spell; once = bytes_tell }
