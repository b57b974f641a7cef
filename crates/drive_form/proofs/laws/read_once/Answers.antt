use Rattle.drive_form.proofs.Telling.{told_once}
use Rattle.drive_form.proofs.laws.read_once.Goals as goal

pub returns : goal.returns
returns c = told_once
