use Rattle.std.proofs.Common.{refl, sym}
use Rattle.logged_schedule.proofs.laws.entries_tell_of_commits.Goals as goal

pub returns : goal.returns
returns c = λ one committed same. record { version = sym same; store = refl; changes = refl }
