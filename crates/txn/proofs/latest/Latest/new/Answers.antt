use Rattle.std.proofs.Common.{false, refl}
use Rattle.txn.proofs.LastMutations.{none_noted}
use Rattle.txn.proofs.latest.Latest.new.Goals as goal

pub returns : goal.returns
returns c = none_noted (record { places = c.new.result; noted = 0; is_cut = false }) refl c.new.ensures.empty
