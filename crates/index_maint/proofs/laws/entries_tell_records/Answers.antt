use Rattle.index_maint.proofs.EntryKeys.{entries_apart}
use Rattle.index_maint.proofs.laws.entries_tell_records.Goals as goal

pub returns : goal.returns
returns c = λ prefix index r s. entries_apart prefix index.number index r s
