use Rattle.kv_core.proofs.Padded.{zero_behind}
use Rattle.kv_core.proofs.short_bytes.ShortBytes.new.Goals as goal

pub invariant_of-result : goal.invariant_of-result
invariant_of-result c = (c.requires, rw c.copy_from_slice.ensures.after (zero_behind c.args.own.now 30))
