use Rattle.record_store.proofs.EightBytes.{eight}
use Rattle.record_store.proofs.aggregate.total_in.Goals as goal

pub returns-in-len8 : goal.returns-in-len8
returns-in-len8 c = eight c.args.bytes.now c.from_le_bytes.result c.in-len8.len_at_least c.in-len8.len_below c.from_le_bytes.ensures
