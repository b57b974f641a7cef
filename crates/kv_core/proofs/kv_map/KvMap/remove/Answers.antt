use Rattle.kv_core.proofs.Stored.{stored-removed}
use Rattle.kv_core.proofs.kv_map.KvMap.remove.Goals as goal

pub returns : goal.returns
returns c = stored-removed c.args.self.now c.self.inside.pairs.entries c.remove.new.self.entries c.args.key.now c.self.view_is c.remove.ensures.updates.0
