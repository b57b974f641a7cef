use Rattle.std.proofs.Common.{◌∙◌}
use Rattle.kv_core.proofs.Stored.{clear_applied}
use Rattle.kv_core.proofs.kv_map.KvMap.apply.Goals as goal

pub returns-in_ok-keys-in-ClearRange-clause-ok : goal.returns-in_ok-keys-in-ClearRange-clause-ok
returns-in_ok-keys-in-ClearRange-clause-ok c =
    clear_applied c.args.self.now c.self.inside.pairs.entries c.remove_each.new.map.entries c.args.mutation.now c.in-ClearRange.range _ c.self.view_is c.in-ClearRange.is
    (c.as_slice.ensures.value ∙ c.in_ok-keys-in-ClearRange.ensures.keys) c.remove_each.ensures.gone
