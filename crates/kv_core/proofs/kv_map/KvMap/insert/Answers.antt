use Rattle.std.proofs.Common.{◌∙◌, ap}
use Rattle.std.specs.FinMap as finite
use Rattle.kv_core.proofs.Stored.{stored, stored-set}
use Rattle.kv_core.proofs.kv_map.KvMap.insert.Goals as goal

pub returns-clause-ok : goal.returns-clause-ok
returns-clause-ok c =
    ap stored c.in_ok-insert.ensures.entries
    ∙ stored-set c.self.inside.pairs.entries c.args.key c.args.value
    ∙ ap (λ m. finite.insert m c.args.key c.args.value) c.self.view_is
