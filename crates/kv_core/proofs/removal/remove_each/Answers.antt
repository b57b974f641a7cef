use Rattle.std.proofs.Common.{◌∙◌, None, cond, ap}
use Rattle.std.proofs.lemmas.List.{take_all}
use Rattle.std.specs.BTreeMap.{get}
use Rattle.kv_core.specs.Bytes.{has_key, key_cmp}
use Rattle.kv_core.proofs.Stored.{taken_more}
use Rattle.kv_core.proofs.removal.remove_each.Goals as goal

pub loop-key-preserved : goal.loop-key-preserved
loop-key-preserved c = (
  λ q.
      taken_more c.args.keys.now c.loop-key.key-index c.key-item.result q _ _ _ c.loop-key-test.true c.key-item.is (c.loop-key.invariant.0 q)
      (c.remove.ensures.updates.0 q),
  c.remove.ensures.ordered,
)

pub returns-clause-gone : goal.returns-clause-gone
returns-clause-gone c = λ q.
    c.loop-key.invariant.0 q ∙ ap (λ ks. cond (has_key ks q) None (get key_cmp c.args.map.now q)) (take_all c.loop-key.key-index c.args.keys.now c.loop-key-test.false)
