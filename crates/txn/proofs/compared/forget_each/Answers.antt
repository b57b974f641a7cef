use Rattle.std.proofs.Common.{◌∙◌, [], ap, cond}
use Rattle.std.proofs.lemmas.List.{take_all}
use Rattle.kv_core.specs.Bytes.{has_key}
use Rattle.txn.specs.Own.{compared_at}
use Rattle.txn.proofs.Comparing.{forgot_more}
use Rattle.txn.proofs.compared.forget_each.Goals as goal

pub loop-key-preserved : goal.loop-key-preserved
loop-key-preserved c = λ q.
    forgot_more c.args.keys.now c.loop-key.key-index c.key-item.result q _ _ _ c.loop-key-test.true c.key-item.is (c.loop-key.invariant q) (c.forget_key.ensures q)

pub returns : goal.returns
returns c = λ q.
    c.loop-key.invariant q ∙ ap (λ ks. cond (has_key ks q) [] (compared_at c.args.compared.now q)) (take_all c.loop-key.key-index c.args.keys.now c.loop-key-test.false)
