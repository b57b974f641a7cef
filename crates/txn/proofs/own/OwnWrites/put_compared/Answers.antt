use Rattle.std.proofs.Common.{◌∙◌, ap, cond}
use Rattle.std.proofs.lemmas.List.{take_all}
use Rattle.std.specs.FinMap.{get}
use Rattle.kv_core.specs.Bytes.{has_key}
use Rattle.txn.specs.Own.{own_state, under}
use Rattle.txn.proofs.Comparing.{put_more}
use Rattle.txn.proofs.own.OwnWrites.put_compared.Goals as goal

pub loop-key-preserved : goal.loop-key-preserved
loop-key-preserved c = λ q.
    put_more (own_state c.args.self.now) c.args.keys.now c.loop-key.key-index c.key-item.result q c.args.left.now c.in_ok-value.value (get c.args.map q) (get c.loop-key.laid q) (get c.put.new.map q)
    c.loop-key-test.true c.key-item.is (c.in_ok-value.ensures ∙ ap (under (own_state c.args.self.now) c.key-item.result) (c.in_ok-before.ensures ∙ c.get.ensures)) (c.loop-key.invariant q) (c.in_ok-put.ensures q)

pub returns : goal.returns
returns c = λ q.
    c.loop-key.invariant q
    ∙ ap (λ ks. cond (has_key ks q) (under (own_state c.args.self.now) q (get c.args.left.now q)) (get c.args.map q)) (take_all c.loop-key.key-index c.args.keys.now c.loop-key-test.false)
