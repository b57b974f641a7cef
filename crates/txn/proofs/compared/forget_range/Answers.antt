use Rattle.std.proofs.Common.{◌∙◌, [], ap, cond}
use Rattle.kv_core.specs.Bytes.{has_key}
use Rattle.txn.specs.Own.{compared_at}
use Rattle.txn.proofs.Comparing.{forgotten_range}
use Rattle.txn.proofs.compared.forget_range.Goals as goal

pub returns : goal.returns
returns c =
    forgotten_range c.args.range.now c.args.compared.now c.forget_each.new.compared c.in_ok-keys.keys.items c.in_ok-keys.ensures
    (λ q. c.forget_each.ensures q ∙ ap (λ ks. cond (has_key ks q) [] (compared_at c.args.compared.now q)) c.as_slice.ensures.value)
