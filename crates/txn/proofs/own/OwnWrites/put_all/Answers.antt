use Rattle.std.proofs.Common.{◌≡◌, ◌∙◌, ap, arith, cond}
use Rattle.std.specs.FinMap.{get}
use Rattle.kv_core.specs.Bytes.{has_key}
use Rattle.kv_core.specs.Map.{pairs_in}
use Rattle.txn.specs.Own.{laid_over, own_state, under}
use Rattle.txn.proofs.Merging.{laid_whole}
use Rattle.txn.proofs.Whole.{all_read}
use Rattle.txn.proofs.own.OwnWrites.put_all.Goals as goal

pub returns : goal.returns
returns c = λ q inside.
    let own = c.args.self.now in
    let all : c.in_ok-own.own.items ≡ pairs_in own.written c.args.range.now =
    all_read own.written c.args.range.now 18446744073709551615 c.in_ok-own.own.items (omega (arith, c.in_ok-own.own.small)) c.in_ok-own.ensures in
    c.in_ok-all.ensures q
    ∙ ap (cond (has_key c.args.keys.now q) (under (own_state own) q (get c.args.left q)))
    (ap (λ x. get x q) (c.in_ok-laid.ensures ∙ (λ i. laid_over own.sums.entries (all i) (c.in_ok-copy.ensures i)))
    ∙ laid_whole own.sums.entries own.written c.args.left c.args.range.now q inside)
