use Rattle.std.proofs.Common.{◌≤◌, ◌∙◌, Some, ap, length, arith}
use Rattle.kv_core.specs.Bytes.{next_key}
use Rattle.kv_core.specs.Read.{last_key}
use Rattle.txn.proofs.Cursors.{rest_before, rest_from}
use Rattle.txn.proofs.cursor.rest_behind.Goals as goal

pub returns-in_ok-before : goal.returns-in_ok-before
returns-in_ok-before c =
    let full : 64 ≤ length c.args.pairs.now = omega (arith, c.if-pairs-lt-BATCH.false) in
    ap Some c.in_ok-before.ensures
    ∙ rest_before c.args.range.now 64 c.args.reverse c.args.pairs.now c.last_key-last.result.now c.if-reverse.true full
    (c.last_key-last.ensures ∙ ap (λ k. last_key k c.args.pairs.now) c.begin.ensures.value) (c.requires full)

pub returns-in_ok-after : goal.returns-in_ok-after
returns-in_ok-after c =
    let full : 64 ≤ length c.args.pairs.now = omega (arith, c.if-pairs-lt-BATCH.false) in
    ap Some c.in_ok-after.ensures
    ∙ rest_from c.args.range.now 64 c.args.reverse c.args.pairs.now c.in_ok-next.field-0 c.if-reverse.false full
    (c.in_ok-next.ensures ∙ ap next_key (c.last_key-last.ensures ∙ ap (λ k. last_key k c.args.pairs.now) c.begin.ensures.value)) (c.requires full)
