use Rattle.std.proofs.Common.{◌≡◌, ◌≤◌, ◌∙◌, ap, subst, IfOk, length, arith}
use Rattle.kv_core.specs.Bytes.{next_key}
use Rattle.txn.proofs.Rounds.{read_back, read_on}
use Rattle.txn.proofs.read.range_read.Goals as goal

pub returns-then-reverse : goal.returns-then-reverse
returns-then-reverse c =
    let full : c.args.limit ≤ length c.args.pairs.now = omega (arith, c.if-pairs-limit.false) in
    subst (λ r. IfOk c.starting_at.result (λ read. read ≡ r))
    (read_back c.args.range.now c.args.limit c.args.reverse c.args.pairs.now c.last_key-last.result.now c.if-reverse.true full (c.last_key-last.ensures ∙ ap (λ k. Rattle.kv_core.specs.Read.last_key k c.args.pairs.now) c.begin.ensures.value)
    (c.requires full)) c.starting_at.ensures

pub returns-in_ok-next : goal.returns-in_ok-next
returns-in_ok-next c =
    let full : c.args.limit ≤ length c.args.pairs.now = omega (arith, c.if-pairs-limit.false) in
    subst (λ r. IfOk c.upto.result (λ read. read ≡ r))
    (read_on c.args.range.now c.args.limit c.args.reverse c.args.pairs.now c.in_ok-next.field-0 c.if-reverse.false full
    (c.in_ok-next.ensures ∙ ap next_key (c.last_key-last.ensures ∙ ap (λ k. Rattle.kv_core.specs.Read.last_key k c.args.pairs.now) c.begin.ensures.value)) (c.requires full)) c.upto.ensures
