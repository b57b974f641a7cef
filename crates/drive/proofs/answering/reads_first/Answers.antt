use Rattle.std.proofs.Common.{◌≡◌, sym, ap, ◌∙◌}
use Rattle.kv_core.specs.Bytes.{key_le}
use Rattle.kv_core.proofs.Order.{tied_keys}
use Rattle.drive.proofs.Resting.{first_backward, first_forward}
use Rattle.drive.proofs.answering.reads_first.Goals as goal

pub returns-then-eq : goal.returns-then-eq
returns-then-eq c =
    let range = c.args.want.now.range in
    let part = c.args.part.now in
    let end : range.end ≡ part.end = sym c.end.ensures ∙ tied_keys c.end.result.now c.end-then-want.result.now (sym c.eq.ensures ∙ c.if-eq.true) ∙ c.end-then-want.ensures in
    first_backward c.args.want.now.reverse c.is_upto.result range part c.if-want.true end
    (c.is_upto.ensures ∙ ap (λ b. key_le b c.begin-then-eq.result.now) c.begin.ensures.value ∙ ap (key_le range.begin) c.begin-then-eq.ensures.value)

pub returns-then-eq-2 : goal.returns-then-eq-2
returns-then-eq-2 c =
    let range = c.args.want.now.range in
    let part = c.args.part.now in
    let begin : range.begin ≡ part.begin = sym c.begin-else-want.ensures.value ∙ tied_keys c.begin-else-want.result.now c.begin-else-want-2.result.now (sym c.eq-else-want.ensures ∙ c.if-eq-2.true) ∙ c.begin-else-want-2.ensures.value in
    first_forward c.args.want.now.reverse c.is_upto-then-eq-2.result range part c.if-want.false begin
    (c.is_upto-then-eq-2.ensures ∙ ap (λ e. key_le e c.end-then-eq-2-2.result.now) c.end-then-eq-2.ensures ∙ ap (key_le part.end) c.end-then-eq-2-2.ensures)
