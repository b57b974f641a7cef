use Rattle.std.proofs.Common.{◌∙◌, sym, arith}
use Rattle.std.specs.Ordering.{nat_cmp}
use Rattle.kv_core.proofs.Spelling.{word_decides, word_passes}
use Rattle.kv_core.proofs.words.order_of.Goals as goal

pub returns-then-is_ne : goal.returns-then-is_ne
returns-then-is_ne c =
    word_decides 8 c.args.bytes.now c.args.others.now c.loop-place.place c.cmp-order.result
    (omega (arith, c.min-both.ensures, c.loop-place.invariant.0, c.loop-place-test.true)) (omega (arith, c.min-both.ensures, c.loop-place.invariant.0, c.loop-place-test.true))
    (λ k. omega (arith, c.type_inv.bytes k)) (λ k. omega (arith, c.type_inv.others k))
    (c.cmp-order.ensures ∙ (λ i. nat_cmp (c.word_at.ensures i) (c.word_at-in-loop-place.ensures i))) c.loop-place.invariant.1 (sym c.is_ne.ensures ∙ c.if-is_ne.true)

pub loop-place-preserved : goal.loop-place-preserved
loop-place-preserved c = (
  omega (arith, c.loop-place.invariant.0, c.loop-place-test.true),
  word_passes 8 c.args.bytes.now c.args.others.now c.loop-place.place c.cmp-order.result
      (omega (arith, c.min-both.ensures, c.loop-place.invariant.0, c.loop-place-test.true)) (omega (arith, c.min-both.ensures, c.loop-place.invariant.0, c.loop-place-test.true))
      (λ k. omega (arith, c.type_inv.bytes k)) (λ k. omega (arith, c.type_inv.others k))
      (c.cmp-order.ensures ∙ (λ i. nat_cmp (c.word_at.ensures i) (c.word_at-in-loop-place.ensures i))) c.loop-place.invariant.1 (sym c.is_ne.ensures ∙ c.if-is_ne.false),
)
