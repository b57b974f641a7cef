use Rattle.std.proofs.Common.{◌∙◌, sym}
use Rattle.kv_core.proofs.Reaching.{walk_on, walk_on_end, walk_on_stop, walk_on_turn}
use Rattle.kv_core.proofs.coverage.first_past.Goals as goal

pub loop-begin-init : goal.loop-begin-init
loop-begin-init c =
    walk_on c.args.stretches.now.entries c.into_iter-begin-iterator.result c.args.key.now c.end_over-place.result.now c.range-begin-items.ensures.ordered c.requires c.end_over-place.ensures.reaches
    (c.into_iter-begin-iterator.ensures.into_iter_gives ∙ c.range-begin-items.ensures.between tt)

pub loop-begin-preserved : goal.loop-begin-preserved
loop-begin-preserved c =
    walk_on_turn c.args.stretches.now.entries c.loop-begin.begin-iterator c.next.new.self c.args.key.now c.loop-begin.place.now c.in-Some.begin.now c.in-Some.end.now c.in-Some.ensures.steps
    (sym c.is_before.ensures ∙ c.if-is_before.false) c.loop-begin.invariant

pub returns-then-is_before-clause-left_out : goal.returns-then-is_before-clause-left_out
returns-then-is_before-clause-left_out c =
    walk_on_stop c.args.stretches.now.entries c.loop-begin.begin-iterator c.next.new.self c.args.key.now c.loop-begin.place.now c.in-Some.begin.now c.in-Some.end.now
    c.range-begin-items.ensures.ordered c.in-Some.ensures.steps (sym c.is_before.ensures ∙ c.if-is_before.true) c.loop-begin.invariant

pub returns-clause-left_out : goal.returns-clause-left_out
returns-clause-left_out c =
    walk_on_end c.args.stretches.now.entries c.loop-begin.begin-iterator c.args.key.now c.loop-begin.place.now c.range-begin-items.ensures.ordered c.in-None.ensures.steps.0 c.loop-begin.invariant
