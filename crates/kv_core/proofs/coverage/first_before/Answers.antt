use Rattle.std.proofs.Common.{◌∙◌, sym}
use Rattle.kv_core.proofs.Retracing.{walk_back, walk_back_end, walk_back_stop, walk_back_turn}
use Rattle.kv_core.proofs.coverage.first_before.Goals as goal

pub loop-begin-init : goal.loop-begin-init
loop-begin-init c =
    walk_back c.args.stretches.now.entries c.range-earlier.result c.args.key.now c.range-earlier.ensures.ordered (c.range-earlier.ensures.between tt)

pub loop-begin-preserved : goal.loop-begin-preserved
loop-begin-preserved c =
    walk_back_turn c.args.stretches.now.entries c.loop-begin.earlier c.next_back.new.self c.args.key.now c.loop-begin.place.now c.in-Some.begin.now c.in-Some.end.now c.in-Some.ensures.steps
    (sym c.is_before.ensures ∙ c.if-is_before.false) c.loop-begin.invariant

pub returns-then-is_before-clause-stops : goal.returns-then-is_before-clause-stops
returns-then-is_before-clause-stops c =
    walk_back_stop c.args.stretches.now.entries c.loop-begin.earlier c.next_back.new.self c.args.key.now c.loop-begin.place.now c.in-Some.begin.now c.in-Some.end.now
    c.range-earlier.ensures.ordered c.requires c.in-Some.ensures.steps (sym c.is_before.ensures ∙ c.if-is_before.true) c.loop-begin.invariant

pub returns-clause-stops : goal.returns-clause-stops
returns-clause-stops c =
    walk_back_end c.args.stretches.now.entries c.loop-begin.earlier c.args.key.now c.loop-begin.place.now c.range-earlier.ensures.ordered c.in_default.ensures.steps.0 c.loop-begin.invariant
