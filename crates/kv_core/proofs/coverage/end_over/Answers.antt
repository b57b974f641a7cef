use Rattle.std.proofs.Common.{◌∙◌, sym}
use Rattle.kv_core.proofs.Reaching.{reaches_end, reaches_none, reaches_short}
use Rattle.kv_core.proofs.coverage.end_over.Goals as goal

pub returns-then-is_before-clause-reaches : goal.returns-then-is_before-clause-reaches
returns-then-is_before-clause-reaches c =
    let parts = c.range-begun.ensures.in_range tt in
    let last = parts.3 _ _ c.in-Some.ensures.steps in
    reaches_end c.args.key.now c.args.stretches.now.entries c.in-Some.field-0-0.now c.in-Some.end.now c.requires last.1 last.0.1
    (λ q upto some. parts.4 _ _ c.in-Some.ensures.steps q (tt, upto) some) (sym c.is_before.ensures ∙ c.if-is_before.true)

pub returns-else-is_before-clause-reaches : goal.returns-else-is_before-clause-reaches
returns-else-is_before-clause-reaches c =
    let parts = c.range-begun.ensures.in_range tt in
    let last = parts.3 _ _ c.in-Some.ensures.steps in
    reaches_short c.args.key.now c.args.stretches.now.entries c.in-Some.field-0-0.now c.in-Some.end.now c.requires last.1 last.0.1
    (λ q upto some. parts.4 _ _ c.in-Some.ensures.steps q (tt, upto) some) (sym c.is_before.ensures ∙ c.if-is_before.false)

pub returns-in-None-clause-reaches : goal.returns-in-None-clause-reaches
returns-in-None-clause-reaches c =
    let parts = c.range-begun.ensures.in_range tt in
    reaches_none c.args.key.now c.args.stretches.now.entries c.requires (λ q upto. parts.5 c.in-None.ensures.steps.0 q (tt, upto))
