use Rattle.std.proofs.Common.{◌∙◌, sym, ap}
use Rattle.std.specs.List.{list_any}
use Rattle.std.specs.Ordering.{is_gt}
use Rattle.kv_core.specs.Bytes.{key_cmp, key_le}
use Rattle.kv_core.specs.Range.{is_within}
use Rattle.kv_core.proofs.Stretches.{within_last, within_none}
use Rattle.kv_core.proofs.coverage.Coverage.has_whole.Goals as goal

pub returns-in-Some : goal.returns-in-Some
returns-in-Some c =
    let parts = c.range-upto.ensures.in_range tt in
    let last = parts.3 _ _ c.in-Some.ensures.steps in
    c.is_upto.ensures
    ∙ ap (λ e. key_le e c.in-Some.end.now) c.end.ensures
    ∙ within_last c.args.range.now c.self.inside.stretches.entries c.in-Some.field-0-0.now c.in-Some.end.now c.range-upto.ensures.ordered c.self.invariant last.1
    (ap (λ b. is_gt (key_cmp c.in-Some.field-0-0.now b)) (sym c.begin.ensures.value) ∙ last.0.1)
    (λ q upto some. parts.4 _ _ c.in-Some.ensures.steps q (tt, ap (λ b. is_gt (key_cmp q b)) c.begin.ensures.value ∙ upto) some)
    ∙ ap (list_any (is_within c.args.range.now)) c.self.view_is

pub returns-in-None : goal.returns-in-None
returns-in-None c =
    let parts = c.range-upto.ensures.in_range tt in
    sym (within_none c.args.range.now c.self.inside.stretches.entries c.range-upto.ensures.ordered
    (λ q upto. parts.5 c.in-None.ensures.steps.0 q (tt, ap (λ b. is_gt (key_cmp q b)) c.begin.ensures.value ∙ upto)))
    ∙ ap (list_any (is_within c.args.range.now)) c.self.view_is
