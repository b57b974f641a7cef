use Rattle.std.proofs.Common.{◌≡◌, ◌∙◌, true, not, sym, ap}
use Rattle.std.proofs.lemmas.Bool.{not-false, not-true}
use Rattle.kv_core.specs.Bytes.{key_cmp, key_lt}
use Rattle.kv_core.specs.Range.{any_meets, has_keys}
use Rattle.kv_core.proofs.Stretches.{meets_empty, meets_last, meets_none}
use Rattle.kv_core.proofs.coverage.Coverage.meets.Goals as goal

pub returns-then-not-is_empty : goal.returns-then-not-is_empty
returns-then-not-is_empty c =
    let parts = c.range-before.ensures.in_range tt in
    let last = parts.3 _ _ c.in-Some.ensures.steps in
    let keys : has_keys c.args.range.now ≡ true = not-false (has_keys c.args.range.now) (sym c.is_empty.ensures ∙ c.if-not-is_empty.true) in
    c.is_before.ensures
    ∙ ap (λ b. key_lt b c.in-Some.end.now) c.begin.ensures.value
    ∙ meets_last c.args.range.now c.self.inside.stretches.entries c.in-Some.field-0-0.now c.in-Some.end.now c.range-before.ensures.ordered c.self.invariant last.1 keys
    (ap (key_cmp c.in-Some.field-0-0.now) (sym c.end.ensures) ∙ last.0.1)
    (λ q before some. parts.4 _ _ c.in-Some.ensures.steps q (tt, ap (key_cmp q) c.end.ensures ∙ before) some)
    ∙ ap (any_meets c.args.range.now) c.self.view_is

pub returns-else-not-is_empty : goal.returns-else-not-is_empty
returns-else-not-is_empty c =
    ap not c.if-not-is_empty.false
    ∙ sym (meets_empty c.args.range.now c.args.self.now (not-true (has_keys c.args.range.now) (sym c.is_empty.ensures ∙ c.if-not-is_empty.false)))

pub returns-in-None : goal.returns-in-None
returns-in-None c =
    let parts = c.range-before.ensures.in_range tt in
    sym (meets_none c.args.range.now c.self.inside.stretches.entries c.range-before.ensures.ordered
    (λ q before. parts.5 c.in-None.ensures.steps.0 q (tt, ap (key_cmp q) c.end.ensures ∙ before)))
    ∙ ap (any_meets c.args.range.now) c.self.view_is
