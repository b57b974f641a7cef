use Rattle.std.proofs.Common.{◌∙◌, ap}
use Rattle.kv_core.specs.Bytes.{key_max, key_min}
use Rattle.kv_core.specs.Range.{part_from}
use Rattle.kv_core.proofs.Parts.{is_key_range-from, lawful_at}
use Rattle.kv_core.proofs.range.KeyRange.starting_at.Goals as goal

pub invariant_of-result : goal.invariant_of-result
invariant_of-result c =
    let range = c.args.self.now in
    let key = c.args.key.now in
    lawful_at (part_from key range) _ _ (is_key_range-from range key c.begin.ensures.lawful)
    (c.in_ok-begin.ensures ∙ c.earlier-begin.ensures ∙ (λ i. key_min (c.end.ensures i) ((c.later.ensures ∙ ap (λ b. key_max b key) c.begin.ensures.value) i)))
    (c.in_ok-end.ensures ∙ c.end-2.ensures)
