use Rattle.std.proofs.Common.{◌∙◌, ap}
use Rattle.kv_core.specs.Bytes.{key_max, key_min}
use Rattle.kv_core.specs.Range.{part_before}
use Rattle.kv_core.proofs.Parts.{is_key_range-before, lawful_at}
use Rattle.kv_core.proofs.range.KeyRange.upto.Goals as goal

pub invariant_of-result : goal.invariant_of-result
invariant_of-result c =
    let range = c.args.self.now in
    let key = c.args.key.now in
    lawful_at (part_before key range) _ _ (is_key_range-before range key c.begin.ensures.lawful) (c.in_ok-begin.ensures ∙ c.begin-2.ensures.value)
    (c.in_ok-end.ensures ∙ c.later-end.ensures ∙ (λ i. key_max (c.begin.ensures.value i) ((c.earlier.ensures ∙ ap (key_min key) c.end.ensures) i)))
