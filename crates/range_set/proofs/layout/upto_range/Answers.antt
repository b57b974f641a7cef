use Rattle.std.proofs.Common.{◌∙◌, ◌++◌, ◌∷◌, [], ap}
use Rattle.kv_core.specs.Bytes.{next_key}
use Rattle.range_set.proofs.KeyBounds.{no_upto}
use Rattle.range_set.proofs.layout.upto_range.Goals as goal

pub unreachable-requires : goal.unreachable-requires
unreachable-requires c =
    no_upto c.args.place.now c.args.position.now c.new.result c.in_ok-end.end c.requires (c.new.ensures ∙ c.in_ok-push.ensures.items ∙ ap (λ p. p ++ 0 ∷ []) c.in_ok-begin.ensures.items)
    (c.in_ok-end.ensures ∙ ap next_key c.in_ok-range_key.ensures) c.in-None.ensures.none
