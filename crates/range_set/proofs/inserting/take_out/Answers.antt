use Rattle.std.proofs.Common.{◌∙◌, ap}
use Rattle.kv_core.specs.Bytes.{end_of_keys, key_lt}
use Rattle.range_set.specs.Stored.{range_key}
use Rattle.range_set.proofs.KeyBounds.{key_below}
use Rattle.range_set.proofs.inserting.take_out.Goals as goal

pub point-requires : goal.point-requires
point-requires c = ap (λ key. key_lt key end_of_keys) (c.in_ok-key.ensures ∙ ap (range_key c.args.place.now) c.as_slice.ensures) ∙ key_below c.args.place.now c.args.position.now c.requires
