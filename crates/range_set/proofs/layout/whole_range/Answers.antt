use Rattle.std.proofs.Common.{◌∙◌, ap}
use Rattle.tuple_codec.specs.Subspace.{range_begin, range_end}
use Rattle.range_set.proofs.KeyBounds.{no_whole}
use Rattle.range_set.proofs.layout.whole_range.Goals as goal

pub unreachable-requires : goal.unreachable-requires
unreachable-requires c =
    no_whole c.args.place.now c.new-2.result c.new-3.result c.requires (c.new-2.ensures ∙ c.in_ok-ends.ensures.0 ∙ ap range_begin (c.new.ensures ∙ c.in_ok-from_slice.ensures.items))
    (c.new-3.ensures ∙ c.in_ok-ends.ensures.1 ∙ ap range_end (c.new.ensures ∙ c.in_ok-from_slice.ensures.items)) c.in-None.ensures.none
