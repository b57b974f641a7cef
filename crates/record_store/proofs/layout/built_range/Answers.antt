use Rattle.std.proofs.Common.{◌∙◌, ap}
use Rattle.tuple_codec.specs.Subspace.{range_begin, range_end}
use Rattle.record_store.specs.Layout.{built_range}
use Rattle.record_store.proofs.Keys.{is_built_range, not_refused}
use Rattle.record_store.proofs.layout.built_range.Goals as goal

pub unreachable-requires : goal.unreachable-requires
unreachable-requires c =
    not_refused (built_range c.args.prefix.now c.args.number) c.new-2.result c.new-3.result (is_built_range c.args.prefix.now c.args.number c.requires)
    (c.new-2.ensures ∙ c.in_ok-ends.ensures.0 ∙ ap range_begin (c.new.ensures ∙ c.in_ok-place.ensures.place)) (c.new-3.ensures ∙ c.in_ok-ends.ensures.1 ∙ ap range_end (c.new.ensures ∙ c.in_ok-place.ensures.place)) c.in-None.ensures.none
