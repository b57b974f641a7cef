use Rattle.std.proofs.Common.{◌∙◌, ap}
use Rattle.tuple_codec.specs.Subspace.{range_begin, range_end}
use Rattle.record_store.specs.Layout.{states_range}
use Rattle.record_store.proofs.Keys.{is_states_range, not_refused}
use Rattle.record_store.proofs.layout.states_range.Goals as goal

pub unreachable-requires : goal.unreachable-requires
unreachable-requires c =
    not_refused (states_range c.args.prefix.now) c.new-2.result c.new-3.result (is_states_range c.args.prefix.now c.requires)
    (c.new-2.ensures ∙ c.in_ok-ends.ensures.0 ∙ ap range_begin (c.new.ensures ∙ c.in_ok-place.ensures)) (c.new-3.ensures ∙ c.in_ok-ends.ensures.1 ∙ ap range_end (c.new.ensures ∙ c.in_ok-place.ensures)) c.in-None.ensures.none
