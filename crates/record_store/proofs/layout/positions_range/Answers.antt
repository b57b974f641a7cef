use Rattle.std.proofs.Common.{◌≡◌, ◌∙◌, ap, ◌++◌}
use Rattle.metadata.specs.Layout.{records_prefix}
use Rattle.record_store.specs.Building.{positions_range}
use Rattle.record_store.specs.Layout.{record_key}
use Rattle.record_store.proofs.Keys.{is_positions_range, not_refused}
use Rattle.record_store.proofs.layout.positions_range.Goals as goal

pub unreachable-requires : goal.unreachable-requires
unreachable-requires c =
    not_refused (positions_range c.args.prefix.now c.args.number c.args.range.now) c.new.result c.new-2.result (is_positions_range c.args.prefix.now c.args.number c.args.range.now c.requires c.begin.ensures.lawful)
    (c.new.ensures ∙ c.in_ok-extend_from_slice.ensures.items ∙ (λ i. begins i ++ firsts i))
    (c.new-2.ensures ∙ c.in_ok-extend_from_slice-2.ensures.items ∙ (λ i. ends i ++ lasts i)) c.in-None.ensures.none
  where
    begins : c.in_ok-begin.begin.items ≡ records_prefix c.args.prefix.now c.args.number
    begins = c.in_ok-begin.ensures.items ∙ c.as_slice.ensures ∙ c.in_ok-before.ensures.key ∙ ap (record_key c.args.prefix.now) c.in_ok-tuple.ensures

    firsts : c.as_slice-2.result.now ≡ c.args.range.now.begin
    firsts = c.as_slice-2.ensures ∙ c.begin.ensures.value

    ends : c.in_ok-end.end.items ≡ records_prefix c.args.prefix.now c.args.number
    ends = c.in_ok-end.ensures.items ∙ c.as_slice-3.ensures ∙ c.in_ok-before.ensures.key ∙ ap (record_key c.args.prefix.now) c.in_ok-tuple.ensures

    lasts : c.as_slice-4.result.now ≡ c.args.range.now.end
    lasts = c.as_slice-4.ensures ∙ c.end.ensures
