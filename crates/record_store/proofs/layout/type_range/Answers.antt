use Rattle.std.proofs.Common.{◌∙◌, ap, ◌++◌, ◌∷◌, []}
use Rattle.record_store.specs.Layout.{record_key, type_range}
use Rattle.record_store.proofs.Keys.{is_type_range, not_refused}
use Rattle.record_store.proofs.layout.type_range.Goals as goal

pub unreachable-requires : goal.unreachable-requires
unreachable-requires c =
    not_refused (type_range c.args.prefix.now c.args.number) c.in_ok-begin.begin c.new.result (is_type_range c.args.prefix.now c.args.number c.requires)
    (c.in_ok-begin.ensures.key ∙ ap (record_key c.args.prefix.now) c.in_ok-tuple.ensures)
    (c.new.ensures ∙ c.in_ok-push.ensures.items ∙ ap (λ k. k ++ 255 ∷ []) (c.in_ok-end.ensures.items ∙ c.as_slice.ensures ∙ c.in_ok-begin.ensures.key ∙ ap (record_key c.args.prefix.now) c.in_ok-tuple.ensures))
    c.in-None.ensures.none
