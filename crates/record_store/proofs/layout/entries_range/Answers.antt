use Rattle.std.proofs.Common.{◌∙◌, ap, ◌++◌, ◌∷◌, []}
use Rattle.record_store.specs.Layout.{entries_range}
use Rattle.record_store.proofs.Keys.{is_entries_range, not_refused}
use Rattle.record_store.proofs.layout.entries_range.Goals as goal

pub unreachable-requires : goal.unreachable-requires
unreachable-requires c =
    not_refused (entries_range c.args.prefix.now c.args.number) c.new.result c.new-2.result (is_entries_range c.args.prefix.now c.args.number c.requires)
    (c.new.ensures ∙ c.in_ok-begin.ensures) (c.new-2.ensures ∙ c.in_ok-push.ensures.items ∙ ap (λ k. k ++ 255 ∷ []) (c.in_ok-end.ensures.items ∙ c.as_slice.ensures.value ∙ c.in_ok-begin.ensures)) c.in-None.ensures.none
