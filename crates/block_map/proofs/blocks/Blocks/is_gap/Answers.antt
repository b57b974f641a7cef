use Rattle.std.proofs.Common.{[], ◌∙◌, ap, get_or, subst, sym}
use Rattle.std.specs.List.Sorted.{IsStrictlySortedBy}
use Rattle.std.specs.Map.{keys_of}
use Rattle.kv_core.specs.Bytes.{key_cmp}
use Rattle.block_map.proofs.Parted.{sorted_block}
use Rattle.block_map.proofs.blocks.Blocks.is_gap.Goals as goal

pub is_gap-requires : goal.is_gap-requires
is_gap-requires g c =
    let bs = c.args.self.now.list.items in
    let h = c.in-Some.ensures.lookup in
    subst (λ own. IsStrictlySortedBy key_cmp (keys_of own)) (sym (h.3.1 [] ∙ ap (λ l. get_or l c.args.block []) c.deref.ensures.value)) (sorted_block bs c.args.block c.requires.sorted)
