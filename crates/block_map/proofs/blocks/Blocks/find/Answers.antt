use Rattle.std.proofs.Common.{[], ◌∙◌, ap, get_or, subst, sym}
use Rattle.std.specs.List.Sorted.{IsStrictlySortedBy}
use Rattle.std.specs.Map.{keys_of}
use Rattle.kv_core.specs.Bytes.{key_cmp}
use Rattle.block_map.proofs.Parted.{sorted_block}
use Rattle.block_map.proofs.blocks.Blocks.find.Goals as goal

pub find-requires : goal.find-requires
find-requires g c =
    let bs = c.args.self.now.list.items in
    let h = c.in-Some.ensures.lookup in
    subst (λ own. IsStrictlySortedBy key_cmp (keys_of own)) (sym (h.3.1 [] ∙ ap (λ l. get_or l c.block_of-block.result []) c.deref.ensures.value)) (sorted_block bs c.block_of-block.result c.requires.sorted)
