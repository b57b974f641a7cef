use Rattle.std.proofs.Common.{◌≡◌, ◌∙◌, ℕ, List, ap, refl, slice_get, sym}
use Rattle.std.specs.Map.{values_of}
use Rattle.std.specs.Vec.{with_item}
use Rattle.std_collections.specs.Layout.Columns.{set_value_at}
use Rattle.block_map.specs.Blocks.{block_at}
use Rattle.block_map.specs.declared.blocks.Blocks.{Blocks}
use Rattle.block_map.proofs.Edited.{block_is, block_there}
use Rattle.block_map.proofs.blocks.Blocks.value_mut.Goals as goal

pub returns : goal.returns
returns g c =
    let s = c.args.self.now in
    let own : c.index_mut.result.now ≡ block_at s.list.items c.args.block = block_is s.list.items c.args.block c.index_mut.result.now (block_there s.list.items c.args.block c.args.place c.requires) c.index_mut.ensures.value in
    let with_block : List (List ℕ × g.row.V.Denot) → g.row.V.Denot → Blocks g.row.V.Denot = λ l w. record { bounds = s.bounds; list = with_item s.list c.args.block (set_value_at l c.args.place w) } in (
      (refl, λ w. ap (λ l. with_block l w) own),
      record { writes_back = tt; value = sym (ap (λ l. slice_get (values_of l) c.args.place) own) ∙ c.value_mut.ensures.value },
    )
