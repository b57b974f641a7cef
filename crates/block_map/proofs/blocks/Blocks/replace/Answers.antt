use Rattle.std.proofs.Common.{◌≡◌, ◌∙◌, ap}
use Rattle.std_collections.specs.Layout.Columns.{set_value_at}
use Rattle.block_map.specs.Blocks.{block_at}
use Rattle.block_map.proofs.Edited.{block_is, block_there, edited-same, set-edited}
use Rattle.block_map.proofs.blocks.Blocks.replace.Goals as goal

pub returns-clause-list : goal.returns-clause-list
returns-clause-list g c =
    let bs = c.args.self.now.list.items in
    let own : c.index_mut.result.now ≡ block_at bs c.args.block = block_is bs c.args.block c.index_mut.result.now (block_there bs c.args.block c.args.place c.requires) c.index_mut.ensures.value in
    set-edited bs c.args.block c.replace.new.self
    ∙ edited-same c.args.block (λ _. c.replace.new.self) (λ l. set_value_at l c.args.place c.args.value) bs (c.replace.ensures.new ∙ ap (λ l. set_value_at l c.args.place c.args.value) own)
