use Rattle.std.proofs.Common.{◌∙◌, arith, zip}
use Rattle.block_map.proofs.Zipped.{entry_count, removed_is, value_there}
use Rattle.block_map.proofs.block.Block.remove.Goals as goal

pub remove-requires : goal.remove-requires
remove-requires g c = let s = c.self.inside in let even = c.self.invariant.even in omega (arith, entry_count s.keys.items s.values.items c.args.self.now even c.self.view_is)

pub returns-clause-value : goal.returns-clause-value
returns-clause-value g c =
    let s = c.self.inside in value_there s.keys.items s.values.items c.args.self.now c.self.invariant.even c.self.view_is c.args.place c.remove-2.result c.requires c.remove-2.ensures.value

pub returns-clause-new : goal.returns-clause-new
returns-clause-new g c =
    let s = c.self.inside in
    (λ i. zip (c.remove.ensures.items i) (c.remove-2.ensures.items i)) ∙ removed_is s.keys.items s.values.items c.args.self.now c.self.invariant.even c.self.view_is c.args.place
