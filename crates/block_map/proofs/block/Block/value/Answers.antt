use Rattle.std.proofs.Common.{arith}
use Rattle.block_map.proofs.Zipped.{entry_count, value_there}
use Rattle.block_map.proofs.block.Block.value.Goals as goal

pub index-requires : goal.index-requires
index-requires g c = let s = c.self.inside in let even = c.self.invariant.even in omega (arith, entry_count s.keys.items s.values.items c.args.self.now even c.self.view_is)

pub returns : goal.returns
returns g c =
    let s = c.self.inside in value_there s.keys.items s.values.items c.args.self.now c.self.invariant.even c.self.view_is c.args.place c.index.result.now c.requires c.index.ensures
