use Rattle.std.proofs.Common.{arith, refl}
use Rattle.block_map.proofs.Zipped.{entry_count, value_there, written_is}
use Rattle.block_map.proofs.block.Block.value_mut.Goals as goal

pub index_mut-requires : goal.index_mut-requires
index_mut-requires g c = let s = c.self.inside in let even = c.self.invariant.even in omega (arith, entry_count s.keys.items s.values.items c.args.self.now even c.self.view_is)

pub returns : goal.returns
returns g c =
    let s = c.self.inside in (
      (refl, λ w. written_is s.keys.items s.values.items c.args.self.now c.self.invariant.even c.self.view_is c.args.place w),
      record { writes_back = tt; value = value_there s.keys.items s.values.items c.args.self.now c.self.invariant.even c.self.view_is c.args.place c.index_mut.result.now c.requires c.index_mut.ensures.value },
    )
