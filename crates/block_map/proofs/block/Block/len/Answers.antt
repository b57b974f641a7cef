use Rattle.std.proofs.Common.{arith}
use Rattle.block_map.proofs.Zipped.{entry_count}
use Rattle.block_map.proofs.block.Block.len.Goals as goal

pub returns-clause-value : goal.returns-clause-value
returns-clause-value g c =
    let s = c.self.inside in omega (arith, entry_count s.keys.items s.values.items c.args.self.now c.self.invariant.even c.self.view_is)

pub returns-clause-fits : goal.returns-clause-fits
returns-clause-fits g c =
    let s = c.self.inside in omega (arith, entry_count s.keys.items s.values.items c.args.self.now c.self.invariant.even c.self.view_is)
