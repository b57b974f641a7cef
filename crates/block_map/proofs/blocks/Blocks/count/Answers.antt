use Rattle.std.proofs.Common.{arith}
use Rattle.block_map.proofs.Dense.{few}
use Rattle.block_map.proofs.blocks.Blocks.count.Goals as goal

pub returns : goal.returns
returns g c = omega (arith, few c.args.self.now.list.items c.requires.dense)
