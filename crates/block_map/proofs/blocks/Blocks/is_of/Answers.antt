use Rattle.std.proofs.Common.{arith}
use Rattle.block_map.proofs.Parted.{bounds_rise}
use Rattle.block_map.proofs.Sought.{upto_in}
use Rattle.block_map.proofs.blocks.Blocks.is_of.Goals as goal

pub returns : goal.returns
returns g c = λ yes.
    let ks = c.args.self.now.bounds.items in
    upto_in c.args.key.now ks c.as_slice-bounds.result.now c.args.block c.as_slice-bounds.ensures.value (bounds_rise ks c.args.self.now.list.items c.requires.laid)
    (omega arith) (c.comes_from.ensures c.if-not-comes_from.false) (c.comes_before.ensures yes)
