use Rattle.block_map.proofs.Parted.{bounds_rise}
use Rattle.block_map.proofs.Sought.{upto_in}
use Rattle.block_map.proofs.blocks.Blocks.block_of.Goals as goal

pub returns : goal.returns
returns g c =
    let ks = c.args.self.now.bounds.items in
    upto_in c.args.key.now ks c.as_slice.result.now c.count_upto.result c.as_slice.ensures.value (bounds_rise ks c.args.self.now.list.items c.requires.laid) c.count_upto.ensures.within c.count_upto.ensures.from
    c.count_upto.ensures.before
