use Rattle.std.proofs.Common.{◌∙◌, arith, sym}
use Rattle.std_collections.proofs.Seek.{seek-Ok, seek_err}
use Rattle.kv_core.specs.Bytes.{key_cmp}
use Rattle.block_map.specs.Blocks.{block_at}
use Rattle.block_map.proofs.Parted.{upto-within}
use Rattle.block_map.proofs.blocks.Blocks.spot_of.Goals as goal

pub returns-in_default-Ok-clause-fits : goal.returns-in_default-Ok-clause-fits
returns-in_default-Ok-clause-fits g c =
    omega (arith, (seek-Ok (key_cmp c.args.key.now) (block_at c.args.self.now.list.items c.find.result.0) c.in_default-Ok.place (sym c.find.ensures.place ∙ c.in_default-Ok.is-1)).0)

pub returns-in_default-Err-clause-within : goal.returns-in_default-Err-clause-within
returns-in_default-Err-clause-within g c =
    omega (arith, upto-within c.args.key.now c.args.self.now.bounds.items c.args.self.now.list.items c.requires.whole.laid c.requires.some, c.find.ensures.block)

pub returns-in_default-Err-clause-fits : goal.returns-in_default-Err-clause-fits
returns-in_default-Err-clause-fits g c =
    (seek_err (key_cmp c.args.key.now) (block_at c.args.self.now.list.items c.find.result.0) c.in_default-Err.place (sym c.find.ensures.place ∙ c.in_default-Err.is-1)).0
