use Rattle.std.proofs.Common.{◌∙◌, arith}
use Rattle.block_map.proofs.Sought.{gap_in}
use Rattle.block_map.proofs.Zipped.{keys_are}
use Rattle.block_map.proofs.block.Block.is_gap.Goals as goal

pub returns : goal.returns
returns g c = λ yes.
    let s = c.self.inside in
    gap_in c.args.key.now c.args.self.now c.as_slice-keys.result.now c.args.place
    (c.as_slice-keys.ensures.value ∙ keys_are s.keys.items s.values.items c.args.self.now c.self.invariant.even c.self.view_is)
    c.requires (omega arith) (c.comes_after.ensures c.if-not-comes_after.false) (c.comes_before.ensures yes)
