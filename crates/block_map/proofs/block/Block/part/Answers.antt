use Rattle.std.proofs.Common.{◌∙◌, ap, arith, length, slice_range, zip}
use Rattle.block_map.proofs.Zipped.{entry_count, part_is}
use Rattle.block_map.proofs.block.Block.part.Goals as goal

pub between-keys-requires-clause-end : goal.between-keys-requires-clause-end
between-keys-requires-clause-end g c = let even = c.self.invariant.even in let is = ap length c.as_slice.ensures.value in omega (arith, entry_count c.self.inside.keys.items c.self.inside.values.items c.args.self.now c.self.invariant.even c.self.view_is)

pub between-values-requires-clause-end : goal.between-values-requires-clause-end
between-values-requires-clause-end g c = let even = c.self.invariant.even in let is = ap length c.as_slice-2.ensures.value in omega (arith, entry_count c.self.inside.keys.items c.self.inside.values.items c.args.self.now c.self.invariant.even c.self.view_is)

pub returns : goal.returns
returns g c =
    c.new.ensures
    ∙ (λ i. zip ((c.between-keys.ensures ∙ ap (λ l. slice_range l c.args.from c.args.to) c.as_slice.ensures.value) i) ((c.between-values.ensures ∙ ap (λ l. slice_range l c.args.from c.args.to) c.as_slice-2.ensures.value) i))
    ∙ part_is c.self.inside.keys.items c.self.inside.values.items c.args.self.now c.self.invariant.even c.self.view_is c.args.from c.args.to
