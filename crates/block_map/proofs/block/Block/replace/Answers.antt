use Rattle.std.proofs.Common.{◌∙◌, Some, ap, arith, sym}
use Rattle.std_collections.specs.Layout.Columns.{set_value_at}
use Rattle.block_map.proofs.Zipped.{entry_count, value_there, written_is}
use Rattle.block_map.proofs.block.Block.replace.Goals as goal

pub index_mut-requires : goal.index_mut-requires
index_mut-requires g c = let even = c.self.invariant.even in omega (arith, entry_count c.self.inside.keys.items c.self.inside.values.items c.args.self.now c.self.invariant.even c.self.view_is)

pub returns-clause-old : goal.returns-clause-old
returns-clause-old g c = value_there c.self.inside.keys.items c.self.inside.values.items c.args.self.now c.self.invariant.even c.self.view_is c.args.place c.index_mut.result.now c.requires c.index_mut.ensures.value ∙ ap Some (sym c.replace.ensures.value)

pub returns-clause-new : goal.returns-clause-new
returns-clause-new g c = written_is c.self.inside.keys.items c.self.inside.values.items c.args.self.now c.self.invariant.even c.self.view_is c.args.place c.replace.new.dest ∙ ap (set_value_at c.args.self.now c.args.place) c.replace.ensures.after
