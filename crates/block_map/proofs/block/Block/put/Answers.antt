use Rattle.std.proofs.Common.{◌∙◌, ap, arith, length, zip}
use Rattle.std.proofs.lemmas.List.Edits.{length-insert}
use Rattle.block_map.proofs.Zipped.{entry_count, inserted_is}
use Rattle.block_map.proofs.block.Block.put.Goals as goal

pub insert_reserved-requires : goal.insert_reserved-requires
insert_reserved-requires g c =
    let even = c.self.invariant.even in let room = c.self.invariant.keys_room in let count = entry_count c.self.inside.keys.items c.self.inside.values.items c.args.self.now c.self.invariant.even c.self.view_is in
    record { within = omega arith; room = omega arith }

pub insert_reserved-requires-2 : goal.insert_reserved-requires-2
insert_reserved-requires-2 g c =
    let even = c.self.invariant.even in let room = c.self.invariant.values_room in let count = entry_count c.self.inside.keys.items c.self.inside.values.items c.args.self.now c.self.invariant.even c.self.view_is in
    record { within = omega arith; room = omega arith }

pub invariant_of-self : goal.invariant_of-self
invariant_of-self g c =
    let s = c.self.inside in let even = c.self.invariant.even in let count = entry_count c.self.inside.keys.items c.self.inside.values.items c.args.self.now c.self.invariant.even c.self.view_is in
    let keys = ap length c.insert_reserved.ensures.items ∙ length-insert s.keys.items c.args.place c.args.key (omega arith) in
    let values = ap length c.insert_reserved-2.ensures.items ∙ length-insert s.values.items c.args.place c.args.value (omega arith) in
    let keys_room = c.self.invariant.keys_room in let values_room = c.self.invariant.values_room in
    record { even = omega arith; fits = omega arith; keys_room = omega (arith, c.insert_reserved.ensures.capacity); values_room = omega (arith, c.insert_reserved-2.ensures.capacity) }

pub returns : goal.returns
returns g c = (λ i. zip (c.insert_reserved.ensures.items i) (c.insert_reserved-2.ensures.items i)) ∙ inserted_is c.self.inside.keys.items c.self.inside.values.items c.args.self.now c.self.invariant.even c.self.view_is c.args.place c.args.key c.args.value
