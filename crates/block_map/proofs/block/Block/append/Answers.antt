use Rattle.std.proofs.Common.{◌∙◌, ap, arith, length, length-append, zip}
use Rattle.block_map.proofs.Zipped.{appended_is, entry_count}
use Rattle.block_map.proofs.block.Block.append.Goals as goal

pub append_reserved-requires : goal.append_reserved-requires
append_reserved-requires g c =
    let even = c.self.invariant.even in let same = c.other.invariant.even in let room = c.self.invariant.keys_room in
    omega (arith, entry_count c.self.inside.keys.items c.self.inside.values.items c.args.self.now c.self.invariant.even c.self.view_is, entry_count c.other.inside.keys.items c.other.inside.values.items c.args.other.now c.other.invariant.even c.other.view_is)

pub append_reserved-requires-2 : goal.append_reserved-requires-2
append_reserved-requires-2 g c =
    let even = c.self.invariant.even in let same = c.other.invariant.even in let room = c.self.invariant.values_room in
    omega (arith, entry_count c.self.inside.keys.items c.self.inside.values.items c.args.self.now c.self.invariant.even c.self.view_is, entry_count c.other.inside.keys.items c.other.inside.values.items c.args.other.now c.other.invariant.even c.other.view_is)

pub invariant_of-self : goal.invariant_of-self
invariant_of-self g c =
    let s = c.self.inside in let o = c.other.inside in let even = c.self.invariant.even in let same = c.other.invariant.even in
    let count = entry_count c.self.inside.keys.items c.self.inside.values.items c.args.self.now c.self.invariant.even c.self.view_is in let more = entry_count c.other.inside.keys.items c.other.inside.values.items c.args.other.now c.other.invariant.even c.other.view_is in
    let keys = ap length c.append_reserved.ensures.items ∙ length-append s.keys.items o.keys.items in
    let values = ap length c.append_reserved-2.ensures.items ∙ length-append s.values.items o.values.items in
    let keys_room = c.self.invariant.keys_room in let values_room = c.self.invariant.values_room in
    record { even = omega arith; fits = omega arith; keys_room = omega (arith, c.append_reserved.ensures.capacity); values_room = omega (arith, c.append_reserved-2.ensures.capacity) }

pub invariant_of-other : goal.invariant_of-other
invariant_of-other g c =
    let keys = ap length c.append_reserved.ensures.none in let values = ap length c.append_reserved-2.ensures.none in
    let keys_room = c.other.invariant.keys_room in let values_room = c.other.invariant.values_room in
    record { even = omega arith; fits = omega arith; keys_room = omega (arith, c.append_reserved.ensures.room); values_room = omega (arith, c.append_reserved-2.ensures.room) }

pub returns : goal.returns
returns g c =
    let o = c.other.inside in
    (λ i. zip (c.append_reserved.ensures.items i) (c.append_reserved-2.ensures.items i)) ∙ appended_is c.self.inside.keys.items c.self.inside.values.items c.args.self.now c.self.invariant.even c.self.view_is o.keys.items o.values.items c.args.other.now c.other.view_is
