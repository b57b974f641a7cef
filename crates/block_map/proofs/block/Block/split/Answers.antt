use Rattle.std.proofs.Common.{◌∙◌, ap, arith, length, zip}
use Rattle.std.proofs.lemmas.List.{nil_from_length}
use Rattle.block_map.proofs.Zipped.{dropped_is, entry_count, taken_is}
use Rattle.block_map.proofs.block.Block.split.Goals as goal

pub move_rest-requires : goal.move_rest-requires
move_rest-requires g c =
    let even = c.self.invariant.even in let fits = c.self.invariant.fits in let count = entry_count c.self.inside.keys.items c.self.inside.values.items c.args.self.now c.self.invariant.even c.self.view_is in
    let room = c.rest.invariant.keys_room in let none = entry_count c.rest.inside.keys.items c.rest.inside.values.items c.args.rest.now c.rest.invariant.even c.rest.view_is in
    record { within = omega arith; empty = nil_from_length c.rest.inside.keys.items (omega (arith, ap length c.requires.empty)); room = omega arith }

pub move_rest-requires-2 : goal.move_rest-requires-2
move_rest-requires-2 g c =
    let even = c.self.invariant.even in let fits = c.self.invariant.fits in let count = entry_count c.self.inside.keys.items c.self.inside.values.items c.args.self.now c.self.invariant.even c.self.view_is in
    let room = c.rest.invariant.values_room in let none = entry_count c.rest.inside.keys.items c.rest.inside.values.items c.args.rest.now c.rest.invariant.even c.rest.view_is in let same = c.rest.invariant.even in
    record { within = omega arith; empty = nil_from_length c.rest.inside.values.items (omega (arith, ap length c.requires.empty)); room = omega arith }

pub returns-clause-kept : goal.returns-clause-kept
returns-clause-kept g c = (λ i. zip (c.move_rest.ensures.kept i) (c.move_rest-2.ensures.kept i)) ∙ taken_is c.self.inside.keys.items c.self.inside.values.items c.args.self.now c.self.invariant.even c.self.view_is c.args.place

pub returns-clause-moved : goal.returns-clause-moved
returns-clause-moved g c = (λ i. zip (c.move_rest.ensures.moved i) (c.move_rest-2.ensures.moved i)) ∙ dropped_is c.self.inside.keys.items c.self.inside.values.items c.args.self.now c.self.invariant.even c.self.view_is c.args.place
