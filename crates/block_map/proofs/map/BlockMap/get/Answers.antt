use Rattle.std.proofs.Common.{◌∙◌, sym}
use Rattle.block_map.proofs.Mapped.{gone, place_within, value_is}
use Rattle.block_map.proofs.map.BlockMap.get.Goals as goal

pub value-requires : goal.value-requires
value-requires g c =
    let ks = c.self.inside.blocks.bounds.items in
    let bs = c.self.inside.blocks.list.items in
    let at = sym c.find.ensures.place ∙ c.in_default-Ok.is-1 in
    place_within c.args.key.now ks bs c.self.invariant.0 c.args.self.now c.self.view_is c.find.result.0 c.find.ensures.block c.in_default-Ok.place at

pub returns-in_default-Ok : goal.returns-in_default-Ok
returns-in_default-Ok g c =
    let ks = c.self.inside.blocks.bounds.items in
    let bs = c.self.inside.blocks.list.items in
    let at = sym c.find.ensures.place ∙ c.in_default-Ok.is-1 in
    record { value = value_is c.args.key.now ks bs c.self.invariant.0 c.args.self.now c.self.view_is c.find.result.0 c.find.ensures.block c.in_default-Ok.place at c.value.result.now c.value.ensures }

pub returns-in_default-Err : goal.returns-in_default-Err
returns-in_default-Err g c =
    let ks = c.self.inside.blocks.bounds.items in
    let bs = c.self.inside.blocks.list.items in
    let at = sym c.find.ensures.place ∙ c.in_default-Err.is-1 in
    record { value = sym (gone c.args.key.now ks bs c.self.invariant.0 c.args.self.now c.self.view_is c.find.result.0 c.find.ensures.block c.in_default-Err.field-0-1 at) }
