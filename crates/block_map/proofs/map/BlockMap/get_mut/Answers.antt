use Rattle.std.proofs.Common.{◌∙◌, refl, set, sym}
use Rattle.block_map.proofs.Mapped.{gone, lent_list, none_through, ordered, place_within, replaced_count, replaced_through, replaced_whole, value_is}
use Rattle.std_collections.specs.Layout.Columns.{set_value_at}
use Rattle.block_map.specs.Blocks.{block_at}
use Rattle.block_map.proofs.map.BlockMap.get_mut.Goals as goal

pub value_mut-requires : goal.value_mut-requires
value_mut-requires g c =
    let ks = c.self.inside.blocks.bounds.items in
    let bs = c.self.inside.blocks.list.items in
    let whole = c.self.invariant.0 in
    let at = sym c.find.ensures.place ∙ c.in_default-Ok.is-1 in
    place_within c.args.key.now ks bs whole c.args.self.now c.self.view_is c.find.result.0 c.find.ensures.block c.in_default-Ok.place at

pub invariant_of-self-lent : goal.invariant_of-self-lent
invariant_of-self-lent g c =
    let ks = c.self.inside.blocks.bounds.items in
    let bs = c.self.inside.blocks.list.items in
    let whole = c.self.invariant.0 in
    let at = sym c.find.ensures.place ∙ c.in_default-Ok.is-1 in
    λ w.
    let list = lent_list c.args.key.now ks bs whole c.args.self.now c.self.view_is c.find.result.0 c.find.ensures.block c.in_default-Ok.place at w in (
      replaced_whole c.args.key.now ks bs whole c.args.self.now c.self.view_is c.find.result.0 c.find.ensures.block c.in_default-Ok.place at w ks (set bs c.find.result.0 (set_value_at (block_at bs c.find.result.0) c.in_default-Ok.place w)) refl list,
      c.self.invariant.1 ∙ sym (replaced_count c.args.key.now ks bs whole c.args.self.now c.self.view_is c.find.result.0 c.find.ensures.block c.in_default-Ok.place at w ks (set bs c.find.result.0 (set_value_at (block_at bs c.find.result.0) c.in_default-Ok.place w)) refl list),
    )

pub returns-in_default-Ok : goal.returns-in_default-Ok
returns-in_default-Ok g c =
    let ks = c.self.inside.blocks.bounds.items in
    let bs = c.self.inside.blocks.list.items in
    let whole = c.self.invariant.0 in
    let at = sym c.find.ensures.place ∙ c.in_default-Ok.is-1 in (
      (refl, (λ w. replaced_through c.args.key.now ks bs whole c.args.self.now c.self.view_is c.find.result.0 c.find.ensures.block c.in_default-Ok.place at w ks (set bs c.find.result.0 (set_value_at (block_at bs c.find.result.0) c.in_default-Ok.place w)) refl (lent_list c.args.key.now ks bs whole c.args.self.now c.self.view_is c.find.result.0 c.find.ensures.block c.in_default-Ok.place at w)), refl),
      record { writes_back = tt; value = value_is c.args.key.now ks bs whole c.args.self.now c.self.view_is c.find.result.0 c.find.ensures.block c.in_default-Ok.place at c.value_mut.result.now c.value_mut.ensures.value; ordered = ordered c.args.key.now ks bs whole c.args.self.now c.self.view_is c.find.result.0 c.find.ensures.block },
    )

pub returns-in_default-Err : goal.returns-in_default-Err
returns-in_default-Err g c =
    let ks = c.self.inside.blocks.bounds.items in
    let bs = c.self.inside.blocks.list.items in
    let whole = c.self.invariant.0 in
    let at = sym c.find.ensures.place ∙ c.in_default-Err.is-1 in (
      (refl, (λ w. none_through c.args.key.now ks bs whole c.args.self.now c.self.view_is c.find.result.0 c.find.ensures.block c.in_default-Err.place at w), c.self.view_is),
      record { writes_back = tt; value = sym (gone c.args.key.now ks bs whole c.args.self.now c.self.view_is c.find.result.0 c.find.ensures.block c.in_default-Err.place at); ordered = ordered c.args.key.now ks bs whole c.args.self.now c.self.view_is c.find.result.0 c.find.ensures.block },
    )
