use Rattle.std.proofs.Common.{◌∙◌, sym}
use Rattle.block_map.proofs.Mapped.{gone, none_updates, place_within, removes_in, taken_updates, unmoved, value_is}
use Rattle.block_map.proofs.map.BlockMap.remove.Goals as goal

pub remove-value-requires-clause-within : goal.remove-value-requires-clause-within
remove-value-requires-clause-within g c =
    let ks = c.self.inside.blocks.bounds.items in
    let bs = c.self.inside.blocks.list.items in
    let at = sym c.find.ensures.place ∙ c.in_default-Ok.is-1 in
    place_within c.args.key.now ks bs c.self.invariant.0 c.args.self.now c.self.view_is c.find.result.0 c.find.ensures.block c.in_default-Ok.place at

pub returns-in_default-Ok-clause-value : goal.returns-in_default-Ok-clause-value
returns-in_default-Ok-clause-value g c =
    let ks = c.self.inside.blocks.bounds.items in
    let bs = c.self.inside.blocks.list.items in
    let at = sym c.find.ensures.place ∙ c.in_default-Ok.is-1 in
    value_is c.args.key.now ks bs c.self.invariant.0 c.args.self.now c.self.view_is c.find.result.0 c.find.ensures.block c.in_default-Ok.place at c.remove-value.result c.remove-value.ensures.value

pub returns-in_default-Ok-clause-updates : goal.returns-in_default-Ok-clause-updates
returns-in_default-Ok-clause-updates g c =
    let ks = c.self.inside.blocks.bounds.items in
    let bs = c.self.inside.blocks.list.items in
    let at = sym c.find.ensures.place ∙ c.in_default-Ok.is-1 in
    taken_updates c.args.key.now ks bs c.self.invariant.0 c.args.self.now c.self.view_is c.find.result.0 c.find.ensures.block c.in_default-Ok.place at c.remove-value.new.self.list.items c.remove-value.ensures.entries

pub returns-in_default-Ok-clause-entries : goal.returns-in_default-Ok-clause-entries
returns-in_default-Ok-clause-entries g c =
    let ks = c.self.inside.blocks.bounds.items in
    let bs = c.self.inside.blocks.list.items in
    let at = sym c.find.ensures.place ∙ c.in_default-Ok.is-1 in
    c.remove-value.ensures.entries ∙ removes_in c.args.key.now ks bs c.self.invariant.0 c.args.self.now c.self.view_is c.find.result.0 c.find.ensures.block c.in_default-Ok.place at

pub returns-in_default-Err-clause-value : goal.returns-in_default-Err-clause-value
returns-in_default-Err-clause-value g c =
    let ks = c.self.inside.blocks.bounds.items in
    let bs = c.self.inside.blocks.list.items in
    let at = sym c.find.ensures.place ∙ c.in_default-Err.is-1 in
    sym (gone c.args.key.now ks bs c.self.invariant.0 c.args.self.now c.self.view_is c.find.result.0 c.find.ensures.block c.in_default-Err.field-0-1 at)

pub returns-in_default-Err-clause-updates : goal.returns-in_default-Err-clause-updates
returns-in_default-Err-clause-updates g c =
    let ks = c.self.inside.blocks.bounds.items in
    let bs = c.self.inside.blocks.list.items in
    let at = sym c.find.ensures.place ∙ c.in_default-Err.is-1 in
    none_updates c.args.key.now ks bs c.self.invariant.0 c.args.self.now c.self.view_is c.find.result.0 c.find.ensures.block c.in_default-Err.field-0-1 at

pub returns-in_default-Err-clause-entries : goal.returns-in_default-Err-clause-entries
returns-in_default-Err-clause-entries g c =
    let ks = c.self.inside.blocks.bounds.items in
    let bs = c.self.inside.blocks.list.items in
    let at = sym c.find.ensures.place ∙ c.in_default-Err.is-1 in
    unmoved c.args.key.now ks bs c.self.invariant.0 c.args.self.now c.self.view_is c.find.result.0 c.find.ensures.block c.in_default-Err.field-0-1 at
