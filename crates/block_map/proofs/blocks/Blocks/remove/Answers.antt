use Rattle.std.proofs.Common.{◌≡◌, ◌+◌, ◌≤◌, ◌∙◌, ap, arith, length, length-set, set, slice_get, sym}
use Rattle.std.specs.Map.{values_of}
use Rattle.block_map.specs.Blocks.{block_at}
use Rattle.block_map.proofs.Edited.{block_is, block_there}
use Rattle.block_map.proofs.Joined.{lengths_joined}
use Rattle.block_map.proofs.Parted.{laid_most}
use Rattle.block_map.proofs.Wholes.{removal_count, removal_entries, removal_whole, removed_in}
use Rattle.block_map.proofs.blocks.Blocks.remove.Goals as goal

pub remove-value-requires : goal.remove-value-requires
remove-value-requires g c =
    let bs = c.args.self.now.list.items in
    let own : c.index_mut.result.now ≡ block_at bs c.args.block = block_is bs c.args.block c.index_mut.result.now (block_there bs c.args.block c.args.place c.requires.within) c.index_mut.ensures.value in
    let same = ap length own in
    let within = c.requires.within in
    omega arith

pub join-requires : goal.join-requires
join-requires g c =
    let bs = c.args.self.now.list.items in
    omega (arith, length-set bs c.args.block c.remove-value.new.self, laid_most c.args.self.now.bounds.items bs c.requires.whole.laid)

pub join_before-requires : goal.join_before-requires
join_before-requires g c =
    let bs = c.args.self.now.list.items in
    let ls = set bs c.args.block c.remove-value.new.self in
    let before : length ls ≤ length c.args.self.now.bounds.items + 1 =
    omega (arith, length-set bs c.args.block c.remove-value.new.self, laid_most c.args.self.now.bounds.items bs c.requires.whole.laid) in
    omega (arith, lengths_joined c.args.block c.args.self.now.bounds.items ls before, ap length c.join.ensures.list, ap length c.join.ensures.bounds)

pub returns-clause-value : goal.returns-clause-value
returns-clause-value g c =
    let bs = c.args.self.now.list.items in
    let own : c.index_mut.result.now ≡ block_at bs c.args.block = block_is bs c.args.block c.index_mut.result.now (block_there bs c.args.block c.args.place c.requires.within) c.index_mut.ensures.value in
    ap (λ l. slice_get (values_of l) c.args.place) (sym own) ∙ c.remove-value.ensures.value

pub returns-clause-whole : goal.returns-clause-whole
returns-clause-whole g c =
    let bs = c.args.self.now.list.items in
    let own : c.index_mut.result.now ≡ block_at bs c.args.block = block_is bs c.args.block c.index_mut.result.now (block_there bs c.args.block c.args.place c.requires.within) c.index_mut.ensures.value in
    let made = removed_in c.args.self.now.bounds.items bs c.requires.whole c.args.block c.args.place c.requires.within c.index_mut.result.now c.remove-value.new.self own c.remove-value.ensures.new in
    removal_whole c.args.self.now.bounds.items bs c.requires.whole c.args.block c.args.place c.requires.within
    (set bs c.args.block c.remove-value.new.self) c.join.new.self.list.items c.join_before.new.self.list.items c.drop_empty.new.self.list.items
    c.join.new.self.bounds.items c.join_before.new.self.bounds.items c.drop_empty.new.self.bounds.items
    made c.join.ensures.bounds c.join.ensures.list c.join_before.ensures.bounds c.join_before.ensures.list c.drop_empty.ensures.bounds c.drop_empty.ensures.list

pub returns-clause-entries : goal.returns-clause-entries
returns-clause-entries g c =
    let bs = c.args.self.now.list.items in
    let own : c.index_mut.result.now ≡ block_at bs c.args.block = block_is bs c.args.block c.index_mut.result.now (block_there bs c.args.block c.args.place c.requires.within) c.index_mut.ensures.value in
    let made = removed_in c.args.self.now.bounds.items bs c.requires.whole c.args.block c.args.place c.requires.within c.index_mut.result.now c.remove-value.new.self own c.remove-value.ensures.new in
    removal_entries c.args.self.now.bounds.items bs c.requires.whole c.args.block c.args.place c.requires.within
    (set bs c.args.block c.remove-value.new.self) c.join.new.self.list.items c.join_before.new.self.list.items c.drop_empty.new.self.list.items
    c.join.new.self.bounds.items c.join_before.new.self.bounds.items c.drop_empty.new.self.bounds.items
    made c.join.ensures.bounds c.join.ensures.list c.join_before.ensures.bounds c.join_before.ensures.list c.drop_empty.ensures.bounds c.drop_empty.ensures.list

pub returns-clause-count : goal.returns-clause-count
returns-clause-count g c =
    let bs = c.args.self.now.list.items in
    let own : c.index_mut.result.now ≡ block_at bs c.args.block = block_is bs c.args.block c.index_mut.result.now (block_there bs c.args.block c.args.place c.requires.within) c.index_mut.ensures.value in
    let made = removed_in c.args.self.now.bounds.items bs c.requires.whole c.args.block c.args.place c.requires.within c.index_mut.result.now c.remove-value.new.self own c.remove-value.ensures.new in
    removal_count c.args.self.now.bounds.items bs c.requires.whole c.args.block c.args.place c.requires.within
    (set bs c.args.block c.remove-value.new.self) c.join.new.self.list.items c.join_before.new.self.list.items c.drop_empty.new.self.list.items
    c.join.new.self.bounds.items c.join_before.new.self.bounds.items c.drop_empty.new.self.bounds.items
    made c.join.ensures.bounds c.join.ensures.list c.join_before.ensures.bounds c.join_before.ensures.list c.drop_empty.ensures.bounds c.drop_empty.ensures.list
