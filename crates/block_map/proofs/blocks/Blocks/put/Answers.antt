use Rattle.std.proofs.Common.{◌≡◌, ◌<◌, ◌∙◌, ap, arith, length, sym}
use Rattle.std.proofs.lemmas.List.{nil_from_length}
use Rattle.std.proofs.lemmas.Result.{on_ok_weaker}
use Rattle.std_collections.proofs.Seek.{seek_err}
use Rattle.kv_core.specs.Bytes.{key_cmp}
use Rattle.block_map.specs.Blocks.{block_at, most}
use Rattle.block_map.proofs.Edited.{block_is}
use Rattle.block_map.proofs.Parted.{laid_count}
use Rattle.block_map.proofs.Wholes.{begun_whole, block_within, even_in, grow_in, grown_whole, put_in}
use Rattle.block_map.proofs.Zipped.{none_there, some_there}
use Rattle.block_map.proofs.blocks.Blocks.put.Goals as goal

pub returns-then-is_empty-clause-whole : goal.returns-then-is_empty-clause-whole
returns-then-is_empty-clause-whole g c =
    let bs = c.args.self.now.list.items in
    let none = nil_from_length bs (omega (arith, none_there c.args.self.now.list.len (sym c.is_empty.ensures ∙ c.if-is_empty.true))) in
    begun_whole c.args.key c.args.value c.args.self.now.bounds.items c.begin.new.self.bounds.items bs c.begin.new.self.list.items c.begin.result none c.requires.whole c.begin.ensures.bounds c.begin.ensures.ok c.begin.ensures.err

pub index-requires : goal.index-requires
index-requires g c =
    let bs = c.args.self.now.list.items in
    let some : 0 < length bs = omega (arith, some_there c.args.self.now.list.len (sym c.is_empty.ensures ∙ c.if-is_empty.false)) in
    omega (arith, block_within c.args.key c.args.value c.args.self.now.bounds.items bs c.requires.whole some c.args.block c.args.place c.requires.block c.requires.place)

pub grow-requires-clause-within : goal.grow-requires-clause-within
grow-requires-clause-within g c =
    let bs = c.args.self.now.list.items in
    let some : 0 < length bs = omega (arith, some_there c.args.self.now.list.len (sym c.is_empty.ensures ∙ c.if-is_empty.false)) in
    block_within c.args.key c.args.value c.args.self.now.bounds.items bs c.requires.whole some c.args.block c.args.place c.requires.block c.requires.place

pub grow-requires-clause-bounds : goal.grow-requires-clause-bounds
grow-requires-clause-bounds g c =
    let bs = c.args.self.now.list.items in
    let some : 0 < length bs = omega (arith, some_there c.args.self.now.list.len (sym c.is_empty.ensures ∙ c.if-is_empty.false)) in
    laid_count c.args.self.now.bounds.items bs c.requires.whole.laid some

pub grow-requires-clause-full : goal.grow-requires-clause-full
grow-requires-clause-full g c =
    let bs = c.args.self.now.list.items in
    let some : 0 < length bs = omega (arith, some_there c.args.self.now.list.len (sym c.is_empty.ensures ∙ c.if-is_empty.false)) in
    let within = block_within c.args.key c.args.value c.args.self.now.bounds.items bs c.requires.whole some c.args.block c.args.place c.requires.block c.requires.place in
    let own = ap length (block_is bs c.args.block c.index.result.now within c.index.ensures) in
    omega arith

pub grow-requires-clause-place : goal.grow-requires-clause-place
grow-requires-clause-place g c =
    let bs = c.args.self.now.list.items in
    let some : 0 < length bs = omega (arith, some_there c.args.self.now.list.len (sym c.is_empty.ensures ∙ c.if-is_empty.false)) in
    let within = block_within c.args.key c.args.value c.args.self.now.bounds.items bs c.requires.whole some c.args.block c.args.place c.requires.block c.requires.place in
    let own = ap length (block_is bs c.args.block c.index.result.now within c.index.ensures) in
    let place = (seek_err (key_cmp c.args.key) (block_at bs c.args.block) c.args.place c.requires.place).0 in
    omega arith

pub returns-then-len-eq-MOST-clause-whole : goal.returns-then-len-eq-MOST-clause-whole
returns-then-len-eq-MOST-clause-whole g c =
    let bs = c.args.self.now.list.items in
    let some : 0 < length bs = omega (arith, some_there c.args.self.now.list.len (sym c.is_empty.ensures ∙ c.if-is_empty.false)) in
    let within = block_within c.args.key c.args.value c.args.self.now.bounds.items bs c.requires.whole some c.args.block c.args.place c.requires.block c.requires.place in
    let own = ap length (block_is bs c.args.block c.index.result.now within c.index.ensures) in
    let full : length (block_at bs c.args.block) ≡ most = omega arith in
    grown_whole c.args.key c.args.value c.args.self.now.bounds.items bs c.requires.whole some c.args.block c.args.place c.requires.block c.requires.place c.grow.result c.grow.new.self.bounds.items c.grow.new.self.list.items full c.grow.ensures.ok c.grow.ensures.err_bounds c.grow.ensures.err_list

pub returns-then-len-eq-MOST-clause-ok : goal.returns-then-len-eq-MOST-clause-ok
returns-then-len-eq-MOST-clause-ok g c =
    let bs = c.args.self.now.list.items in
    let some : 0 < length bs = omega (arith, some_there c.args.self.now.list.len (sym c.is_empty.ensures ∙ c.if-is_empty.false)) in
    let within = block_within c.args.key c.args.value c.args.self.now.bounds.items bs c.requires.whole some c.args.block c.args.place c.requires.block c.requires.place in
    let own = ap length (block_is bs c.args.block c.index.result.now within c.index.ensures) in
    let full : length (block_at bs c.args.block) ≡ most = omega arith in
    on_ok_weaker c.grow.result (λ grows. (grow_in c.args.key c.args.value c.args.self.now.bounds.items bs c.requires.whole some c.args.block c.args.place c.requires.block c.requires.place c.grow.new.self.bounds.items c.grow.new.self.list.items full grows).entries) c.grow.ensures.ok

pub index_mut-requires : goal.index_mut-requires
index_mut-requires g c =
    let bs = c.args.self.now.list.items in
    let some : 0 < length bs = omega (arith, some_there c.args.self.now.list.len (sym c.is_empty.ensures ∙ c.if-is_empty.false)) in
    omega (arith, block_within c.args.key c.args.value c.args.self.now.bounds.items bs c.requires.whole some c.args.block c.args.place c.requires.block c.requires.place)

pub put-requires-clause-within : goal.put-requires-clause-within
put-requires-clause-within g c =
    let bs = c.args.self.now.list.items in
    let some : 0 < length bs = omega (arith, some_there c.args.self.now.list.len (sym c.is_empty.ensures ∙ c.if-is_empty.false)) in
    let within = block_within c.args.key c.args.value c.args.self.now.bounds.items bs c.requires.whole some c.args.block c.args.place c.requires.block c.requires.place in
    let own : c.index_mut.result.now ≡ block_at bs c.args.block = block_is bs c.args.block c.index_mut.result.now within c.index_mut.ensures.value in
    let same = ap length own in
    let place = (seek_err (key_cmp c.args.key) (block_at bs c.args.block) c.args.place c.requires.place).0 in
    omega arith

pub put-requires-clause-room : goal.put-requires-clause-room
put-requires-clause-room g c =
    let bs = c.args.self.now.list.items in
    let some : 0 < length bs = omega (arith, some_there c.args.self.now.list.len (sym c.is_empty.ensures ∙ c.if-is_empty.false)) in
    let even = even_in c.args.key c.args.value c.args.self.now.bounds.items bs c.requires.whole some c.args.block c.args.place c.requires.block c.requires.place c.index.result.now c.index_mut.result.now c.index.ensures c.index_mut.ensures.value in
    omega (arith, even.0, even.1)

pub returns-clause-whole : goal.returns-clause-whole
returns-clause-whole g c =
    let bs = c.args.self.now.list.items in
    let some : 0 < length bs = omega (arith, some_there c.args.self.now.list.len (sym c.is_empty.ensures ∙ c.if-is_empty.false)) in
    let even = even_in c.args.key c.args.value c.args.self.now.bounds.items bs c.requires.whole some c.args.block c.args.place c.requires.block c.requires.place c.index.result.now c.index_mut.result.now c.index.ensures c.index_mut.ensures.value in
    let room : length c.index_mut.result.now < most = omega (arith, even.0, even.1) in
    (put_in c.args.key c.args.value c.args.self.now.bounds.items bs c.requires.whole some c.args.block c.args.place c.requires.block c.requires.place c.index_mut.result.now c.put.new.self c.index_mut.ensures.value c.put.ensures room).whole

pub returns-clause-ok : goal.returns-clause-ok
returns-clause-ok g c =
    let bs = c.args.self.now.list.items in
    let some : 0 < length bs = omega (arith, some_there c.args.self.now.list.len (sym c.is_empty.ensures ∙ c.if-is_empty.false)) in
    let even = even_in c.args.key c.args.value c.args.self.now.bounds.items bs c.requires.whole some c.args.block c.args.place c.requires.block c.requires.place c.index.result.now c.index_mut.result.now c.index.ensures c.index_mut.ensures.value in
    let room : length c.index_mut.result.now < most = omega (arith, even.0, even.1) in
    (put_in c.args.key c.args.value c.args.self.now.bounds.items bs c.requires.whole some c.args.block c.args.place c.requires.block c.requires.place c.index_mut.result.now c.put.new.self c.index_mut.ensures.value c.put.ensures room).entries
