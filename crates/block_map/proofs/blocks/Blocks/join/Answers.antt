use Rattle.std.proofs.Common.{◌≡◌, ◌+◌, ◌<◌, ◌++◌, ◌∙◌, suc, ap, arith, get_or, length, remove, set, sym}
use Rattle.std.proofs.lemmas.List.Edits.{get_or-remove_below}
use Rattle.block_map.specs.Blocks.{block_at}
use Rattle.block_map.proofs.Edited.{block_is}
use Rattle.block_map.proofs.Joined.{bounds_full, bounds_here, bounds_past, joined_full, joined_here, joined_past}
use Rattle.block_map.proofs.blocks.Blocks.join.Goals as goal

pub returns-then-saturating_sub-lt2-clause-bounds : goal.returns-then-saturating_sub-lt2-clause-bounds
returns-then-saturating_sub-lt2-clause-bounds g c = sym (bounds_past c.args.block c.args.self.now.bounds.items c.args.self.now.list.items (omega arith))

pub returns-then-saturating_sub-lt2-clause-list : goal.returns-then-saturating_sub-lt2-clause-list
returns-then-saturating_sub-lt2-clause-list g c = sym (joined_past c.args.block c.args.self.now.list.items (omega arith))

pub returns-then-len-gt-MOST-clause-bounds : goal.returns-then-len-gt-MOST-clause-bounds
returns-then-len-gt-MOST-clause-bounds g c =
    let bs = c.args.self.now.list.items in
    let next : c.args.block + 1 ≡ suc c.args.block = omega arith in
    let a = ap length (block_is bs c.args.block c.index.result.now (omega arith) c.index.ensures) in
    let b = ap length (block_is bs (c.args.block + 1) c.index-2.result.now (omega arith) c.index-2.ensures ∙ ap (block_at bs) next) in
    sym (bounds_full c.args.block c.args.self.now.bounds.items bs (omega arith) (omega arith))

pub returns-then-len-gt-MOST-clause-list : goal.returns-then-len-gt-MOST-clause-list
returns-then-len-gt-MOST-clause-list g c =
    let bs = c.args.self.now.list.items in
    let next : c.args.block + 1 ≡ suc c.args.block = omega arith in
    let a = ap length (block_is bs c.args.block c.index.result.now (omega arith) c.index.ensures) in
    let b = ap length (block_is bs (c.args.block + 1) c.index-2.result.now (omega arith) c.index-2.ensures ∙ ap (block_at bs) next) in
    sym (joined_full c.args.block bs (omega arith) (omega arith))

pub returns-clause-bounds : goal.returns-clause-bounds
returns-clause-bounds g c =
    let bs = c.args.self.now.list.items in
    let next : c.args.block + 1 ≡ suc c.args.block = omega arith in
    let a = ap length (block_is bs c.args.block c.index.result.now (omega arith) c.index.ensures) in
    let b = ap length (block_is bs (c.args.block + 1) c.index-2.result.now (omega arith) c.index-2.ensures ∙ ap (block_at bs) next) in
    c.remove.ensures.items ∙ bounds_here c.args.block c.args.self.now.bounds.items bs (omega arith) (omega arith) (omega arith)

pub returns-clause-list : goal.returns-clause-list
returns-clause-list g c =
    let bs = c.args.self.now.list.items in
    let next : c.args.block + 1 ≡ suc c.args.block = omega arith in
    let a = ap length (block_is bs c.args.block c.index.result.now (omega arith) c.index.ensures) in
    let b = ap length (block_is bs (c.args.block + 1) c.index-2.result.now (omega arith) c.index-2.ensures ∙ ap (block_at bs) next) in
    let inside : suc c.args.block < length bs = omega arith in
    let first : c.index_mut.result.now ≡ block_at bs c.args.block =
    block_is bs c.args.block c.index_mut.result.now (omega arith)
    (c.index_mut.ensures.value ∙ ap (λ l. get_or l c.args.block c.index_mut.result.now) c.remove-next.ensures.items
    ∙ get_or-remove_below bs (c.args.block + 1) c.index_mut.result.now c.args.block (omega arith) (omega arith)) in
    let second : c.remove-next.result ≡ block_at bs (suc c.args.block) = block_is bs (c.args.block + 1) c.remove-next.result (omega arith) c.remove-next.ensures.value ∙ ap (block_at bs) next in
    ap (λ l. set l c.args.block c.append.new.self) (c.remove-next.ensures.items ∙ ap (remove bs) next)
    ∙ joined_here c.args.block bs c.append.new.self inside (omega arith) (c.append.ensures ∙ (λ i. first i ++ second i))
