use Rattle.std.proofs.Common.{◌≡◌, ◌+◌, ◌∙◌, suc, Some, ap, arith, insert, set, slice_get, sym, unwrap_or}
use Rattle.std.specs.Map.{keys_of}
use Rattle.block_map.specs.Blocks.{block_at}
use Rattle.block_map.proofs.Edited.{block_is}
use Rattle.block_map.proofs.Forked.{insert-forked}
use Rattle.block_map.proofs.blocks.Blocks.fork.Goals as goal

pub returns-clause-list : goal.returns-clause-list
returns-clause-list g c =
    let bs = c.args.self.now.list.items in
    let left = c.put_cut.new.self in
    let right = c.put_cut.new.rest in
    let own : c.index_mut.result.now ≡ block_at bs c.args.block = block_is bs c.args.block c.index_mut.result.now c.requires.block c.index_mut.ensures.value in
    let next : c.args.block + 1 ≡ suc c.args.block = omega arith in
    record {
      left = left;
      right = right;
      list = c.insert_reserved-2.ensures.items ∙ ap (λ n. insert (set bs c.args.block left) n right) next ∙ insert-forked bs c.args.block left right c.requires.block;
      whole = c.put_cut.ensures.whole ∙ ap (λ l. insert l c.args.place (c.args.key, c.args.value)) own;
      some = c.put_cut.ensures.kept;
      fits = c.put_cut.ensures.kept_fits;
      rest_fits = c.put_cut.ensures.moved;
      begins = c.put_cut.ensures.bound ∙ ap (λ l. Some (unwrap_or (slice_get (keys_of l) c.args.cut) c.args.key)) own ∙ ap Some (sym c.requires.bound);
    }
