use Rattle.std.proofs.Common.{rules}
use Rattle.packed_rows.proofs.OneMore.{kept_after, more_told, on_err, same_told, stored_alone}
use Rattle.packed_rows.proofs.rows.Rows.push.Goals as goal

pub invariant_of-self-inside : goal.invariant_of-self-inside
invariant_of-self-inside c =
    let f = c.self.inside in
    let told = c.push_piece.ensures in
    let are = stored_alone c.as_slice.result.now c.push_pack.new.out.items c.new-pack.result.items c.args.cells.now
    c.in_ok-push_pack.ensures.cells c.as_slice.ensures.value c.in_ok-push_pack.ensures.packed c.new-pack.ensures.items in (
      kept_after c.push_piece.result f.bytes.items f.ends.items c.push_piece.new.bytes.items c.push_piece.new.ends.items f.kept
          c.as_slice.result.now c.args.cells.now are told.bytes told.ends told.same_bytes told.same_ends,
      tt,
    )

pub returns-in_err-push_piece-clause-err : goal.returns-in_err-push_piece-clause-err
returns-in_err-push_piece-clause-err c =
    let f = c.self.inside in
    let told = c.in_err-push_piece.ensures in
    let same = same_told f.bytes.items f.ends.items c.push_piece.new.bytes.items c.push_piece.new.ends.items f.kept c.args.self.now c.self.view_is
    told.same_bytes told.same_ends in
    on_err c.from_residual-in_err-push_piece.result (search (rules, same))

pub returns-clause-ok : goal.returns-clause-ok
returns-clause-ok c =
    let f = c.self.inside in
    let told = c.in_ok-push_piece.ensures in
    let are = stored_alone c.as_slice.result.now c.push_pack.new.out.items c.new-pack.result.items c.args.cells.now
    c.in_ok-push_pack.ensures.cells c.as_slice.ensures.value c.in_ok-push_pack.ensures.packed c.new-pack.ensures.items in
    let more = more_told f.bytes.items f.ends.items c.push_piece.new.bytes.items c.push_piece.new.ends.items f.kept c.args.self.now
    c.as_slice.result.now c.args.cells.now c.self.view_is are told.bytes told.ends in
    search (rules, more)
