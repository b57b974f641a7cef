use Rattle.std.proofs.Common.{rules}
use Rattle.packed_rows.proofs.OneMore.{kept_after, more_told, on_err, same_told}
use Rattle.packed_rows.proofs.rows.Rows.push_pack.Goals as goal

pub invariant_of-self-inside : goal.invariant_of-self-inside
invariant_of-self-inside c =
    let f = c.self.inside in
    let told = c.push_piece.ensures in (
      kept_after c.push_piece.result f.bytes.items f.ends.items c.push_piece.new.bytes.items c.push_piece.new.ends.items f.kept
          c.args.pack.now c.requires.0 c.requires.1 told.bytes told.ends told.same_bytes told.same_ends,
      tt,
    )

pub returns-in_err-push_piece-clause-err : goal.returns-in_err-push_piece-clause-err
returns-in_err-push_piece-clause-err c =
    let f = c.self.inside in
    let same = same_told f.bytes.items f.ends.items c.push_piece.new.bytes.items c.push_piece.new.ends.items f.kept c.args.self.now c.self.view_is
    c.in_err-push_piece.ensures.same_bytes c.in_err-push_piece.ensures.same_ends in
    on_err c.from_residual.result (search (rules, same))

pub returns-clause-ok : goal.returns-clause-ok
returns-clause-ok c =
    let f = c.self.inside in
    let told = c.in_ok-push_piece.ensures in
    λ row are.
    let more = more_told f.bytes.items f.ends.items c.push_piece.new.bytes.items c.push_piece.new.ends.items f.kept c.args.self.now
    c.args.pack.now row c.self.view_is are told.bytes told.ends in
    search (rules, more)
