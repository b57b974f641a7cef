use Rattle.std.proofs.lemmas.Result.{on_ok_weaker}
use Rattle.json_forms.proofs.Packed.{all_written, written_more}
use Rattle.json_forms.proofs.row_text.write_pack.Goals as goal

pub loop-cell-preserved : goal.loop-cell-preserved
loop-cell-preserved c =
    written_more c.args.pack.now c.loop-cell.rest.now c.in-Some.after.now c.in-Some.cell c.args.out.now c.loop-cell.out c.write_last.new.out c.loop-cell.invariant
    (rw c.in-Some.is at c.in_ok-cell.ensures.first) (rw c.in-Some.is at c.in_ok-cell.ensures.shorter) c.in_ok-write_last.ensures

pub returns : goal.returns
returns c =
    on_ok_weaker c.end_array.result
    (λ e. all_written c.args.pack.now c.loop-cell.rest.now c.args.out.now c.loop-cell.out c.end_array.new.self c.loop-cell.invariant
    (rw c.in_default.is at c.in_ok-cell.ensures.none) e c.end_array.ensures.room.0) c.end_array.ensures.ok
