use Rattle.std.proofs.Common.{◌<◌, All, arith, length, subst, sym, take}
use Rattle.std.proofs.lemmas.List.{take_all}
use Rattle.std.proofs.lemmas.Option.{get_or_from_slice_get}
use Rattle.std.proofs.lemmas.Result.{on_ok_weaker}
use Rattle.metadata.specs.Cell.{IsCell}
use Rattle.json_forms.specs.RowText.{row_json}
use Rattle.json_forms.proofs.RowTexts.{begun_more, closed, known_more}
use Rattle.json_forms.proofs.row_text.write_rows.Goals as goal

pub loop-place-preserved : goal.loop-place-preserved
loop-place-preserved c =
    let at = c.in-Some.ensures.found in
    let rows = c.args.rows.now in
    let place = c.loop-place.place in
    let within : place < length rows = omega (arith, c.loop-place-test.true, c.len-place-end.ensures) in
    let is = sym (get_or_from_slice_get rows place at.row at.row at.found) in record {
      written = begun_more row_json rows place at.row c.args.out.now c.loop-place.out c.write_pack.new.out within is c.loop-place.invariant.written
          (c.in_ok-write_pack.ensures at.row at.packed);
      known = known_more (All IsCell) rows place at.row within is at.packed.cells c.loop-place.invariant.known;
    }

pub returns-clause-written : goal.returns-clause-written
returns-clause-written c =
    let rows = c.args.rows.now in
    let whole = take_all c.loop-place.place rows (omega (arith, c.loop-place-test.false, c.len-place-end.ensures)) in
    on_ok_weaker c.end_array.result
    (λ e. closed row_json rows (take c.loop-place.place rows) c.args.out.now c.loop-place.out c.end_array.new.self
    whole c.loop-place.invariant.written e c.end_array.ensures.room.0) c.end_array.ensures.ok

pub returns-clause-known : goal.returns-clause-known
returns-clause-known c =
    let rows = c.args.rows.now in
    let whole = take_all c.loop-place.place rows (omega (arith, c.loop-place-test.false, c.len-place-end.ensures)) in
    on_ok_weaker c.end_array.result (λ e. subst (All (All IsCell)) whole c.loop-place.invariant.known) c.end_array.ensures.ok
