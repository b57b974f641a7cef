use Rattle.std.proofs.Common.{◌≡◌, ◌<◌, length, None, sym, subst, arith}
use Rattle.json.specs.Json.{after_end_array}
use Rattle.serde_json.specs.View.{view}
use Rattle.json_forms.specs.CellJson.{cell_in}
use Rattle.json_forms.specs.InTurn.{IsNextOf, IsRestOfList}
use Rattle.json_forms.proofs.InTurn.{IsReadTo, read_all, read_none, read_one_more}
use Rattle.json_forms.proofs.in_turn.rest_of_cells.Goals as goal

pub cells-init : goal.cells-init
cells-init c = read_none cell_in c.args.depth c.args.reader.now c.new-cells.result.items c.new-cells.ensures.items

pub cells-preserved : goal.cells-preserved
cells-preserved c =
    let l = c.cells in
    let r = c.next_value.new.reader in
    let going : (after_end_array l.reader ≡ None) × (c.take_end_array.new.self ≡ l.reader) = grind arith in
    let next : IsNextOf cell_in c.args.depth l.reader c.in_ok-cell_from.field-0 r = (view c.in_ok-value.value, rw (← going.1) c.in_ok-value.ensures.ok, c.in_ok-cell_from.ensures) in
    let shorter : length r < length l.reader = rw (← going.1) c.in_ok-value.ensures.shorter in
    subst (λ cells. IsReadTo cell_in c.args.depth c.args.reader.now r cells) (sym c.in_ok-push.ensures.items)
    (read_one_more cell_in c.args.depth c.args.reader.now l.reader r l.cells.items c.in_ok-cell_from.field-0 l.invariant going.0 next shorter)

pub returns-clause-ok : goal.returns-clause-ok
returns-clause-ok c =
    let l = c.cells in
    let r = c.take_end_array.new.self in
    subst (λ cells. IsRestOfList cell_in c.args.depth c.args.reader.now cells r) (sym c.new.ensures)
    (read_all cell_in c.args.depth c.args.reader.now l.reader r l.cells.items l.invariant (grind arith))
