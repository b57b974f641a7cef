use Rattle.std.proofs.Common.{◌≡◌, ◌-◌, ◌<◌, List, ℕ, ap, arith, drop, length, subst, sym, take}
use Rattle.metadata.specs.declared.cells.Cell.{Cell}
use Rattle.packed_rows.specs.Packs.{IsPackAt}
use Rattle.packed_rows.proofs.Pieces.{length-ends, pack_of_piece, piece_told}
use Rattle.packed_rows.proofs.rows.Rows.pack_at.Goals as goal

pub returns-then-place-len-clause-none : goal.returns-then-place-len-clause-none
returns-then-place-len-clause-none c =
    let f = c.self.inside in
    let count = length-ends f.bytes.items f.ends.items f.kept in
    let shown : length f.kept.rows ≡ length c.args.self.now = ap length c.self.view_is in
    omega (arith, c.if-place-len.true, c.len.ensures, count, shown)

pub slice_bounds-result-count : goal.slice_bounds-result-count
slice_bounds-result-count c =
    let f = c.self.inside in
    let within : c.args.place < length f.ends.items = omega (arith, c.if-place-len.false, c.len.ensures) in
    (piece_told f.bytes.items f.ends.items c.as_slice.result.now f.kept c.args.place c.begin_at-begin.result c.index-end.result.now within
    c.as_slice.ensures.value c.begin_at-begin.ensures c.index-end.ensures).ordered

pub slice_bounds-result-start : goal.slice_bounds-result-start
slice_bounds-result-start c =
    let f = c.self.inside in
    let within : c.args.place < length f.ends.items = omega (arith, c.if-place-len.false, c.len.ensures) in
    (piece_told f.bytes.items f.ends.items c.as_slice.result.now f.kept c.args.place c.begin_at-begin.result c.index-end.result.now within
    c.as_slice.ensures.value c.begin_at-begin.ensures c.index-end.ensures).ordered

pub slice_bounds-result-end : goal.slice_bounds-result-end
slice_bounds-result-end c =
    let f = c.self.inside in
    let within : c.args.place < length f.ends.items = omega (arith, c.if-place-len.false, c.len.ensures) in
    let it = piece_told f.bytes.items f.ends.items c.as_slice.result.now f.kept c.args.place c.begin_at-begin.result c.index-end.result.now within
    c.as_slice.ensures.value c.begin_at-begin.ensures c.index-end.ensures in
    let size : length c.deref.result.now ≡ length f.bytes.items = ap length c.deref.ensures.value in
    omega (arith, it.within, size)

pub returns-clause-found : goal.returns-clause-found
returns-clause-found c =
    let f = c.self.inside in
    let within : c.args.place < length f.ends.items = omega (arith, c.if-place-len.false, c.len.ensures) in
    let begin = c.begin_at-begin.result in
    let end = c.index-end.result.now in
    let it = piece_told f.bytes.items f.ends.items c.as_slice.result.now f.kept c.args.place begin end within
    c.as_slice.ensures.value c.begin_at-begin.ensures c.index-end.ensures in
    let pack = subst (λ (bs : List ℕ). IsPackAt f.kept.rows c.args.place (take (end - begin) (drop begin bs))) (sym c.deref.ensures.value)
    (pack_of_piece f.bytes.items begin end f.kept.rows c.args.place it) in
    subst (λ (rows : List (List Cell)). IsPackAt rows c.args.place (take (end - begin) (drop begin c.deref.result.now))) c.self.view_is pack
