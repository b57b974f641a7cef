use Rattle.std.proofs.Common.{refl, sym, ◌∙◌}
use Rattle.std.proofs.lemmas.Bool.{eqb-true}
use Rattle.plan_exec.proofs.Pieces.{pieces_end, pieces_on}
use Rattle.plan_exec.proofs.packing.are_pieces.Goals as goal

pub loop-place-init : goal.loop-place-init
loop-place-init c = λ are. are

pub loop-place-preserved : goal.loop-place-preserved
loop-place-preserved c =
    pieces_on c.args.value.now c.args.places.now c.args.pieces.now c.loop-place.place-index _ _ c.loop-place-test.true refl c.loop-place.rest.now c.loop-place.invariant
    c.in-Some.piece.now c.in-Some-behind.after.now (rw c.in-Some.is at c.in_ok-piece.ensures) (rw c.in-Some-behind.is at c.behind.ensures)

pub returns : goal.returns
returns c = λ none.
    pieces_end c.args.value.now c.args.places.now c.args.pieces.now c.loop-place.place-index c.loop-place-test.false c.loop-place.rest.now c.loop-place.invariant
    (eqb-true _ 0 (sym c.is_empty.ensures ∙ none))
