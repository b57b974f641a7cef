use Rattle.std.proofs.Common.{refl, subst}
use Rattle.tuple_codec.specs.Spelling.{spelling}
use Rattle.tuple_codec.specs.Subspace.{BeginsWith}
use Rattle.metadata.specs.Cell.{cells_at, items_of}
use Rattle.metadata.proofs.Strips.{stops}
use Rattle.metadata.proofs.cells.Cells.strip_at.Goals as goal

pub returns-in-None : goal.returns-in-None
returns-in-None c =
    subst (λ places. BeginsWith (spelling (items_of (cells_at c.args.self.now places))) c.args.bytes.now → ⊥) c.as_slice-place-items.ensures
    (stops c.args.self.now c.as_slice-place-items.result.now c.args.bytes.now c.loop-place.rest.now c.loop-place.place-index _ c.loop-place-test.true refl c.loop-place.invariant c.in-None.ensures)
