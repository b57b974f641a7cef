use Rattle.std.proofs.Common.{◌∙◌, refl, sym}
use Rattle.metadata.specs.Schema.{key_kinds}
use Rattle.metadata.proofs.CellSteps.{fits_next, fits_none, fits_on, fits_other}
use Rattle.metadata.proofs.definition.TypeDefinition.fit_key.Goals as goal

pub loop-place-preserved-in_default : goal.loop-place-preserved-in_default
loop-place-preserved-in_default c =
    fits_on c.args.self.now.fields c.as_slice-place-items.result.now c.loop-place.place-index _ c.loop-place-test.true refl c.loop-place.rest.now c.args.cells.now (key_kinds c.args.self.now) c.loop-place.invariant
    (sym c.kind_at.ensures ∙ c.in_default.is)

pub returns-in_default-split_first : goal.returns-in_default-split_first
returns-in_default-split_first c =
    fits_none c.args.self.now.fields c.as_slice-place-items.result.now c.loop-place.place-index _ c.loop-place-test.true refl c.loop-place.rest.now c.args.cells.now (key_kinds c.args.self.now) c.loop-place.invariant
    c.in-Some.kind (sym c.kind_at.ensures ∙ c.in-Some.is) c.in_default-split_first.ensures.cases

pub returns-then-not-fits : goal.returns-then-not-fits
returns-then-not-fits c =
    fits_other c.args.self.now.fields c.as_slice-place-items.result.now c.loop-place.place-index _ c.loop-place-test.true refl c.loop-place.rest.now c.args.cells.now (key_kinds c.args.self.now) c.loop-place.invariant
    c.in-Some.kind (sym c.kind_at.ensures ∙ c.in-Some.is) c.in-Some-split_first.cell.now c.in-Some-split_first.others.now c.in-Some-split_first.ensures.cases.0 (sym c.fits.ensures ∙ c.if-not-fits.true)

pub loop-place-preserved : goal.loop-place-preserved
loop-place-preserved c =
    fits_next c.args.self.now.fields c.as_slice-place-items.result.now c.loop-place.place-index _ c.loop-place-test.true refl c.loop-place.rest.now c.args.cells.now (key_kinds c.args.self.now) c.loop-place.invariant
    c.in-Some.kind (sym c.kind_at.ensures ∙ c.in-Some.is) c.in-Some-split_first.cell.now c.in-Some-split_first.others.now c.in-Some-split_first.ensures.cases.0 (sym c.fits.ensures ∙ c.if-not-fits.false)
