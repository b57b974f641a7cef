use Rattle.std.proofs.Common.{arith, rules}
use Rattle.std.specs.Int.{w32, to_le_bytes}
use Rattle.drive_form.specs.Form.{FitEach, FitsRange, counted, range_bytes}
use Rattle.drive_form.proofs.Spelling.{read_more}
use Rattle.drive_form.proofs.Unread.{counted_none_item, fits_more, range_once, part_exit}
use Rattle.drive_form.proofs.given_bytes.ranges_of.Goals as goal

pub loop-preserved : goal.loop-preserved
loop-preserved c = record {
  read = read_more range_bytes (to_le_bytes w32 c.in_ok-count.count) c.args.reader.now.rest.now c.loop.ranges.items _ c.in_ok-range.field-0 c.loop.reader.rest.now _ c.in_ok-push.ensures.items c.in_ok-range.ensures.ok c.loop.invariant.read;
  many = search rules;
  fit = fits_more FitsRange c.loop.ranges.items _ c.in_ok-range.field-0 c.in_ok-push.ensures.items c.loop.invariant.fit c.in_ok-range.ensures.fits;
}

pub returns-in_err-range-clause-err : goal.returns-in_err-range-clause-err
returns-in_err-range-clause-err c =
    let bytes = c.args.reader.now.rest.now in
    let left = c.loop.reader.rest.now in
    part_exit (counted range_bytes) (FitEach FitsRange) range_bytes FitsRange bytes left c.from_residual-in_err-range.result c.in_err-range.field-0.0 c.from_residual-in_err-range.ensures
    (counted_none_item range_bytes FitsRange range_once bytes left c.in_ok-count.count c.loop.ranges.items c.in_ok-count.ensures.fits c.loop.invariant.read (omega arith) c.loop.invariant.fit) c.in_err-range.ensures.err

pub returns-clause-fits : goal.returns-clause-fits
returns-clause-fits c = (omega (arith, c.in_ok-count.ensures.fits), c.loop.invariant.fit)
