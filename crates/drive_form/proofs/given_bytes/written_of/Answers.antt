use Rattle.std.proofs.Common.{arith, rules}
use Rattle.std.specs.Int.{w32, to_le_bytes}
use Rattle.drive_form.specs.Form.{FitEach, FitsMutation, counted, mutation_bytes}
use Rattle.drive_form.proofs.Spelling.{read_more}
use Rattle.drive_form.proofs.Unread.{counted_none_item, fits_more, mutation_once, part_exit}
use Rattle.drive_form.proofs.given_bytes.written_of.Goals as goal

pub loop-preserved : goal.loop-preserved
loop-preserved c = record {
  read = read_more mutation_bytes (to_le_bytes w32 c.in_ok-count.count) c.args.reader.now.rest.now c.loop.written.items _ c.in_ok-mutation_of.field-0 c.loop.reader.rest.now _ c.in_ok-push.ensures.items c.in_ok-mutation_of.ensures.ok c.loop.invariant.read;
  many = search rules;
  fit = fits_more FitsMutation c.loop.written.items _ c.in_ok-mutation_of.field-0 c.in_ok-push.ensures.items c.loop.invariant.fit c.in_ok-mutation_of.ensures.fits;
}

pub returns-in_err-mutation_of-clause-err : goal.returns-in_err-mutation_of-clause-err
returns-in_err-mutation_of-clause-err c =
    let bytes = c.args.reader.now.rest.now in
    let left = c.loop.reader.rest.now in
    part_exit (counted mutation_bytes) (FitEach FitsMutation) mutation_bytes FitsMutation bytes left c.from_residual-in_err-mutation_of.result c.in_err-mutation_of.field-0.0 c.from_residual-in_err-mutation_of.ensures
    (counted_none_item mutation_bytes FitsMutation mutation_once bytes left c.in_ok-count.count c.loop.written.items c.in_ok-count.ensures.fits c.loop.invariant.read (omega arith) c.loop.invariant.fit) c.in_err-mutation_of.ensures.err

pub returns-clause-fits : goal.returns-clause-fits
returns-clause-fits c = (omega (arith, c.in_ok-count.ensures.fits), c.loop.invariant.fit)
