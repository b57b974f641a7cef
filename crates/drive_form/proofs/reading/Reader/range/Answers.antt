use Rattle.drive_form.specs.Form.{FitsRange, IsShort, range_bytes, sized}
use Rattle.drive_form.proofs.Unread.{range_none_end, range_none_turned, part_exit}
use Rattle.drive_form.proofs.reading.Reader.range.Goals as goal

pub returns-in_err-end-clause-err : goal.returns-in_err-end-clause-err
returns-in_err-end-clause-err c =
    let bytes = c.args.self.now.rest.now in
    let left = c.bytes.new.self.rest.now in
    part_exit range_bytes FitsRange sized IsShort bytes left c.from_residual-in_err-end.result c.in_err-end.field-0.0 c.from_residual-in_err-end.ensures
    (range_none_end bytes left c.in_ok-begin.begin c.in_ok-begin.ensures.fits c.in_ok-begin.ensures.ok) c.in_err-end.ensures.err

pub returns-in_default-clause-err : goal.returns-in_default-clause-err
returns-in_default-clause-err c =
    range_none_turned c.args.self.now.rest.now c.bytes.new.self.rest.now c.bytes-2.new.self.rest.now c.in_ok-begin.begin c.in_ok-end.end c.in_ok-begin.ensures.fits
    c.in_ok-end.ensures.fits c.in_ok-begin.ensures.ok c.in_ok-end.ensures.ok c.in_default.ensures.none
