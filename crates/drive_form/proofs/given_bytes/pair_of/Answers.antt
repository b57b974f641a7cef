use Rattle.drive_form.specs.Form.{FitsPair, IsShort, pair_bytes, sized}
use Rattle.drive_form.proofs.Unread.{pair_none_value, part_exit}
use Rattle.drive_form.proofs.given_bytes.pair_of.Goals as goal

pub returns-in_err-value-clause-err : goal.returns-in_err-value-clause-err
returns-in_err-value-clause-err c =
    let bytes = c.args.reader.now.rest.now in
    let left = c.bytes.new.self.rest.now in
    part_exit pair_bytes FitsPair sized IsShort bytes left c.from_residual-in_err-value.result c.in_err-value.field-0.0 c.from_residual-in_err-value.ensures
    (pair_none_value bytes left c.in_ok-key.key c.in_ok-key.ensures.fits c.in_ok-key.ensures.ok) c.in_err-value.ensures.err
