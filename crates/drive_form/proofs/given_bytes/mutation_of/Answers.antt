use Rattle.drive_form.specs.Form.{FitsMutation, FitsPair, mutation_bytes, pair_bytes}
use Rattle.drive_form.proofs.Unread.{mutation_none_add, mutation_none_compared, mutation_none_set, part_exit}
use Rattle.drive_form.proofs.given_bytes.mutation_of.Goals as goal

pub returns-in_err-key-in-0-clause-err : goal.returns-in_err-key-in-0-clause-err
returns-in_err-key-in-0-clause-err c =
    let bytes = c.args.reader.now.rest.now in
    let left = c.byte.new.self.rest.now in
    part_exit mutation_bytes FitsMutation pair_bytes FitsPair bytes left c.from_residual-in_err-key-in-0.result c.in_err-key-in-0.field-0.0 c.from_residual-in_err-key-in-0.ensures
    (mutation_none_set bytes left c.in_ok-byte.field-0 c.in_ok-byte.ensures.ok c.in-0.is) c.in_err-key-in-0.ensures.err

pub returns-in_err-key-in-2-clause-err : goal.returns-in_err-key-in-2-clause-err
returns-in_err-key-in-2-clause-err c =
    let bytes = c.args.reader.now.rest.now in
    let left = c.byte.new.self.rest.now in
    part_exit mutation_bytes FitsMutation pair_bytes FitsPair bytes left c.from_residual-in_err-key-in-2.result c.in_err-key-in-2.field-0.0 c.from_residual-in_err-key-in-2.ensures
    (mutation_none_add bytes left c.in_ok-byte.field-0 c.in_ok-byte.ensures.ok c.in-2.is) c.in_err-key-in-2.ensures.err

pub returns-in_err-key-in-3-clause-err : goal.returns-in_err-key-in-3-clause-err
returns-in_err-key-in-3-clause-err c =
    let bytes = c.args.reader.now.rest.now in
    let left = c.byte.new.self.rest.now in
    part_exit mutation_bytes FitsMutation pair_bytes FitsPair bytes left c.from_residual-in_err-key-in-3.result c.in_err-key-in-3.field-0.0 c.from_residual-in_err-key-in-3.ensures
    (mutation_none_compared bytes left c.in_ok-byte.field-0 c.in_ok-byte.ensures.ok c.in-3.is) c.in_err-key-in-3.ensures.err
