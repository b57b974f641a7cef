use Rattle.std.proofs.Common.{rules}
use Rattle.drive_form.proofs.Spelling.{eight_read}
use Rattle.drive_form.proofs.reading.Reader.number.Goals as goal

pub returns-clause-ok : goal.returns-clause-ok
returns-clause-ok c =
    eight_read c.args.self.now.rest.now c.in-Some.first.now c.in-Some.rest.now c.from_le_bytes.result c.in-Some.ensures.cases.0 c.in-Some.ensures.cases.1
    (search rules) c.bytes_known.ensures c.from_le_bytes.ensures
