use Rattle.std.proofs.Common.{arith}
use Rattle.drive_form.proofs.reading.bytes_known.Goals as goal

pub returns : goal.returns
returns c = λ i. omega (arith, c.type_inv.bytes i)
