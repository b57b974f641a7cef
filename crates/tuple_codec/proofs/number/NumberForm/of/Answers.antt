use Rattle.std.proofs.Common.{◌∙◌}
use Rattle.tuple_codec.proofs.IntWrites.{int_zero}
use Rattle.tuple_codec.proofs.number.NumberForm.of.Goals as goal

pub returns-in-Zero-clause-bytes : goal.returns-in-Zero-clause-bytes
returns-in-Zero-clause-bytes c = c.form.ensures.bytes ∙ int_zero c.args.value c.in-Zero.ensures
