use Rattle.std.proofs.Common.{subst}
use Rattle.tuple_codec.proofs.Strips.{IsBehind}
use Rattle.tuple_codec.proofs.strip.strip_int.Goals as goal

pub returns : goal.returns
returns c = subst (λ s. IsBehind c.behind_number.result s c.args.key.now) c.of-form.ensures.bytes c.behind_number.ensures
