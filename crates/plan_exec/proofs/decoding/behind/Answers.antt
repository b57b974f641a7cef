use Rattle.std.proofs.Common.{refl}
use Rattle.tuple_codec.proofs.Prefixes.{behind_or_not}
use Rattle.plan_exec.proofs.decoding.behind.Goals as goal

pub returns : goal.returns
returns c = behind_or_not c.args.key.now c.args.front.now c.args.front.now refl c.strip_prefix.result c.strip_prefix.ensures.cases
