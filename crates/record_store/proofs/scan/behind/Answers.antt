use Rattle.std.proofs.Common.{refl}
use Rattle.tuple_codec.proofs.Prefixes.{behind_or_not}
use Rattle.record_store.proofs.scan.behind.Goals as goal

pub returns : goal.returns
returns c = behind_or_not c.args.key.now c.args.place.now c.args.place.now refl c.strip_prefix.result c.strip_prefix.ensures.cases
