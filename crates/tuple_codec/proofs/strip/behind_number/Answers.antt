use Rattle.std.proofs.Common.{refl}
use Rattle.std.specs.Int.{bytes_high_first}
use Rattle.tuple_codec.proofs.Prefixes.{behind_or_not}
use Rattle.tuple_codec.proofs.Strips.{first_behind, low_bytes}
use Rattle.tuple_codec.proofs.strip.behind_number.Goals as goal

pub returns-in-Some : goal.returns-in-Some
returns-in-Some c =
    first_behind c.args.code (bytes_high_first c.args.count c.args.word) c.args.key.now c.in-Some.rest.now c.strip_prefix.result c.in-Some.ensures
    (behind_or_not c.in-Some.rest.now (bytes_high_first c.args.count c.args.word) _ (low_bytes c.args.count c.args.word c.to_be_bytes.result _ c.requires c.to_be_bytes.ensures refl) c.strip_prefix.result c.strip_prefix.ensures.cases)
