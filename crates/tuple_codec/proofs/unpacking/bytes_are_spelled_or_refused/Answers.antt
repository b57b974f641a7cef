use Rattle.tuple_codec.proofs.Unpacks.{spelled_or_refused, not_both, one_refusal}
use Rattle.tuple_codec.proofs.unpacking.bytes_are_spelled_or_refused.Goals as goal

pub returns : goal.returns
returns c = record { all = spelled_or_refused; apart = not_both; one = one_refusal }
