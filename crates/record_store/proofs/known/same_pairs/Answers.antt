use Rattle.std.proofs.lemmas.Slice.Eq.{slice_eq-Decides}
use Rattle.record_store.proofs.KnownStates.{matched, pairs_decide}
use Rattle.record_store.proofs.known.same_pairs.Goals as goal

pub returns : goal.returns
returns c = matched c.eq.result (slice_eq-Decides pairs_decide c.args.pairs.now c.args.others.now c.eq.result c.eq.ensures)
