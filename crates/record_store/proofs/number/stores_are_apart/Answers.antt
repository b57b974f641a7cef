use Rattle.record_store.proofs.Stores.{apart, first_spelled, held_within}
use Rattle.record_store.proofs.number.stores_are_apart.Goals as goal

pub returns : goal.returns
returns c = record { apart = apart; within = λ prefix m n serial same holds. held_within prefix m n same serial holds; first = first_spelled }
