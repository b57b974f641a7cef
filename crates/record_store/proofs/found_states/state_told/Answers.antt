use Rattle.record_store.proofs.StateSteps.{no_key, no_number}
use Rattle.record_store.proofs.found_states.state_told.Goals as goal

pub returns-in_default : goal.returns-in_default
returns-in_default c = no_key c.args.prefix.now c.args.indexes.now c.args.pair.now c.as_slice.result.now c.as_slice.ensures c.in_default.ensures

pub returns-in_default-numbered_from : goal.returns-in_default-numbered_from
returns-in_default-numbered_from c =
    no_number c.args.prefix.now c.args.indexes.now c.args.pair.now c.as_slice.result.now c.in-Some.bytes.now c.as_slice.ensures c.in-Some.ensures c.in_default-numbered_from.ensures.number
