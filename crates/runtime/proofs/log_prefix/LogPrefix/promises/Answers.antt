use Rattle.runtime.proofs.Serving.{headline_of, holds_of, serial_of, served_of}
use Rattle.runtime.proofs.log_prefix.LogPrefix.promises.Goals as goal

pub returns-clause-holds : goal.returns-clause-holds
returns-clause-holds c = holds_of _ _ c.len.ensures.well_formed

pub returns-clause-serial : goal.returns-clause-serial
returns-clause-serial c = serial_of _ _ c.len.ensures.well_formed

pub returns-clause-served : goal.returns-clause-served
returns-clause-served c = served_of _ _ c.len.ensures.well_formed

pub returns-clause-headline : goal.returns-clause-headline
returns-clause-headline c = headline_of _ _ c.len.ensures.well_formed

pub returns-clause-in_turn : goal.returns-clause-in_turn
returns-clause-in_turn c = c.len.ensures.well_formed.in_turn
