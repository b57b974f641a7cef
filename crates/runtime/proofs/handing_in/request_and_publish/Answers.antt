use Rattle.runtime.specs.Outcomes.{next_entry}
use Rattle.runtime.proofs.Handled.{shows_by}
use Rattle.runtime.proofs.handing_in.request_and_publish.Goals as goal

pub returns-clause-shows : goal.returns-clause-shows
returns-clause-shows g c =
    shows_by c.args.state c.request-outcome.new.self (next_entry c.args.state.last c.args.client c.args.request c.args.trace) c.request-outcome.result.outcome c.shown-state.result.1
    c.request-outcome.ensures.handled c.shown-state.ensures.log
