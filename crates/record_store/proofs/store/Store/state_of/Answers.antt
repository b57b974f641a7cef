use Rattle.std.proofs.Common.{◌∙◌, ap, sym, Some, None}
use Rattle.std.specs.Option.{option_copied}
use Rattle.record_store.proofs.IndexSteps.{state_found}
use Rattle.record_store.proofs.store.Store.state_of.Goals as goal

pub returns-in-Some : goal.returns-in-Some
returns-in-Some c = state_found c.args.self.now.states c.args.number (Some c.in-Some.listed.now) (ap option_copied (sym c.in-Some.is) ∙ c.listed.ensures)

pub returns-in-None : goal.returns-in-None
returns-in-None c = state_found c.args.self.now.states c.args.number None (ap option_copied (sym c.in-None.is) ∙ c.listed.ensures)
