use Rattle.std.proofs.Common.{refl}
use Rattle.txn.proofs.Exits.{exit_with}
use Rattle.schedule.specs.declared.step.Command.TheVariants.{State}
use Rattle.schedule.proofs.Outcomes.{refused_unopened}
use Rattle.schedule.proofs.IndexServing.{state_performed, state_refused}
use Rattle.schedule.proofs.index_commands.index_state.Goals as goal

pub returns-in_err-store-clause-refused : goal.returns-in_err-store-clause-refused
returns-in_err-store-clause-refused g c =
    exit_with c.from_residual.result c.in_err-store.field-0.0 _ c.from_residual.ensures
    (refused_unopened c.args.number (State c.args.name.now) c.in_err-store.field-0.0 refl refl (λ m. refl) c.in_err-store.ensures.refused)

pub returns-in-Err-clause-refused : goal.returns-in-Err-clause-refused
returns-in-Err-clause-refused g c =
    state_refused c.args.number c.in_ok-store.store c.args.name.now c.in-Err.refusal c.in_ok-store.ensures.prefix c.in_ok-store.ensures.opened c.in-Err.ensures.refused

pub returns-in-Ok-clause-performed : goal.returns-in-Ok-clause-performed
returns-in-Ok-clause-performed g c =
    state_performed c.args.number c.in_ok-store.store c.args.name.now c.in-Ok.state c.in_ok-store.ensures.prefix c.in_ok-store.ensures.opened c.in-Ok.ensures.found

pub returns-in-Ok-clause-known : goal.returns-in-Ok-clause-known
returns-in-Ok-clause-known g c = λ sees. (c.in_ok-store.ensures.prefix, c.in_ok-store.ensures.there sees)

pub returns-in-Err-clause-known : goal.returns-in-Err-clause-known
returns-in-Err-clause-known g c = λ sees. (c.in_ok-store.ensures.prefix, c.in_ok-store.ensures.there sees)
