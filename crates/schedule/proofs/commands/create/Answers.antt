use Rattle.std.proofs.Common.{subst, sym, ◌∙◌}
use Rattle.std.specs.Prelude.{IsTrue}
use Rattle.kv_core.specs.Bytes.{end_of_keys, key_lt}
use Rattle.record_store.specs.Steps.{no_memory, of_metadata}
use Rattle.txn.proofs.Exits.{exit_with}
use Rattle.schedule.specs.declared.step.Command.TheVariants.{Create}
use Rattle.schedule.proofs.Creating.{created_now, refused_request, uncreated}
use Rattle.schedule.proofs.Stops.{refused_memory}
use Rattle.schedule.proofs.commands.create.Goals as goal

pub returns-in_err-schema-clause-refused : goal.returns-in_err-schema-clause-refused
returns-in_err-schema-clause-refused g c =
    exit_with c.from_residual.result (of_metadata c.in_err-schema.field-0.0) _ c.from_residual.ensures (refused_request c.args.number c.args.request.now c.in_err-schema.field-0.0 c.in_err-schema.ensures.refused)

pub returns-in_err-prefix-clause-refused : goal.returns-in_err-prefix-clause-refused
returns-in_err-prefix-clause-refused g c =
    exit_with c.from_residual-in_err-prefix.result no_memory _ c.from_residual-in_err-prefix.ensures (refused_memory c.args.number (Create c.args.request.now))

pub create-requires : goal.create-requires
create-requires g c = subst (λ p. IsTrue (key_lt p end_of_keys)) (sym c.deref.ensures.value) c.in_ok-prefix.ensures.below

pub returns-in_err-_store-clause-refused : goal.returns-in_err-_store-clause-refused
returns-in_err-_store-clause-refused g c =
    exit_with c.from_residual-in_err-_store.result c.in_err-_store.field-0.0 _ c.from_residual-in_err-_store.ensures
    (uncreated c.args.number c.args.request.now _ c.in_ok-schema.schema c.in_err-_store.field-0.0 (c.deref.ensures.value ∙ c.in_ok-prefix.ensures.prefix) c.in_ok-schema.ensures.made c.in_err-_store.ensures.refused)

pub returns-clause-performed : goal.returns-clause-performed
returns-clause-performed g c =
    created_now c.args.number c.args.request.now c.in_ok-_store._store c.in_ok-schema.schema (c.in_ok-_store.ensures.made.prefix_is ∙ c.deref.ensures.value ∙ c.in_ok-prefix.ensures.prefix) c.in_ok-_store.ensures.made.schema_is
    c.in_ok-_store.ensures.made.readable c.in_ok-schema.ensures.made c.in_ok-_store.ensures.made.created
