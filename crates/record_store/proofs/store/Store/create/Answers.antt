use Rattle.std.proofs.Common.{[], ◌∙◌, subst, subst₂, sym}
use Rattle.txn.proofs.Exits.{exit_with}
use Rattle.record_store.specs.Opening.{IsCreated}
use Rattle.record_store.specs.Steps.{of_write}
use Rattle.record_store.proofs.Creating.{created_now, uncreated, uncreated_limit, uncreated_there}
use Rattle.record_store.proofs.Openings.{first_failed, then_failed}
use Rattle.record_store.specs.Steps.{no_memory}
use Rattle.record_store.proofs.Creating.{uncreated_memory}
use Rattle.record_store.proofs.store.Store.create.Goals as goal

pub returns-in_err-written-clause-refused : goal.returns-in_err-written-clause-refused
returns-in_err-written-clause-refused g c =
    exit_with c.from_residual.result c.in_err-written.field-0.0 _ c.from_residual.ensures (uncreated c.args.prefix.now c.args.schema.now c.in_err-written.field-0.0 (first_failed c.args.prefix.now c.in_err-written.field-0.0 c.in_err-written.ensures.refused))

pub returns-in_err-_states-clause-refused : goal.returns-in_err-_states-clause-refused
returns-in_err-_states-clause-refused g c =
    exit_with c.from_residual-in_err-_states.result c.in_err-_states.field-0.0 _ c.from_residual-in_err-_states.ensures
    (uncreated c.args.prefix.now c.args.schema.now c.in_err-_states.field-0.0 (then_failed c.args.prefix.now c.in_err-_states.field-0.0 c.in_ok-written.ensures.read c.in_err-_states.ensures.refused))

pub returns-in_err-refuse_store-clause-refused : goal.returns-in_err-refuse_store-clause-refused
returns-in_err-refuse_store-clause-refused g c =
    exit_with c.from_residual-in_err-refuse_store.result c.in_err-refuse_store.field-0.0 _ c.from_residual-in_err-refuse_store.ensures
    (uncreated_there c.args.prefix.now c.args.schema.now c.in_ok-written.written c.in_ok-written.ensures.read c.in_ok-_states.ensures.read c.in_err-refuse_store.field-0.0 c.in_err-refuse_store.ensures.refused)

pub returns-in_err-write_all-clause-refused : goal.returns-in_err-write_all-clause-refused
returns-in_err-write_all-clause-refused g c =
    exit_with c.from_residual-in_err-write_all.result (of_write c.in_err-write_all.field-0.0) _ c.from_residual-in_err-write_all.ensures
    (uncreated_limit c.args.prefix.now c.args.schema.now c.in_ok-written.written c.in_ok-written.ensures.read c.in_ok-_states.ensures.read c.in_ok-mutations.mutations.items c.in_err-write_all.field-0.0
    c.in_ok-refuse_store.ensures.none c.in_ok-mutations.ensures c.in_err-write_all.ensures.kept c.in_err-write_all.ensures.refused)

pub returns-clause-made : goal.returns-clause-made
returns-clause-made g c =
    record {
      created = made;
      prefix_is = c.in_ok-own_prefix.ensures.items;
      schema_is = c.in_ok-own_schema.ensures ∙ c.in_ok-copy.ensures;
      readable = c.new.ensures.items;
    }
  where
    made : IsCreated (g.S.Snapshot.map_at c.args.db.now) (record { prefix = c.in_ok-own_prefix.own_prefix.items; schema = c.in_ok-own_schema.own_schema.value; states = c.new.result.items }) c.args.tx.now c.write_all.new.self
    made =
        subst (λ ss. IsCreated (g.S.Snapshot.map_at c.args.db.now) (record { prefix = c.in_ok-own_prefix.own_prefix.items; schema = c.in_ok-own_schema.own_schema.value; states = ss }) c.args.tx.now c.write_all.new.self) (sym c.new.ensures.items)
        (subst₂ (λ p s. IsCreated (g.S.Snapshot.map_at c.args.db.now) (record { prefix = p; schema = s; states = [] }) c.args.tx.now c.write_all.new.self) (sym c.in_ok-own_prefix.ensures.items) (sym (c.in_ok-own_schema.ensures ∙ c.in_ok-copy.ensures))
        (created_now c.args.prefix.now c.args.schema.now c.in_ok-written.written c.in_ok-written.ensures.read c.in_ok-_states.ensures.read c.in_ok-mutations.mutations.items c.lawful_known.ensures
        c.in_ok-refuse_store.ensures.none c.in_ok-mutations.ensures c.in_ok-write_all.ensures.ok c.in_ok-write_all.ensures.allowed))

pub returns-in_err-own_prefix-clause-refused : goal.returns-in_err-own_prefix-clause-refused
returns-in_err-own_prefix-clause-refused g c =
    exit_with c.from_residual-in_err-own_prefix.result no_memory _ c.from_residual-in_err-own_prefix.ensures
    (uncreated_memory c.args.prefix.now c.args.schema.now c.in_ok-written.written c.in_ok-written.ensures.read c.in_ok-_states.ensures.read)

pub returns-in_err-own_schema-clause-refused : goal.returns-in_err-own_schema-clause-refused
returns-in_err-own_schema-clause-refused g c =
    exit_with c.from_residual-in_err-own_schema.result no_memory _ c.from_residual-in_err-own_schema.ensures
    (uncreated_memory c.args.prefix.now c.args.schema.now c.in_ok-written.written c.in_ok-written.ensures.read c.in_ok-_states.ensures.read)

pub returns-in_err-mutations-clause-refused : goal.returns-in_err-mutations-clause-refused
returns-in_err-mutations-clause-refused g c =
    exit_with c.from_residual-in_err-mutations.result no_memory _ c.from_residual-in_err-mutations.ensures
    (uncreated_memory c.args.prefix.now c.args.schema.now c.in_ok-written.written c.in_ok-written.ensures.read c.in_ok-_states.ensures.read)

pub returns-in_err-copy-clause-refused : goal.returns-in_err-copy-clause-refused
returns-in_err-copy-clause-refused g c =
    exit_with c.from_residual-in_err-copy.result no_memory _ c.from_residual-in_err-copy.ensures
    (uncreated_memory c.args.prefix.now c.args.schema.now c.in_ok-written.written c.in_ok-written.ensures.read c.in_ok-_states.ensures.read)

pub returns-in_err-reads-clause-refused : goal.returns-in_err-reads-clause-refused
returns-in_err-reads-clause-refused g c =
    exit_with c.from_residual-in_err-reads.result no_memory _ c.from_residual-in_err-reads.ensures
    (uncreated_memory c.args.prefix.now c.args.schema.now c.in_ok-written.written c.in_ok-written.ensures.read c.in_ok-_states.ensures.read)
