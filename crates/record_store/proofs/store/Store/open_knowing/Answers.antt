use Rattle.std.proofs.Common.{◌∙◌, subst, sym}
use Rattle.kv_core.specs.Range.{point}
use Rattle.metadata.specs.Schema.{Schema}
use Rattle.txn.proofs.Exits.{exit_with}
use Rattle.record_store.specs.Layout.{schema_key, states_range}
use Rattle.record_store.specs.Opening.{IsOpened, StandsOpen}
use Rattle.record_store.specs.Reading.{AreStates, HaveNoStates}
use Rattle.record_store.proofs.Openings.{first_failed, opened_now, then_failed, unopened, unopened_schema, unopened_states}
use Rattle.record_store.specs.Steps.{no_memory}
use Rattle.record_store.proofs.Openings.{opened_memory}
use Rattle.record_store.proofs.Reopening.{opened_stands}
use Rattle.record_store.proofs.store.Store.open_knowing.Goals as goal

pub returns-in_err-written-clause-refused : goal.returns-in_err-written-clause-refused
returns-in_err-written-clause-refused g c =
    exit_with c.from_residual.result c.in_err-written.field-0.0 _ c.from_residual.ensures (unopened c.args.prefix.now c.in_err-written.field-0.0 (first_failed c.args.prefix.now c.in_err-written.field-0.0 c.in_err-written.ensures.refused))

pub returns-in_err-pairs-clause-refused : goal.returns-in_err-pairs-clause-refused
returns-in_err-pairs-clause-refused g c =
    exit_with c.from_residual-in_err-pairs.result c.in_err-pairs.field-0.0 _ c.from_residual-in_err-pairs.ensures
    (unopened c.args.prefix.now c.in_err-pairs.field-0.0 (then_failed c.args.prefix.now c.in_err-pairs.field-0.0 c.in_ok-written.ensures.read c.in_err-pairs.ensures.refused))

pub returns-in_err-schema-clause-refused : goal.returns-in_err-schema-clause-refused
returns-in_err-schema-clause-refused g c =
    exit_with c.from_residual-in_err-schema.result c.in_err-schema.field-0.0 _ c.from_residual-in_err-schema.ensures
    (unopened_schema c.args.prefix.now c.in_ok-written.written c.in_ok-pairs.pairs.items c.in_ok-written.ensures.read c.in_ok-pairs.ensures.read c.in_err-schema.field-0.0 c.in_err-schema.ensures.refused)

pub returns-in_err-states-clause-refused : goal.returns-in_err-states-clause-refused
returns-in_err-states-clause-refused g c =
    exit_with c.from_residual-in_err-states.result c.in_err-states.field-0.0 _ c.from_residual-in_err-states.ensures
    (unopened_states c.args.prefix.now c.in_ok-written.written c.in_ok-pairs.pairs.items c.in_ok-written.ensures.read c.in_ok-pairs.ensures.read c.in_ok-schema.schema.value c.in_err-states.field-0.0 c.in_ok-schema.ensures.found
    (subst (λ (s : Schema). HaveNoStates c.args.prefix.now s.indexes c.in_ok-pairs.pairs.items c.in_err-states.field-0.0) c.deref.ensures c.in_err-states.ensures.refused))

pub returns-clause-opened : goal.returns-clause-opened
returns-clause-opened g c =
    subst (λ p. IsOpened (g.S.Snapshot.map_at c.args.db.now) (record { prefix = p; schema = c.in_ok-schema.schema.value; states = c.in_ok-states.states.items }) c.args.tx.now c.read_states.new.tx) (sym c.in_ok-prefix.ensures.items)
    (opened_now c.args.prefix.now c.in_ok-written.written c.in_ok-pairs.pairs.items c.in_ok-schema.schema.value c.in_ok-states.states.items c.in_ok-written.ensures.read c.in_ok-pairs.ensures.read c.in_ok-schema.ensures.found
    (subst (λ (s : Schema). AreStates c.args.prefix.now s.indexes c.in_ok-pairs.pairs.items c.in_ok-states.states.items) c.deref.ensures c.in_ok-states.ensures.found))

pub returns-in_err-prefix-clause-refused : goal.returns-in_err-prefix-clause-refused
returns-in_err-prefix-clause-refused g c =
    exit_with c.from_residual-in_err-prefix.result no_memory _ c.from_residual-in_err-prefix.ensures
    (opened_memory c.args.prefix.now c.in_ok-written.written c.in_ok-pairs.pairs.items c.in_ok-written.ensures.read c.in_ok-pairs.ensures.read)

pub returns-in_err-reads-clause-refused : goal.returns-in_err-reads-clause-refused
returns-in_err-reads-clause-refused g c =
    exit_with c.from_residual-in_err-reads.result no_memory _ c.from_residual-in_err-reads.ensures
    (opened_memory c.args.prefix.now c.in_ok-written.written c.in_ok-pairs.pairs.items c.in_ok-written.ensures.read c.in_ok-pairs.ensures.read)

pub returns-clause-stands : goal.returns-clause-stands
returns-clause-stands g c =
    subst (λ p. StandsOpen (g.S.Snapshot.map_at c.args.db.now) (record { prefix = p; schema = c.in_ok-schema.schema.value; states = c.in_ok-states.states.items }) c.read_states.new.tx) (sym c.in_ok-prefix.ensures.items)
    (opened_stands (g.S.Snapshot.map_at c.args.db.now) (record { prefix = c.args.prefix.now; schema = c.in_ok-schema.schema.value; states = c.in_ok-states.states.items }) c.args.tx.now c.read_states.new.tx
    (opened_now c.args.prefix.now c.in_ok-written.written c.in_ok-pairs.pairs.items c.in_ok-schema.schema.value c.in_ok-states.states.items c.in_ok-written.ensures.read c.in_ok-pairs.ensures.read c.in_ok-schema.ensures.found
    (subst (λ (s : Schema). AreStates c.args.prefix.now s.indexes c.in_ok-pairs.pairs.items c.in_ok-states.states.items) c.deref.ensures c.in_ok-states.ensures.found)))

pub returns-clause-allowed : goal.returns-clause-allowed
returns-clause-allowed g c = (
  λ must. c.in_ok-written.ensures.allowed
      (subst (λ v. g.S.Snapshot.must_refuse c.args.db.now (point (schema_key c.args.prefix.now)) v) (c.in_ok-pairs.ensures.read.version ∙ c.in_ok-written.ensures.read.version) must),
  (
    λ must. c.in_ok-pairs.ensures.allowed (subst (λ v. g.S.Snapshot.must_refuse c.args.db.now (states_range c.args.prefix.now) v) c.in_ok-pairs.ensures.read.version must),
    tt,
  ),
)
