use Rattle.std.proofs.Common.{◌∙◌, ap, refl}
use Rattle.metadata.specs.declared.index.State.TheVariants.{Readable}
use Rattle.metadata.specs.Schema.{Schema, find_index}
use Rattle.index_maint.specs.Layout.{built_place}
use Rattle.txn.proofs.Exits.{exit_with}
use Rattle.record_store.specs.Call.{Opened}
use Rattle.record_store.specs.Calls.{opened_marked, readable_call}
use Rattle.record_store.specs.Meaning.{index_number}
use Rattle.record_store.specs.Store.{listed_by, altered_at, state_in}
use Rattle.record_store.specs.Steps.{no_memory, of_set, of_write}
use Rattle.record_store.proofs.Answered.{memory_still}
use Rattle.record_store.proofs.IndexCalls.{one_number, opened_so}
use Rattle.record_store.proofs.MarkCalls.{number_named, readable_answered, readable_limited, readable_memory, readable_refused, readable_unbuilt, readable_unread}
use Rattle.record_store.proofs.store.Store.mark_readable.Goals as goal

pub returns-in_err-index-clause-refused : goal.returns-in_err-index-clause-refused
returns-in_err-index-clause-refused g c =
    exit_with c.from_residual.result c.in_err-index.field-0.0 _ c.from_residual.ensures
    (readable_refused (g.S.Snapshot.map_at c.args.db.now) (g.S.Snapshot.may_refuse c.args.db.now) c.args.self.now c.args.name.now c.in_err-index.field-0.0 c.in_err-index.ensures.refused refl)

pub returns-in_err-place-clause-refused : goal.returns-in_err-place-clause-refused
returns-in_err-place-clause-refused g c =
    exit_with c.from_residual-in_err-place.result no_memory _ c.from_residual-in_err-place.ensures
    (memory_still (g.S.Snapshot.map_at c.args.db.now) (g.S.Snapshot.may_refuse c.args.db.now) c.args.self.now (readable_call c.args.self.now c.args.name.now) refl)

pub returns-in_err-whole-clause-refused : goal.returns-in_err-whole-clause-refused
returns-in_err-whole-clause-refused g c =
    exit_with c.from_residual-in_err-whole.result (of_set c.in_err-whole.field-0.0) _ c.from_residual-in_err-whole.ensures
    (readable_unread (g.S.Snapshot.map_at c.args.db.now) (g.S.Snapshot.may_refuse c.args.db.now) c.args.self.now c.args.name.now c.in_ok-index.index.now c.in_ok-index.ensures.found c.as_slice.result.now c.in_err-whole.field-0.0
    (c.as_slice.ensures.value ∙ c.in_ok-place.ensures.place ∙ ap (λ p. built_place p c.in_ok-index.index.now.number) c.prefix.ensures.prefix) c.in_err-whole.ensures.refused)

pub returns-then-not-whole-clause-refused : goal.returns-then-not-whole-clause-refused
returns-then-not-whole-clause-refused g c =
    readable_unbuilt (g.S.Snapshot.map_at c.args.db.now) (g.S.Snapshot.may_refuse c.args.db.now) c.args.self.now c.args.name.now c.in_ok-index.index.now c.in_ok-index.ensures.found c.as_slice.result.now c.in_ok-whole.whole
    (c.as_slice.ensures.value ∙ c.in_ok-place.ensures.place ∙ ap (λ p. built_place p c.in_ok-index.index.now.number) c.prefix.ensures.prefix) c.in_ok-whole.ensures.whole c.if-not-whole.true

pub returns-in_err-mutations-clause-refused : goal.returns-in_err-mutations-clause-refused
returns-in_err-mutations-clause-refused g c =
    exit_with c.from_residual-in_err-mutations.result no_memory _ c.from_residual-in_err-mutations.ensures
    (readable_memory (g.S.Snapshot.map_at c.args.db.now) (g.S.Snapshot.may_refuse c.args.db.now) c.args.self.now c.args.name.now c.in_ok-index.index.now c.in_ok-index.ensures.found c.as_slice.result.now c.in_ok-whole.whole
    (c.as_slice.ensures.value ∙ c.in_ok-place.ensures.place ∙ ap (λ p. built_place p c.in_ok-index.index.now.number) c.prefix.ensures.prefix) c.in_ok-whole.ensures.whole)

pub returns-in_err-write_all-clause-refused : goal.returns-in_err-write_all-clause-refused
returns-in_err-write_all-clause-refused g c =
    exit_with c.from_residual-in_err-write_all.result (of_write c.in_err-write_all.field-0.0) _ c.from_residual-in_err-write_all.ensures
    (readable_limited (g.S.Snapshot.map_at c.args.db.now) (g.S.Snapshot.may_refuse c.args.db.now) c.args.self.now c.args.name.now c.in_ok-index.index.now c.in_ok-index.ensures.found c.as_slice.result.now c.in_ok-whole.whole
    (c.as_slice.ensures.value ∙ c.in_ok-place.ensures.place ∙ ap (λ p. built_place p c.in_ok-index.index.now.number) c.prefix.ensures.prefix) c.in_ok-whole.ensures.whole
    c.in_ok-mutations.mutations.items c.in_ok-mutations.ensures c.if-not-whole.false c.in_err-write_all.field-0.0 c.in_err-write_all.ensures.kept c.in_err-write_all.ensures.refused)

pub returns-clause-marked : goal.returns-clause-marked
returns-clause-marked g c =
    readable_answered (g.S.Snapshot.map_at c.args.db.now) (g.S.Snapshot.may_refuse c.args.db.now) c.args.self.now c.args.name.now c.in_ok-index.index.now c.in_ok-index.ensures.found c.as_slice.result.now c.in_ok-whole.whole
    (c.as_slice.ensures.value ∙ c.in_ok-place.ensures.place ∙ ap (λ p. built_place p c.in_ok-index.index.now.number) c.prefix.ensures.prefix) c.in_ok-whole.ensures.whole
    c.in_ok-mutations.mutations.items c.in_ok-mutations.ensures c.if-not-whole.false c.in_ok-states.states.items
    (c.in_ok-states.ensures ∙ ap (λ is. listed_by is (altered_at c.in_ok-index.index.now.number Readable (state_in c.args.self.now.states))) (c.indexes.ensures ∙ ap (λ (s : Schema). s.indexes) c.schema.ensures))
    c.in_ok-write_all.ensures.ok c.in_ok-write_all.ensures.allowed

pub returns-clause-opened : goal.returns-clause-opened
returns-clause-opened g c = λ number is.
    opened_so c.args.self.now _ _ c.args.self.now.schema c.in_ok-states.states.items c.in_ok-index.index.now.number Readable
    (ap (λ (o : Opened). o.prefix) c.self.view_is) (ap (λ (o : Opened). o.schema) c.self.view_is)
    (c.in_ok-states.ensures ∙ ap (λ is. listed_by is (altered_at c.in_ok-index.index.now.number Readable (state_in c.args.self.now.states))) (c.indexes.ensures ∙ ap (λ (s : Schema). s.indexes) c.schema.ensures))
    ∙ ap (λ n. opened_marked c.args.self.now n Readable)
    (one_number c.in_ok-index.index.now.number number (index_number (find_index c.args.self.now.schema c.args.name.now)) (number_named c.args.self.now c.args.name.now c.in_ok-index.index.now c.in_ok-index.ensures.found) is)

pub returns-in_err-states-clause-refused : goal.returns-in_err-states-clause-refused
returns-in_err-states-clause-refused g c =
    exit_with c.from_residual-in_err-states.result no_memory _ c.from_residual-in_err-states.ensures
    (readable_memory (g.S.Snapshot.map_at c.args.db.now) (g.S.Snapshot.may_refuse c.args.db.now) c.args.self.now c.args.name.now c.in_ok-index.index.now c.in_ok-index.ensures.found c.as_slice.result.now c.in_ok-whole.whole
    (c.as_slice.ensures.value ∙ c.in_ok-place.ensures.place ∙ ap (λ p. built_place p c.in_ok-index.index.now.number) c.prefix.ensures.prefix) c.in_ok-whole.ensures.whole)
