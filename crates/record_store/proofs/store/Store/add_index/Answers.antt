use Rattle.std.specs.Prelude.{Ok}
use Rattle.std.proofs.Common.{◌∙◌, ap, refl, subst, sym}
use Rattle.metadata.specs.Answers.{IsRefusedAs}
use Rattle.metadata.specs.IndexChange.{new_index}
use Rattle.txn.proofs.Exits.{exit_with}
use Rattle.record_store.specs.Call.{Opened}
use Rattle.metadata.specs.Schema.{Schema}
use Rattle.record_store.specs.Store.{listed_by, altered_at, state_in}
use Rattle.record_store.specs.Calls.{index_footprint}
use Rattle.record_store.specs.Meaning.{index_meaning}
use Rattle.record_store.specs.Steps.{no_memory, of_metadata, of_write}
use Rattle.record_store.proofs.Answered.{refused_own}
use Rattle.record_store.proofs.AddedCalls.{index_answered, index_limited, index_memory, index_unread, indexed_as, type_there}
use Rattle.record_store.proofs.store.Store.add_index.Goals as goal

pub returns-in_err-definition-clause-refused : goal.returns-in_err-definition-clause-refused
returns-in_err-definition-clause-refused g c =
    absurd (type_there c.args.self.now.schema c.args.request.now c.in_ok-index.index (ap (λ s. new_index s c.args.request.now) (sym c.schema.ensures) ∙ c.in_ok-index.ensures.made) c.in_err-definition.ensures.refused.1)

pub returns-in_err-state-clause-refused : goal.returns-in_err-state-clause-refused
returns-in_err-state-clause-refused g c =
    exit_with c.from_residual-in_err-state.result c.in_err-state.field-0.0 _ c.from_residual-in_err-state.ensures
    (index_unread (g.S.Snapshot.map_at c.args.db.now) (g.S.Snapshot.may_refuse c.args.db.now) c.args.self.now c.args.request.now c.in_ok-index.index c.in_ok-definition.definition.now
    (ap (λ s. new_index s c.args.request.now) (sym c.schema.ensures) ∙ c.in_ok-index.ensures.made) c.in_ok-definition.ensures.found c.in_err-state.field-0.0 c.in_err-state.ensures.refused)

pub returns-in_err-mutations-clause-refused : goal.returns-in_err-mutations-clause-refused
returns-in_err-mutations-clause-refused g c =
    exit_with c.from_residual-in_err-mutations.result no_memory _ c.from_residual-in_err-mutations.ensures
    (index_memory (g.S.Snapshot.map_at c.args.db.now) (g.S.Snapshot.may_refuse c.args.db.now) c.args.self.now c.args.request.now c.in_ok-index.index c.in_ok-definition.definition.now
    (ap (λ s. new_index s c.args.request.now) (sym c.schema.ensures) ∙ c.in_ok-index.ensures.made) c.in_ok-definition.ensures.found c.in_ok-state.state c.in_ok-state.ensures.found)

pub returns-in_err-states-clause-refused : goal.returns-in_err-states-clause-refused
returns-in_err-states-clause-refused g c =
    exit_with c.from_residual-in_err-states.result no_memory _ c.from_residual-in_err-states.ensures
    (index_memory (g.S.Snapshot.map_at c.args.db.now) (g.S.Snapshot.may_refuse c.args.db.now) c.args.self.now c.args.request.now c.in_ok-index.index c.in_ok-definition.definition.now
    (ap (λ s. new_index s c.args.request.now) (sym c.schema.ensures) ∙ c.in_ok-index.ensures.made) c.in_ok-definition.ensures.found c.in_ok-state.state c.in_ok-state.ensures.found)

pub returns-in_err-write_all-clause-refused : goal.returns-in_err-write_all-clause-refused
returns-in_err-write_all-clause-refused g c =
    exit_with c.from_residual-in_err-write_all.result (of_write c.in_err-write_all.field-0.0) _ c.from_residual-in_err-write_all.ensures
    (index_limited (g.S.Snapshot.map_at c.args.db.now) (g.S.Snapshot.may_refuse c.args.db.now) c.args.self.now c.args.request.now c.in_ok-index.index c.in_ok-definition.definition.now
    (ap (λ s. new_index s c.args.request.now) (sym c.schema.ensures) ∙ c.in_ok-index.ensures.made) c.in_ok-definition.ensures.found c.in_ok-state.state c.in_ok-state.ensures.found
    c.in_ok-next.next c.in_ok-mutations.mutations.items c.in_ok-next.ensures.added c.in_ok-mutations.ensures
    c.in_err-write_all.field-0.0 c.in_err-write_all.ensures.kept c.in_err-write_all.ensures.refused)

pub returns-clause-added : goal.returns-clause-added
returns-clause-added g c =
    index_answered (g.S.Snapshot.map_at c.args.db.now) (g.S.Snapshot.may_refuse c.args.db.now) c.args.self.now c.args.request.now c.in_ok-index.index c.in_ok-definition.definition.now
    (ap (λ s. new_index s c.args.request.now) (sym c.schema.ensures) ∙ c.in_ok-index.ensures.made) c.in_ok-definition.ensures.found c.in_ok-state.state c.in_ok-state.ensures.found
    c.in_ok-next.next c.in_ok-mutations.mutations.items c.in_ok-next.ensures.added c.in_ok-mutations.ensures
    c.in_ok-next.ensures.lawful c.in_ok-write_all.ensures.ok c.in_ok-write_all.ensures.allowed

pub returns-clause-opened : goal.returns-clause-opened
returns-clause-opened g c =
    indexed_as c.args.self.now c.args.request.now c.in_ok-index.index c.in_ok-state.state _ _ c.in_ok-states.states.items
    (ap (λ s. new_index s c.args.request.now) (sym c.schema.ensures) ∙ c.in_ok-index.ensures.made) (c.in_ok-next.ensures.added ∙ ap (λ made. Ok made) (sym c.in_ok-shared.ensures)) (ap (λ (o : Opened). o.prefix) c.self.view_is)
    (c.in_ok-states.ensures ∙ ap (λ is. listed_by is (altered_at c.in_ok-index.index.number c.in_ok-state.state (state_in c.args.self.now.states))) (c.indexes.ensures ∙ ap (λ (s : Schema). s.indexes) (sym c.in_ok-shared.ensures)))

pub returns-in_err-shared-clause-refused : goal.returns-in_err-shared-clause-refused
returns-in_err-shared-clause-refused g c =
    exit_with c.from_residual-in_err-shared.result no_memory _ c.from_residual-in_err-shared.ensures
    (index_memory (g.S.Snapshot.map_at c.args.db.now) (g.S.Snapshot.may_refuse c.args.db.now) c.args.self.now c.args.request.now c.in_ok-index.index c.in_ok-definition.definition.now
    (ap (λ s. new_index s c.args.request.now) (sym c.schema.ensures) ∙ c.in_ok-index.ensures.made) c.in_ok-definition.ensures.found c.in_ok-state.state c.in_ok-state.ensures.found)

pub returns-in_err-index-clause-refused : goal.returns-in_err-index-clause-refused
returns-in_err-index-clause-refused g c =
    exit_with c.from_residual.result (of_metadata c.in_err-index.field-0.0) _ c.from_residual.ensures
    (refused_own (g.S.Snapshot.map_at c.args.db.now) (g.S.Snapshot.may_refuse c.args.db.now) c.args.self.now index_meaning (index_footprint c.args.self.now) (new_index c.args.self.now.schema c.args.request.now) c.in_err-index.field-0.0
    (subst (λ schema. IsRefusedAs c.in_err-index.field-0.0 (new_index schema c.args.request.now)) c.schema.ensures c.in_err-index.ensures.refused) refl)
