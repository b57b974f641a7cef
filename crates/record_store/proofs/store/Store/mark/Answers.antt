use Rattle.std.proofs.Common.{◌∙◌, ◌==◌, ap, length, refl}
use Rattle.kv_core.specs.Read.{NeverRefuses}
use Rattle.txn.proofs.Exits.{exit_with}
use Rattle.record_store.specs.Calls.{mark_call, mark_footprint}
use Rattle.record_store.specs.Meaning.{index_number, mark_meaning}
use Rattle.record_store.specs.Call.{service_of}
use Rattle.record_store.specs.Store.{listed_by, altered_at, state_in}
use Rattle.metadata.specs.Schema.{Schema, find_index}
use Rattle.record_store.specs.Steps.{no_memory, of_metadata, of_write}
use Rattle.record_store.proofs.Answered.{answered, done_with, memory_still, refused_limit, refused_own}
use Rattle.record_store.proofs.RecordCalls.{nothing_read}
use Rattle.record_store.proofs.IndexCalls.{named_there}
use Rattle.record_store.proofs.MarkCalls.{mark_served}
use Rattle.record_store.proofs.store.Store.mark.Goals as goal

pub returns-in_err-write_all-clause-refused : goal.returns-in_err-write_all-clause-refused
returns-in_err-write_all-clause-refused c =
    exit_with c.from_residual-in_err-write_all.result (of_write c.in_err-write_all.field-0.0) _ c.from_residual-in_err-write_all.ensures (λ maps.
    refused_limit maps NeverRefuses c.args.self.now (mark_call c.args.state c.args.self.now c.args.name.now) (service_of (mark_meaning c.args.state) (mark_footprint c.args.state c.args.self.now) c.in_ok-number.number) c.in_ok-mutations.mutations.items c.in_err-write_all.field-0.0
    (ap (done_with (mark_meaning c.args.state) (mark_footprint c.args.state c.args.self.now)) c.in_ok-number.ensures.found) (nothing_read maps c.args.self.now)
    (λ m store holds same empty. (record { answer = _; is = refl }, c.in_ok-mutations.ensures))
    c.in_err-write_all.ensures.kept c.in_err-write_all.ensures.refused)

pub returns-clause-marked : goal.returns-clause-marked
returns-clause-marked c = λ maps.
    answered maps NeverRefuses c.args.self.now (mark_call c.args.state c.args.self.now c.args.name.now) (service_of (mark_meaning c.args.state) (mark_footprint c.args.state c.args.self.now) c.in_ok-number.number) c.in_ok-states.states.items c.in_ok-mutations.mutations.items
    (ap (done_with (mark_meaning c.args.state) (mark_footprint c.args.state c.args.self.now)) c.in_ok-number.ensures.found) (ap (λ ms. length ms == 0) c.in_ok-mutations.ensures) (nothing_read maps c.args.self.now)
    c.in_ok-write_all.ensures.ok c.in_ok-write_all.ensures.allowed
    (λ m store holds same empty. mark_served c.args.self.now c.in_ok-number.number c.args.state c.in_ok-states.states.items c.in_ok-mutations.mutations.items c.requires c.in_ok-mutations.ensures
    (c.in_ok-states.ensures ∙ ap (λ is. listed_by is (altered_at c.in_ok-number.number c.args.state (state_in c.args.self.now.states))) (c.indexes.ensures ∙ ap (λ (s : Schema). s.indexes) c.schema.ensures))
    (named_there c.args.self.now.schema c.args.name.now c.in_ok-number.number c.in_ok-number.ensures.found) m store holds same)

pub returns-in_err-states-clause-refused : goal.returns-in_err-states-clause-refused
returns-in_err-states-clause-refused c =
    exit_with c.from_residual-in_err-states.result no_memory _ c.from_residual-in_err-states.ensures (λ maps.
    memory_still maps NeverRefuses c.args.self.now (mark_call c.args.state c.args.self.now c.args.name.now) refl)

pub returns-in_err-mutations-clause-refused : goal.returns-in_err-mutations-clause-refused
returns-in_err-mutations-clause-refused c =
    exit_with c.from_residual-in_err-mutations.result no_memory _ c.from_residual-in_err-mutations.ensures (λ maps.
    memory_still maps NeverRefuses c.args.self.now (mark_call c.args.state c.args.self.now c.args.name.now) refl)

pub returns-in_err-number-clause-refused : goal.returns-in_err-number-clause-refused
returns-in_err-number-clause-refused c =
    exit_with c.from_residual.result (of_metadata c.in_err-number.field-0.0) _ c.from_residual.ensures (λ maps.
    refused_own maps NeverRefuses c.args.self.now (mark_meaning c.args.state) (mark_footprint c.args.state c.args.self.now) (index_number (find_index c.args.self.now.schema c.args.name.now)) c.in_err-number.field-0.0 c.in_err-number.ensures.refused refl)
