use Rattle.std.proofs.Common.{◌∙◌, ◌==◌, ap, length, subst, sym}
use Rattle.txn.proofs.Exits.{exit_with}
use Rattle.record_store.specs.Call.{IsAnswered, service_of}
use Rattle.kv_core.specs.Read.{NeverRefuses}
use Rattle.record_store.specs.Calls.{schema_writes, type_call, type_footprint}
use Rattle.record_store.specs.Meaning.{type_meaning}
use Rattle.record_store.specs.Steps.{of_write}
use Rattle.record_store.proofs.Answered.{answered, done_with, refused_limit}
use Rattle.record_store.proofs.RecordCalls.{nothing_read, type_served}
use Rattle.record_store.specs.Steps.{no_memory, of_metadata}
use Rattle.record_store.proofs.Answered.{memory_still, refused_own}
use Rattle.metadata.specs.Change.{add_type}
use Rattle.std.proofs.Common.{refl}
use Rattle.record_store.proofs.store.Store.add_type.Goals as goal

pub returns-in_err-write_all-clause-refused : goal.returns-in_err-write_all-clause-refused
returns-in_err-write_all-clause-refused c =
    exit_with c.from_residual-in_err-write_all.result (of_write c.in_err-write_all.field-0.0) _ c.from_residual-in_err-write_all.ensures (λ maps.
    refused_limit maps NeverRefuses c.args.self.now (type_call c.args.self.now c.args.request.now) (service_of type_meaning (type_footprint c.args.self.now) c.in_ok-next.next) c.in_ok-mutations.mutations.items c.in_err-write_all.field-0.0
    (ap (done_with type_meaning (type_footprint c.args.self.now)) c.in_ok-next.ensures.added) (nothing_read maps c.args.self.now)
    (λ m store holds same empty. (record { answer = _; is = refl }, c.in_ok-mutations.ensures ∙ ap (λ p. schema_writes p c.in_ok-next.next) c.prefix.ensures.prefix)) c.in_err-write_all.ensures.kept c.in_err-write_all.ensures.refused)

pub returns-clause-added : goal.returns-clause-added
returns-clause-added c = λ maps.
    subst (λ schema. IsAnswered maps c.args.self.now (type_call c.args.self.now c.args.request.now) schema c.args.tx.now c.write_all.new.self) (sym c.in_ok-shared.ensures)
    (answered maps NeverRefuses c.args.self.now (type_call c.args.self.now c.args.request.now) (service_of type_meaning (type_footprint c.args.self.now) c.in_ok-next.next) c.in_ok-next.next c.in_ok-mutations.mutations.items
    (ap (done_with type_meaning (type_footprint c.args.self.now)) c.in_ok-next.ensures.added) (ap (λ ms. length ms == 0) c.in_ok-mutations.ensures) (nothing_read maps c.args.self.now)
    c.in_ok-write_all.ensures.ok c.in_ok-write_all.ensures.allowed
    (λ m store holds same empty. type_served c.args.self.now c.in_ok-next.next c.args.request.now c.in_ok-mutations.mutations.items (c.in_ok-mutations.ensures ∙ ap (λ p. schema_writes p c.in_ok-next.next) c.prefix.ensures.prefix)
    c.in_ok-next.ensures.lawful c.in_ok-next.ensures.added m store holds same))

pub returns-in_err-next-clause-refused : goal.returns-in_err-next-clause-refused
returns-in_err-next-clause-refused c =
    exit_with c.from_residual.result (of_metadata c.in_err-next.field-0.0) _ c.from_residual.ensures (λ maps.
    refused_own maps NeverRefuses c.args.self.now type_meaning (type_footprint c.args.self.now) (add_type c.args.self.now.schema c.args.request.now) c.in_err-next.field-0.0 c.in_err-next.ensures.refused refl)

pub returns-in_err-mutations-clause-refused : goal.returns-in_err-mutations-clause-refused
returns-in_err-mutations-clause-refused c =
    exit_with c.from_residual-in_err-mutations.result no_memory _ c.from_residual-in_err-mutations.ensures (λ maps.
    memory_still maps NeverRefuses c.args.self.now (type_call c.args.self.now c.args.request.now) refl)

pub returns-in_err-shared-clause-refused : goal.returns-in_err-shared-clause-refused
returns-in_err-shared-clause-refused c =
    exit_with c.from_residual-in_err-shared.result no_memory _ c.from_residual-in_err-shared.ensures (λ maps.
    memory_still maps NeverRefuses c.args.self.now (type_call c.args.self.now c.args.request.now) refl)
