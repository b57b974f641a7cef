use Rattle.std.proofs.Common.{◌∙◌, ◌==◌, ap, length, refl, subst, sym}
use Rattle.metadata.specs.declared.index.State.TheVariants.{Readable}
use Rattle.metadata.specs.IndexChange.{without_index}
use Rattle.metadata.specs.Schema.{Schema, find_index}
use Rattle.txn.proofs.Exits.{exit_with}
use Rattle.record_store.specs.Call.{IsAnswered, Opened, service_of}
use Rattle.record_store.specs.Store.{listed_by, altered_at, state_in}
use Rattle.kv_core.specs.Read.{NeverRefuses}
use Rattle.record_store.specs.Calls.{drop_call, drop_footprint, opened_without}
use Rattle.record_store.specs.Meaning.{drop_meaning, index_number}
use Rattle.record_store.specs.Steps.{no_memory, of_metadata, of_write}
use Rattle.record_store.proofs.Answered.{answered, done_with, memory_still, refused_limit, refused_own}
use Rattle.record_store.proofs.RecordCalls.{nothing_read}
use Rattle.record_store.proofs.IndexCalls.{drop_served, drop_wrote, named_there, one_number, opened_so}
use Rattle.record_store.proofs.store.Store.drop_index.Goals as goal

pub returns-in_err-write_all-clause-refused : goal.returns-in_err-write_all-clause-refused
returns-in_err-write_all-clause-refused c =
    exit_with c.from_residual-in_err-write_all.result (of_write c.in_err-write_all.field-0.0) _ c.from_residual-in_err-write_all.ensures (λ maps.
    refused_limit maps NeverRefuses c.args.self.now (drop_call c.args.self.now c.args.name.now) (service_of drop_meaning (drop_footprint c.args.self.now) c.in_ok-number.number) c.in_ok-mutations.mutations.items c.in_err-write_all.field-0.0
    (ap (done_with drop_meaning (drop_footprint c.args.self.now)) c.in_ok-number.ensures.found) (nothing_read maps c.args.self.now)
    (λ m store holds same empty. (record { answer = _; is = refl }, drop_wrote c.args.self.now c.in_ok-number.number c.in_ok-next.next c.in_ok-mutations.mutations.items c.in_ok-mutations.ensures c.in_ok-next.ensures.next store same))
    c.in_err-write_all.ensures.kept c.in_err-write_all.ensures.refused)

pub returns-clause-dropped : goal.returns-clause-dropped
returns-clause-dropped c = λ maps.
    subst (λ schema. IsAnswered maps c.args.self.now (drop_call c.args.self.now c.args.name.now) schema c.args.tx.now c.write_all.new.self) (sym c.in_ok-shared.ensures)
    (answered maps NeverRefuses c.args.self.now (drop_call c.args.self.now c.args.name.now) (service_of drop_meaning (drop_footprint c.args.self.now) c.in_ok-number.number) c.in_ok-next.next c.in_ok-mutations.mutations.items
    (ap (done_with drop_meaning (drop_footprint c.args.self.now)) c.in_ok-number.ensures.found) (ap (λ ms. length ms == 0) c.in_ok-mutations.ensures) (nothing_read maps c.args.self.now)
    c.in_ok-write_all.ensures.ok c.in_ok-write_all.ensures.allowed
    (λ m store holds same empty. drop_served c.args.self.now c.in_ok-number.number c.in_ok-next.next c.in_ok-mutations.mutations.items c.in_ok-mutations.ensures c.in_ok-next.ensures.next
    (named_there c.args.self.now.schema c.args.name.now c.in_ok-number.number c.in_ok-number.ensures.found) c.in_ok-next.ensures.lawful m store holds same))

pub returns-clause-opened : goal.returns-clause-opened
returns-clause-opened c = λ number is.
    opened_so c.args.self.now _ _ (without_index c.args.self.now.schema c.in_ok-number.number) c.in_ok-states.states.items c.in_ok-number.number Readable
    (ap (λ (o : Opened). o.prefix) c.self.view_is) (c.in_ok-shared.ensures ∙ c.in_ok-next.ensures.next)
    (c.in_ok-states.ensures ∙ ap (λ is. listed_by is (altered_at c.in_ok-number.number Readable (state_in c.args.self.now.states))) (c.indexes.ensures ∙ ap (λ (s : Schema). s.indexes) c.in_ok-next.ensures.next))
    ∙ ap (opened_without c.args.self.now) (one_number c.in_ok-number.number number (index_number (find_index c.args.self.now.schema c.args.name.now)) c.in_ok-number.ensures.found is)

pub returns-in_err-states-clause-refused : goal.returns-in_err-states-clause-refused
returns-in_err-states-clause-refused c =
    exit_with c.from_residual-in_err-states.result no_memory _ c.from_residual-in_err-states.ensures (λ maps.
    memory_still maps NeverRefuses c.args.self.now (drop_call c.args.self.now c.args.name.now) refl)

pub returns-in_err-next-clause-refused : goal.returns-in_err-next-clause-refused
returns-in_err-next-clause-refused c =
    exit_with c.from_residual-in_err-next.result no_memory _ c.from_residual-in_err-next.ensures (λ maps.
    memory_still maps NeverRefuses c.args.self.now (drop_call c.args.self.now c.args.name.now) refl)

pub returns-in_err-mutations-clause-refused : goal.returns-in_err-mutations-clause-refused
returns-in_err-mutations-clause-refused c =
    exit_with c.from_residual-in_err-mutations.result no_memory _ c.from_residual-in_err-mutations.ensures (λ maps.
    memory_still maps NeverRefuses c.args.self.now (drop_call c.args.self.now c.args.name.now) refl)

pub returns-in_err-number-clause-refused : goal.returns-in_err-number-clause-refused
returns-in_err-number-clause-refused c =
    exit_with c.from_residual.result (of_metadata c.in_err-number.field-0.0) _ c.from_residual.ensures (λ maps.
    refused_own maps NeverRefuses c.args.self.now drop_meaning (drop_footprint c.args.self.now) (index_number (find_index c.args.self.now.schema c.args.name.now)) c.in_err-number.field-0.0 c.in_err-number.ensures.refused refl)

pub returns-in_err-shared-clause-refused : goal.returns-in_err-shared-clause-refused
returns-in_err-shared-clause-refused c =
    exit_with c.from_residual-in_err-shared.result no_memory _ c.from_residual-in_err-shared.ensures (λ maps.
    memory_still maps NeverRefuses c.args.self.now (drop_call c.args.self.now c.args.name.now) refl)
