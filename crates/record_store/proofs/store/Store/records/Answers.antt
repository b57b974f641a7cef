use Rattle.std.proofs.Common.{◌∙◌, ◌∷◌, [], ap, inl, subst, sym, refl}
use Rattle.metadata.specs.Record.{Record}
use Rattle.std.specs.Prelude.{List}
use Rattle.txn.proofs.Exits.{exit_with}
use Rattle.record_store.specs.Call.{IsAnswered, service_of, whole}
use Rattle.record_store.specs.Steps.{no_memory, of_read}
use Rattle.record_store.proofs.Stopping.{unread_failed}
use Rattle.record_store.specs.Calls.{records_call, records_footprint}
use Rattle.record_store.specs.Meaning.{records_meaning, type_number_of}
use Rattle.record_store.specs.Layout.{place, type_range}
use Rattle.record_store.proofs.Answered.{answered_reading, as_added, done_with, refused_unread}
use Rattle.record_store.proofs.RecordCalls.{records_served}
use Rattle.record_store.proofs.Scanning.{rows_read, rows_unread}
use Rattle.record_store.proofs.store.Store.records.Goals as goal

pub returns-in_err-records-clause-refused : goal.returns-in_err-records-clause-refused
returns-in_err-records-clause-refused g c =
    exit_with c.from_residual-in_err-records.result c.in_err-records.field-0.0 _ c.from_residual-in_err-records.ensures
    (refused_unread (g.S.Snapshot.map_at c.args.db.now) (g.S.Snapshot.may_refuse c.args.db.now) c.args.self.now (records_call c.args.self.now c.args.type_name.now)
    (service_of records_meaning (records_footprint c.args.self.now) c.in_ok-definition.definition.now.number) c.in_err-records.field-0.0
    (ap (λ t. done_with records_meaning (records_footprint c.args.self.now) (type_number_of t)) c.in_ok-definition.ensures.found)
    (rows_unread c.args.self.now c.in_ok-definition.definition.now c.prefix.ensures.lawful c.in_ok-definition.ensures.own
    c.in_ok-range.range c.as_slice-2.result.now c.as_slice.result.now c.in_err-records.field-0.0
    (c.in_ok-range.ensures ∙ ap (λ p. type_range p c.in_ok-definition.definition.now.number) c.prefix.ensures.prefix)
    (c.as_slice.ensures.value ∙ c.in_ok-place.ensures ∙ ap (λ p. place p 1) c.prefix-2.ensures.prefix)
    c.in_ok-pairs.ensures.reads (λ m agree. c.as_slice-2.ensures.value ∙ c.in_ok-pairs.ensures.answer m agree) c.in_err-records.ensures.refused))

pub returns-clause-found : goal.returns-clause-found
returns-clause-found g c =
    subst (λ (rows : List Record). IsAnswered (g.S.Snapshot.map_at c.args.db.now) c.args.self.now (records_call c.args.self.now c.args.type_name.now) rows c.args.tx.now c.get_all.new.self) (sym c.new.ensures)
    (answered_reading (g.S.Snapshot.map_at c.args.db.now) (g.S.Snapshot.may_refuse c.args.db.now) c.args.self.now (records_call c.args.self.now c.args.type_name.now)
    (service_of records_meaning (records_footprint c.args.self.now) c.in_ok-definition.definition.now.number) c.in_ok-records.records.items
    (ap (λ t. done_with records_meaning (records_footprint c.args.self.now) (type_number_of t)) c.in_ok-definition.ensures.found) refl
    (as_added (rows_read c.args.self.now c.in_ok-definition.definition.now c.prefix.ensures.lawful c.in_ok-definition.ensures.own
    c.in_ok-range.range c.as_slice-2.result.now c.as_slice.result.now c.in_ok-records.records.items
    (c.in_ok-range.ensures ∙ ap (λ p. type_range p c.in_ok-definition.definition.now.number) c.prefix.ensures.prefix)
    (c.as_slice.ensures.value ∙ c.in_ok-place.ensures ∙ ap (λ p. place p 1) c.prefix-2.ensures.prefix)
    c.in_ok-pairs.ensures.reads (λ m agree. c.as_slice-2.ensures.value ∙ c.in_ok-pairs.ensures.answer m agree) c.in_ok-records.ensures.found))
    (λ m store holds same is. records_served c.args.self.now c.in_ok-definition.definition.now.number c.in_ok-records.records.items m store holds is))

pub returns-in_err-pairs-clause-refused : goal.returns-in_err-pairs-clause-refused
returns-in_err-pairs-clause-refused g c =
    exit_with c.from_residual-in_err-pairs.result (of_read c.in_err-pairs.field-0.0) _ c.from_residual-in_err-pairs.ensures
    (refused_unread (g.S.Snapshot.map_at c.args.db.now) (g.S.Snapshot.may_refuse c.args.db.now) c.args.self.now (records_call c.args.self.now c.args.type_name.now)
    (service_of records_meaning (records_footprint c.args.self.now) c.in_ok-definition.definition.now.number) (of_read c.in_err-pairs.field-0.0)
    (ap (λ t. done_with records_meaning (records_footprint c.args.self.now) (type_number_of t)) c.in_ok-definition.ensures.found)
    (unread_failed c.args.self.now (whole (type_range c.args.self.now.prefix c.in_ok-definition.definition.now.number ∷ [])) c.in_ok-range.range (type_range c.args.self.now.prefix c.in_ok-definition.definition.now.number) c.in_err-pairs.field-0.0
    (c.in_ok-range.ensures ∙ ap (λ p. type_range p c.in_ok-definition.definition.now.number) c.prefix.ensures.prefix) (λ m. refl) c.in_err-pairs.ensures.kept c.in_err-pairs.ensures.refused))

pub returns-in_err-place-clause-refused : goal.returns-in_err-place-clause-refused
returns-in_err-place-clause-refused g c =
    exit_with c.from_residual-in_err-place.result no_memory _ c.from_residual-in_err-place.ensures
    (refused_unread (g.S.Snapshot.map_at c.args.db.now) (g.S.Snapshot.may_refuse c.args.db.now) c.args.self.now (records_call c.args.self.now c.args.type_name.now)
    (service_of records_meaning (records_footprint c.args.self.now) c.in_ok-definition.definition.now.number) no_memory
    (ap (λ t. done_with records_meaning (records_footprint c.args.self.now) (type_number_of t)) c.in_ok-definition.ensures.found)
    (rows_unread c.args.self.now c.in_ok-definition.definition.now c.prefix.ensures.lawful c.in_ok-definition.ensures.own
    c.in_ok-range.range c.in_ok-pairs.pairs.items (place c.args.self.now.prefix 1) no_memory
    (c.in_ok-range.ensures ∙ ap (λ p. type_range p c.in_ok-definition.definition.now.number) c.prefix.ensures.prefix) refl
    c.in_ok-pairs.ensures.reads c.in_ok-pairs.ensures.answer (inl refl)))
