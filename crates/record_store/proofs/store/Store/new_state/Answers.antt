use Rattle.std.proofs.Common.{◌∙◌, ap, inl, refl, subst, sym, List, ℕ}
use Rattle.metadata.specs.declared.index.State.{State}
use Rattle.txn.proofs.Exits.{exit_with}
use Rattle.record_store.specs.Store.{new_state}
use Rattle.record_store.specs.Layout.{place, type_range}
use Rattle.record_store.specs.Reading.{ArePairsOfRecords, HasRead, HaveNoRecords}
use Rattle.record_store.specs.Call.{first_of}
use Rattle.record_store.specs.Steps.{no_memory, of_read}
use Rattle.record_store.proofs.Stopping.{unread_failed}
use Rattle.record_store.proofs.Scanning.{state_read, state_unread}
use Rattle.record_store.proofs.store.Store.new_state.Goals as goal

pub returns-in_err-place-clause-refused : goal.returns-in_err-place-clause-refused
returns-in_err-place-clause-refused g c =
    exit_with c.from_residual-in_err-place.result no_memory _ c.from_residual-in_err-place.ensures
    (state_unread c.args.self.now c.args.definition.now c.prefix.ensures.lawful c.requires
    c.in_ok-range.range c.in_ok-pairs.pairs.items (place c.args.self.now.prefix 1) no_memory
    (c.in_ok-range.ensures ∙ ap (λ p. type_range p c.args.definition.now.number) c.prefix.ensures.prefix) refl
    c.in_ok-pairs.ensures.reads c.in_ok-pairs.ensures.answer (inl refl))

pub returns-in_err-records-clause-refused : goal.returns-in_err-records-clause-refused
returns-in_err-records-clause-refused g c =
    exit_with c.from_residual-in_err-records.result c.in_err-records.field-0.0 _ c.from_residual-in_err-records.ensures
    (state_unread c.args.self.now c.args.definition.now c.prefix.ensures.lawful c.requires
    c.in_ok-range.range c.in_ok-pairs.pairs.items c.as_slice.result.now c.in_err-records.field-0.0
    (c.in_ok-range.ensures ∙ ap (λ p. type_range p c.args.definition.now.number) c.prefix.ensures.prefix)
    (c.as_slice.ensures.value ∙ c.in_ok-place.ensures ∙ ap (λ p. place p 1) c.prefix-2.ensures.prefix)
    c.in_ok-pairs.ensures.reads c.in_ok-pairs.ensures.answer
    (subst (λ (pairs : List (List ℕ × List ℕ)). HaveNoRecords c.as_slice.result.now c.args.definition.now pairs c.in_err-records.field-0.0) c.as_slice-2.ensures.value c.in_err-records.ensures.refused))

pub returns-clause-found : goal.returns-clause-found
returns-clause-found g c =
    subst (λ (s : State). HasRead (g.S.Snapshot.map_at c.args.db.now) c.args.self.now c.args.definition.now.number s c.args.tx.now c.get_range.new.self)
    (sym (c.state_over.ensures ∙ ap new_state c.as_slice-3.ensures.value))
    (state_read c.args.self.now c.args.definition.now c.prefix.ensures.lawful c.requires
    c.in_ok-range.range c.in_ok-pairs.pairs.items c.as_slice.result.now c.in_ok-records.records.items
    (c.in_ok-range.ensures ∙ ap (λ p. type_range p c.args.definition.now.number) c.prefix.ensures.prefix)
    (c.as_slice.ensures.value ∙ c.in_ok-place.ensures ∙ ap (λ p. place p 1) c.prefix-2.ensures.prefix)
    c.in_ok-pairs.ensures.reads c.in_ok-pairs.ensures.answer
    (subst (λ (pairs : List (List ℕ × List ℕ)). ArePairsOfRecords c.as_slice.result.now c.args.definition.now pairs c.in_ok-records.records.items) c.as_slice-2.ensures.value c.in_ok-records.ensures.found))

pub returns-in_err-pairs-clause-refused : goal.returns-in_err-pairs-clause-refused
returns-in_err-pairs-clause-refused g c =
    exit_with c.from_residual-in_err-pairs.result (of_read c.in_err-pairs.field-0.0) _ c.from_residual-in_err-pairs.ensures
    (unread_failed c.args.self.now (first_of (type_range c.args.self.now.prefix c.args.definition.now.number)) c.in_ok-range.range (type_range c.args.self.now.prefix c.args.definition.now.number) c.in_err-pairs.field-0.0
    (c.in_ok-range.ensures ∙ ap (λ p. type_range p c.args.definition.now.number) c.prefix.ensures.prefix) (λ m. refl) c.in_err-pairs.ensures.kept c.in_err-pairs.ensures.refused)
