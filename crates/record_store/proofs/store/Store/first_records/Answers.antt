use Rattle.std.proofs.Common.{◌≡◌, ◌∙◌, ap, inl, refl, subst, sym, List, ℕ, Some}
use Rattle.std.proofs.lemmas.Bool.{and_parts}
use Rattle.kv_core.specs.Bytes.{end_of_keys, key_le}
use Rattle.metadata.specs.Record.{Record}
use Rattle.metadata.specs.Schema.{find_type}
use Rattle.txn.proofs.Exits.{exit_with}
use Rattle.record_store.specs.Building.{HasReadPart, limited_to, positions_range}
use Rattle.record_store.specs.Layout.{place}
use Rattle.record_store.specs.Reading.{ArePairsOfRecords, HaveNoRecords}
use Rattle.record_store.specs.Steps.{no_memory, of_read}
use Rattle.record_store.proofs.NamedTypes.{found_number, found_typed, typed_named}
use Rattle.record_store.proofs.PartReads.{part_read, part_unread}
use Rattle.record_store.proofs.Stopping.{unread_failed, unread_still}
use Rattle.record_store.proofs.store.Store.first_records.Goals as goal

pub returns-in_err-keys-clause-refused : goal.returns-in_err-keys-clause-refused
returns-in_err-keys-clause-refused g c =
    exit_with c.from_residual.result no_memory _ c.from_residual.ensures
    (unread_still c.args.self.now (limited_to c.args.limit (positions_range c.args.self.now.prefix c.args.index.now.type_number c.args.range.now)) refl)

pub returns-in_err-pairs-clause-refused : goal.returns-in_err-pairs-clause-refused
returns-in_err-pairs-clause-refused g c =
    exit_with c.from_residual-in_err-pairs.result (of_read c.in_err-pairs.field-0.0) _ c.from_residual-in_err-pairs.ensures
    (unread_failed c.args.self.now (limited_to c.args.limit (positions_range c.args.self.now.prefix c.args.index.now.type_number c.args.range.now)) c.in_ok-keys.keys
    (positions_range c.args.self.now.prefix c.args.index.now.type_number c.args.range.now) c.in_err-pairs.field-0.0
    (c.in_ok-keys.ensures.keys ∙ ap (λ p. positions_range p c.args.index.now.type_number c.args.range.now) c.prefix.ensures.prefix) (λ m. refl) c.in_err-pairs.ensures.kept c.in_err-pairs.ensures.refused)

pub returns-in_err-place-clause-refused : goal.returns-in_err-place-clause-refused
returns-in_err-place-clause-refused g c =
    exit_with c.from_residual-in_err-place.result no_memory _ c.from_residual-in_err-place.ensures
    (part_unread c.args.self.now c.type_over-definition.result.now c.prefix.ensures.lawful named c.args.index.now (found_number c.args.self.now.schema.types c.args.index.now.type_number c.type_over-definition.result.now c.type_over-definition.ensures) c.args.range.now
    (and_parts (key_le c.args.range.now.begin c.args.range.now.end) (key_le c.args.range.now.end end_of_keys) c.in_ok-keys.ensures.lawful).1 c.args.limit
    c.in_ok-keys.keys c.in_ok-pairs.pairs.items (place c.args.self.now.prefix 1) no_memory
    (c.in_ok-keys.ensures.keys ∙ ap (λ p. positions_range p c.args.index.now.type_number c.args.range.now) c.prefix.ensures.prefix) refl
    c.in_ok-pairs.ensures.reads c.in_ok-pairs.ensures.answer (inl refl))
  where
    named : find_type c.args.self.now.schema c.type_over-definition.result.now.name ≡ Some c.type_over-definition.result.now
    named = typed_named c.args.self.now.schema c.type_over-definition.result.now c.prefix.ensures.lawful (found_typed c.args.self.now.schema c.args.index.now.type_number c.type_over-definition.result.now c.type_over-definition.ensures)

pub returns-in_err-records-clause-refused : goal.returns-in_err-records-clause-refused
returns-in_err-records-clause-refused g c =
    exit_with c.from_residual-in_err-records.result c.in_err-records.field-0.0 _ c.from_residual-in_err-records.ensures
    (part_unread c.args.self.now c.type_over-definition.result.now c.prefix.ensures.lawful named c.args.index.now (found_number c.args.self.now.schema.types c.args.index.now.type_number c.type_over-definition.result.now c.type_over-definition.ensures) c.args.range.now
    (and_parts (key_le c.args.range.now.begin c.args.range.now.end) (key_le c.args.range.now.end end_of_keys) c.in_ok-keys.ensures.lawful).1 c.args.limit
    c.in_ok-keys.keys c.in_ok-pairs.pairs.items c.as_slice.result.now c.in_err-records.field-0.0
    (c.in_ok-keys.ensures.keys ∙ ap (λ p. positions_range p c.args.index.now.type_number c.args.range.now) c.prefix.ensures.prefix)
    (c.as_slice.ensures.value ∙ c.in_ok-place.ensures ∙ ap (λ p. place p 1) c.prefix-2.ensures.prefix)
    c.in_ok-pairs.ensures.reads c.in_ok-pairs.ensures.answer
    (subst (λ (pairs : List (List ℕ × List ℕ)). HaveNoRecords c.as_slice.result.now c.type_over-definition.result.now pairs c.in_err-records.field-0.0) c.as_slice-2.ensures.value c.in_err-records.ensures.refused))
  where
    named : find_type c.args.self.now.schema c.type_over-definition.result.now.name ≡ Some c.type_over-definition.result.now
    named = typed_named c.args.self.now.schema c.type_over-definition.result.now c.prefix.ensures.lawful (found_typed c.args.self.now.schema c.args.index.now.type_number c.type_over-definition.result.now c.type_over-definition.ensures)

pub returns-clause-read : goal.returns-clause-read
returns-clause-read g c =
    subst (λ (rows : List Record). HasReadPart (g.S.Snapshot.map_at c.args.db.now) c.args.self.now c.args.limit c.args.index.now c.args.range.now rows c.args.tx.now c.get_range.new.self) (sym c.new.ensures)
    (part_read c.args.self.now c.type_over-definition.result.now c.prefix.ensures.lawful named c.args.index.now (found_number c.args.self.now.schema.types c.args.index.now.type_number c.type_over-definition.result.now c.type_over-definition.ensures) c.args.range.now
    (and_parts (key_le c.args.range.now.begin c.args.range.now.end) (key_le c.args.range.now.end end_of_keys) c.in_ok-keys.ensures.lawful).1 c.args.limit
    c.in_ok-keys.keys c.in_ok-pairs.pairs.items c.as_slice.result.now c.in_ok-records.records.items
    (c.in_ok-keys.ensures.keys ∙ ap (λ p. positions_range p c.args.index.now.type_number c.args.range.now) c.prefix.ensures.prefix)
    (c.as_slice.ensures.value ∙ c.in_ok-place.ensures ∙ ap (λ p. place p 1) c.prefix-2.ensures.prefix)
    c.in_ok-pairs.ensures.reads c.in_ok-pairs.ensures.answer
    (subst (λ (pairs : List (List ℕ × List ℕ)). ArePairsOfRecords c.as_slice.result.now c.type_over-definition.result.now pairs c.in_ok-records.records.items) c.as_slice-2.ensures.value c.in_ok-records.ensures.found))
  where
    named : find_type c.args.self.now.schema c.type_over-definition.result.now.name ≡ Some c.type_over-definition.result.now
    named = typed_named c.args.self.now.schema c.type_over-definition.result.now c.prefix.ensures.lawful (found_typed c.args.self.now.schema c.args.index.now.type_number c.type_over-definition.result.now c.type_over-definition.ensures)
