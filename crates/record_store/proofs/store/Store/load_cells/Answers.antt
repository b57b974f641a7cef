use Rattle.std.proofs.Common.{◌≡◌, ◌∙◌, ap, refl, subst, sym}
use Rattle.std.specs.Option.{option_map}
use Rattle.metadata.specs.Answers.{IsRefusedAs}
use Rattle.metadata.specs.Record.{key_items, key_of}
use Rattle.metadata.proofs.StoredOnce.{of_cells}
use Rattle.txn.proofs.Exits.{exit_with}
use Rattle.record_store.specs.Calls.{load_footprint}
use Rattle.record_store.specs.Layout.{record_key}
use Rattle.record_store.specs.Meaning.{load_meaning}
use Rattle.record_store.specs.Steps.{of_metadata}
use Rattle.record_store.proofs.Answered.{key_in_type, refused_own}
use Rattle.record_store.proofs.Loads.{load_answered, load_key_refused, load_record_refused, same_cells}
use Rattle.record_store.proofs.store.Store.load_cells.Goals as goal

pub returns-in_err-record_key-clause-refused : goal.returns-in_err-record_key-clause-refused
returns-in_err-record_key-clause-refused g c =
    exit_with c.from_residual-in_err-record_key.result (of_metadata c.in_err-record_key.field-0.0) _ c.from_residual-in_err-record_key.ensures
    (refused_own (g.S.Snapshot.map_at c.args.db.now) (g.S.Snapshot.may_refuse c.args.db.now) c.args.self.now load_meaning (load_footprint c.args.self.now) (key_of c.args.self.now.schema c.args.type_name.now c.args.key.now) c.in_err-record_key.field-0.0
    (subst (IsRefusedAs c.in_err-record_key.field-0.0) (sym (key_in_type c.args.self.now.schema c.args.type_name.now c.args.key.now c.in_ok-definition.definition.now c.in_ok-definition.ensures.found)) c.in_err-record_key.ensures.refused) refl)

pub returns-in_err-stored-clause-refused : goal.returns-in_err-stored-clause-refused
returns-in_err-stored-clause-refused g c =
    exit_with c.from_residual-in_err-stored.result c.in_err-stored.field-0.0 _ c.from_residual-in_err-stored.ensures
    (load_key_refused c.args.self.now c.args.type_name.now c.args.key.now c.in_ok-definition.definition.now c.prefix.ensures.lawful c.in_ok-definition.ensures.found c.in_ok-definition.ensures.own c.in_ok-record_key.ensures.made c.in_ok-record_key.ensures.is_tuple c.in_ok-record_key.record_key key_is c.in_err-stored.field-0.0 c.in_err-stored.ensures.refused)
  where
    key_is : c.in_ok-record_key.record_key ≡ record_key c.args.self.now.prefix (key_items c.in_ok-definition.definition.now.number c.args.key.now)
    key_is = c.in_ok-record_key.ensures.key ∙ ap (λ p. record_key p (key_items c.in_ok-definition.definition.now.number c.args.key.now)) c.prefix.ensures.prefix

pub returns-in_err-cells-clause-refused : goal.returns-in_err-cells-clause-refused
returns-in_err-cells-clause-refused g c =
    exit_with c.from_residual-in_err-cells.result c.in_err-cells.field-0.0 _ c.from_residual-in_err-cells.ensures
    (load_record_refused c.args.self.now c.args.type_name.now c.args.key.now c.in_ok-definition.definition.now c.prefix.ensures.lawful c.in_ok-definition.ensures.found c.in_ok-definition.ensures.own c.in_ok-record_key.ensures.made c.in_ok-record_key.ensures.is_tuple c.in_ok-record_key.record_key key_is (g.S.Snapshot.may_refuse c.args.db.now) c.in_ok-stored.stored c.in_err-cells.field-0.0 c.in_ok-stored.ensures.read c.in_err-cells.ensures.refused)
  where
    key_is : c.in_ok-record_key.record_key ≡ record_key c.args.self.now.prefix (key_items c.in_ok-definition.definition.now.number c.args.key.now)
    key_is = c.in_ok-record_key.ensures.key ∙ ap (λ p. record_key p (key_items c.in_ok-definition.definition.now.number c.args.key.now)) c.prefix.ensures.prefix

pub returns-clause-found : goal.returns-clause-found
returns-clause-found g c = (
  option_map (of_cells c.in_ok-definition.definition.now) c.in_ok-cells.cells,
  same_cells c.in_ok-definition.definition.now c.in_ok-cells.cells,
  load_answered c.args.self.now c.args.type_name.now c.args.key.now c.in_ok-definition.definition.now c.prefix.ensures.lawful c.in_ok-definition.ensures.found c.in_ok-definition.ensures.own c.in_ok-record_key.ensures.made c.in_ok-record_key.ensures.is_tuple c.in_ok-record_key.record_key key_is c.in_ok-stored.stored (option_map (of_cells c.in_ok-definition.definition.now) c.in_ok-cells.cells) c.in_ok-stored.ensures.read c.in_ok-cells.ensures.found,
)
  where
    key_is : c.in_ok-record_key.record_key ≡ record_key c.args.self.now.prefix (key_items c.in_ok-definition.definition.now.number c.args.key.now)
    key_is = c.in_ok-record_key.ensures.key ∙ ap (λ p. record_key p (key_items c.in_ok-definition.definition.now.number c.args.key.now)) c.prefix.ensures.prefix
