use Rattle.std.proofs.Common.{◌≡◌, ◌∙◌, ap, refl, subst, sym}
use Rattle.metadata.specs.Answers.{IsRefusedAs}
use Rattle.metadata.specs.Record.{key_items, key_of}
use Rattle.txn.proofs.Exits.{exit_with}
use Rattle.record_store.specs.Calls.{load_footprint}
use Rattle.record_store.specs.Layout.{record_key}
use Rattle.record_store.specs.Meaning.{load_meaning}
use Rattle.record_store.specs.Steps.{of_metadata}
use Rattle.record_store.proofs.Answered.{key_in_type, refused_own}
use Rattle.record_store.proofs.Loads.{load_answered, load_key_refused, load_record_refused}
use Rattle.record_store.proofs.store.Store.load.Goals as goal

pub returns-in_err-at-clause-refused : goal.returns-in_err-at-clause-refused
returns-in_err-at-clause-refused g c =
    exit_with c.from_residual-in_err-at.result (of_metadata c.in_err-at.field-0.0) _ c.from_residual-in_err-at.ensures
    (refused_own (g.S.Snapshot.map_at c.args.db.now) (g.S.Snapshot.may_refuse c.args.db.now) c.args.self.now load_meaning (load_footprint c.args.self.now) (key_of c.args.self.now.schema c.args.type_name.now c.args.key.now) c.in_err-at.field-0.0
    (subst (IsRefusedAs c.in_err-at.field-0.0) (sym (key_in_type c.args.self.now.schema c.args.type_name.now c.args.key.now c.in_ok-definition.definition.now c.in_ok-definition.ensures.found)) c.in_err-at.ensures.refused) refl)

pub returns-in_err-value-clause-refused : goal.returns-in_err-value-clause-refused
returns-in_err-value-clause-refused g c =
    exit_with c.from_residual-in_err-value.result c.in_err-value.field-0.0 _ c.from_residual-in_err-value.ensures
    (load_key_refused c.args.self.now c.args.type_name.now c.args.key.now c.in_ok-definition.definition.now c.prefix.ensures.lawful c.in_ok-definition.ensures.found c.in_ok-definition.ensures.own c.in_ok-at.ensures.made c.in_ok-at.ensures.is_tuple c.in_ok-at.at at_is c.in_err-value.field-0.0 c.in_err-value.ensures.refused)
  where
    at_is : c.in_ok-at.at ≡ record_key c.args.self.now.prefix (key_items c.in_ok-definition.definition.now.number c.args.key.now)
    at_is = c.in_ok-at.ensures.key ∙ ap (λ p. record_key p (key_items c.in_ok-definition.definition.now.number c.args.key.now)) c.prefix.ensures.prefix

pub returns-in_err-found-clause-refused : goal.returns-in_err-found-clause-refused
returns-in_err-found-clause-refused g c =
    exit_with c.from_residual-in_err-found.result c.in_err-found.field-0.0 _ c.from_residual-in_err-found.ensures
    (load_record_refused c.args.self.now c.args.type_name.now c.args.key.now c.in_ok-definition.definition.now c.prefix.ensures.lawful c.in_ok-definition.ensures.found c.in_ok-definition.ensures.own c.in_ok-at.ensures.made c.in_ok-at.ensures.is_tuple c.in_ok-at.at at_is (g.S.Snapshot.may_refuse c.args.db.now) c.in_ok-value.value c.in_err-found.field-0.0 c.in_ok-value.ensures.read c.in_err-found.ensures.refused)
  where
    at_is : c.in_ok-at.at ≡ record_key c.args.self.now.prefix (key_items c.in_ok-definition.definition.now.number c.args.key.now)
    at_is = c.in_ok-at.ensures.key ∙ ap (λ p. record_key p (key_items c.in_ok-definition.definition.now.number c.args.key.now)) c.prefix.ensures.prefix

pub returns-clause-found : goal.returns-clause-found
returns-clause-found g c = load_answered c.args.self.now c.args.type_name.now c.args.key.now c.in_ok-definition.definition.now c.prefix.ensures.lawful c.in_ok-definition.ensures.found c.in_ok-definition.ensures.own c.in_ok-at.ensures.made c.in_ok-at.ensures.is_tuple c.in_ok-at.at at_is c.in_ok-value.value c.in_ok-found.found c.in_ok-value.ensures.read c.in_ok-found.ensures.found
  where
    at_is : c.in_ok-at.at ≡ record_key c.args.self.now.prefix (key_items c.in_ok-definition.definition.now.number c.args.key.now)
    at_is = c.in_ok-at.ensures.key ∙ ap (λ p. record_key p (key_items c.in_ok-definition.definition.now.number c.args.key.now)) c.prefix.ensures.prefix
