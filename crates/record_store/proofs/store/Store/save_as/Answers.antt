use Rattle.std.proofs.Common.{refl, subst, sym, ◌∙◌}
use Rattle.std.specs.Prelude.{IfErr, IfOk}
use Rattle.metadata.specs.declared.refusal.MetadataError.TheVariants.{Refused}
use Rattle.metadata.specs.declared.refusal.Refusal.TheVariants.{UnknownType}
use Rattle.metadata.specs.Record.{record_of}
use Rattle.txn.proofs.Exits.{exit_with}
use Rattle.record_store.specs.Call.{IsAnswered, IsRefused}
use Rattle.record_store.specs.Calls.{save_as_call, save_footprint}
use Rattle.record_store.specs.Meaning.{save_meaning}
use Rattle.record_store.proofs.Answered.{refused_own}
use Rattle.record_store.proofs.Saves.{asked_in, asked_of_none, made_call, made_own}
use Rattle.record_store.proofs.store.Store.save_as.Goals as goal

pub returns-in_err-definition-clause-refused : goal.returns-in_err-definition-clause-refused
returns-in_err-definition-clause-refused g c =
    exit_with c.from_residual.result c.in_err-definition.field-0.0 _ c.from_residual.ensures
    (subst (λ error. IsRefused (g.S.Snapshot.map_at c.args.db.now) (g.S.Snapshot.may_refuse c.args.db.now) c.args.self.now (save_as_call c.args.self.now c.args.type_name.now c.args.cells.now) error c.args.tx.now c.args.tx.now) (sym c.in_err-definition.ensures.refused.0)
    (refused_own (g.S.Snapshot.map_at c.args.db.now) (g.S.Snapshot.may_refuse c.args.db.now) c.args.self.now save_meaning (save_footprint c.args.self.now) (record_of c.args.self.now.schema c.args.type_name.now c.args.cells.now) (Refused UnknownType)
    (asked_of_none c.args.self.now.schema c.args.type_name.now c.args.cells.now c.in_err-definition.ensures.refused.1) refl))

pub put-requires : goal.put-requires
put-requires g c = made_own c.args.self.now.schema c.in_ok-definition.definition.now c.args.cells.now c.in-Ok.new c.in_ok-definition.ensures.own c.in-Ok.ensures.made

pub returns-in-Ok-clause-saved : goal.returns-in-Ok-clause-saved
returns-in-Ok-clause-saved g c =
    subst (λ call. IfOk c.put.result (λ old. IsAnswered (g.S.Snapshot.map_at c.args.db.now) c.args.self.now call old c.args.tx.now c.put.new.tx))
    (made_call c.args.self.now c.args.type_name.now c.args.cells.now c.in_ok-definition.definition.now c.in-Ok.new c.in_ok-definition.ensures.found c.in-Ok.ensures.made
    (made_own c.args.self.now.schema c.in_ok-definition.definition.now c.args.cells.now c.in-Ok.new c.in_ok-definition.ensures.own c.in-Ok.ensures.made)) c.put.ensures.saved

pub returns-in-Ok-clause-refused : goal.returns-in-Ok-clause-refused
returns-in-Ok-clause-refused g c =
    subst (λ call. IfErr c.put.result (λ error. IsRefused (g.S.Snapshot.map_at c.args.db.now) (g.S.Snapshot.may_refuse c.args.db.now) c.args.self.now call error c.args.tx.now c.put.new.tx))
    (made_call c.args.self.now c.args.type_name.now c.args.cells.now c.in_ok-definition.definition.now c.in-Ok.new c.in_ok-definition.ensures.found c.in-Ok.ensures.made
    (made_own c.args.self.now.schema c.in_ok-definition.definition.now c.args.cells.now c.in-Ok.new c.in_ok-definition.ensures.own c.in-Ok.ensures.made)) c.put.ensures.refused

pub returns-in-Err-clause-refused : goal.returns-in-Err-clause-refused
returns-in-Err-clause-refused g c =
    refused_own (g.S.Snapshot.map_at c.args.db.now) (g.S.Snapshot.may_refuse c.args.db.now) c.args.self.now save_meaning (save_footprint c.args.self.now) (record_of c.args.self.now.schema c.args.type_name.now c.args.cells.now) (Refused c.in-Err.refusal)
    (asked_in c.args.self.now.schema c.args.type_name.now c.args.cells.now c.in_ok-definition.definition.now c.in_ok-definition.ensures.found ∙ c.in-Err.ensures.refused) refl
