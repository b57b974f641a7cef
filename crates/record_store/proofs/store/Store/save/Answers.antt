use Rattle.std.proofs.Common.{◌≡◌, ◌∙◌, true, subst, sym}
use Rattle.std.specs.Prelude.{IfErr, IfOk}
use Rattle.metadata.specs.Schema.{find_type}
use Rattle.record_store.specs.Call.{IsAnswered, IsRefused}
use Rattle.record_store.specs.Calls.{save_call}
use Rattle.record_store.specs.Meaning.{is_own}
use Rattle.record_store.proofs.store.Store.save.Goals as goal

pub put-requires : goal.put-requires
put-requires g c = subst (λ r. is_own (find_type c.args.self.now.schema r.definition.name) r ≡ true) (sym c.lend-new.ensures) (sym c.is_own.ensures ∙ c.if-not-is_own.false)

pub returns-clause-saved : goal.returns-clause-saved
returns-clause-saved g c =
    subst (λ r. IfOk c.put.result (λ old. IsAnswered (g.S.Snapshot.map_at c.args.db.now) c.args.self.now (save_call c.args.self.now r) old c.args.tx.now c.put.new.tx)) c.lend-new.ensures c.put.ensures.saved

pub returns-clause-refused : goal.returns-clause-refused
returns-clause-refused g c =
    subst (λ r. IfErr c.put.result (λ error. IsRefused (g.S.Snapshot.map_at c.args.db.now) (g.S.Snapshot.may_refuse c.args.db.now) c.args.self.now (save_call c.args.self.now r) error c.args.tx.now c.put.new.tx)) c.lend-new.ensures c.put.ensures.refused
