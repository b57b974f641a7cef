use Rattle.record_store.proofs.Aggregates.{total_accepted, total_served, totalled}
use Rattle.record_store.proofs.Answered.{answered_reading, as_added}
use Rattle.std.proofs.Common.{◌∷◌, [], refl, rules, subst, sym}
use Rattle.std.proofs.lemmas.Int.{to_z-of_z}
use mir.Val.{SFits}
use Rattle.std.specs.Int.{w64}
use Rattle.kv_core.specs.Range.{point}
use Rattle.index_maint.specs.Totals.{group_key}
use Rattle.record_store.specs.Reading.{IsTotalRead}
use Rattle.record_store.specs.Steps.{DidRead}
use Rattle.record_store.specs.Call.{service_of}
use Rattle.record_store.specs.Calls.{aggregate_call, total_footprint}
use Rattle.record_store.specs.Meaning.{total_meaning}
use Rattle.record_store.proofs.store.Store.aggregate.Goals as goal

pub read_total-requires-clause-index : goal.read_total-requires-clause-index
read_total-requires-clause-index g c = totalled c.args.self.now c.args.name.now c.in_ok-index.index.now c.args.group.now c.in_ok-index.ensures.found c.in_ok-refuse_total.ensures.accepted

pub returns-clause-found : goal.returns-clause-found
returns-clause-found g c =
    answered_reading (g.S.Snapshot.map_at c.args.db.now) (g.S.Snapshot.may_refuse c.args.db.now) c.args.self.now (aggregate_call c.args.self.now c.args.name.now c.args.group.now)
    (service_of (total_meaning c.args.group.now) (total_footprint c.args.self.now c.args.group.now) c.in_ok-index.index.now) _
    (total_accepted c.args.self.now c.args.name.now c.in_ok-index.index.now c.args.group.now c.in_ok-index.ensures.found c.in_ok-refuse_total.ensures.accepted) refl
    (as_added (subst (λ total. DidRead (g.S.Snapshot.map_at c.args.db.now) (point (group_key c.args.self.now.prefix c.in_ok-index.index.now.number c.args.group.now) ∷ []) c.args.tx.now c.read_total.new.tx
    (IsTotalRead c.args.self.now c.in_ok-index.index.now c.args.group.now total)) (sym (to_z-of_z w64 c.in_ok-total.total fits)) c.in_ok-total.ensures.found)) (λ m store holds same is. total_served c.args.self.now c.in_ok-index.index.now c.args.group.now _ m store holds is)
  where
    fits : SFits w64 c.in_ok-total.total
    fits = search rules
