use Rattle.std.proofs.Common.{◌≡◌, ◌∙◌, ℕ, ◌+◌, [], ◌∷◌, ap, arith, map, subst, take}
use Rattle.std.specs.Prelude.{suc}
use Rattle.std.proofs.lemmas.List.{map-append}
use Rattle.metadata.specs.Schema.{Schema}
use Rattle.txn.proofs.Exits.{exit_with}
use Rattle.record_store.specs.BuiltReading.{built_reading, position_in}
use Rattle.record_store.specs.Reading.{HasReadBuilt, ReadsHaveStopped}
use Rattle.record_store.specs.Steps.{no_memory}
use Rattle.record_store.proofs.BuiltReads.{read_more, stopped_among, stopped_behind}
use Rattle.record_store.proofs.store.Store.read_built.Goals as goal

pub returns-in_err-pairs-clause-refused : goal.returns-in_err-pairs-clause-refused
returns-in_err-pairs-clause-refused g c =
    exit_with c.from_residual.result c.in_err-pairs.field-0.0 _ c.from_residual.ensures
    (subst (λ indexes. ReadsHaveStopped (g.S.Snapshot.map_at c.args.db.now) (g.S.Snapshot.may_refuse c.args.db.now) (built_reading c.args.self.now c.args.number (position_in c.args.self.now.prefix c.args.number c.args.key.now) indexes) c.in_err-pairs.field-0.0 c.args.tx.now c.read_one_built.new.tx) (c.indexes-index-items.ensures ∙ ap (λ (s : Schema). s.indexes) c.schema.ensures)
    (stopped_among c.args.self.now c.args.number (position_in c.args.self.now.prefix c.args.number c.args.key.now) c.loop-index.index-index c.indexes-index-items.result.now c.index-item.result (map (λ pairs. pairs.items) c.loop-index.found.items) c.in_err-pairs.field-0.0 c.loop-index-test.true c.index-item.is c.loop-index.invariant c.in_err-pairs.ensures.refused))

pub returns-in_err-push-clause-refused : goal.returns-in_err-push-clause-refused
returns-in_err-push-clause-refused g c =
    exit_with c.from_residual-in_err-push.result no_memory _ c.from_residual-in_err-push.ensures
    (subst (λ indexes. ReadsHaveStopped (g.S.Snapshot.map_at c.args.db.now) (g.S.Snapshot.may_refuse c.args.db.now) (built_reading c.args.self.now c.args.number (position_in c.args.self.now.prefix c.args.number c.args.key.now) indexes) no_memory c.args.tx.now c.read_one_built.new.tx) (c.indexes-index-items.ensures ∙ ap (λ (s : Schema). s.indexes) c.schema.ensures)
    (stopped_behind c.args.self.now c.args.number (position_in c.args.self.now.prefix c.args.number c.args.key.now) c.loop-index.index-index c.indexes-index-items.result.now c.index-item.result (map (λ pairs. pairs.items) c.loop-index.found.items) c.in_ok-pairs.pairs.items c.loop-index-test.true c.index-item.is c.loop-index.invariant c.in_ok-pairs.ensures.read))

pub loop-index-preserved : goal.loop-index-preserved
loop-index-preserved g c =
    let next : suc c.loop-index.index-index ≡ c.loop-index.index-index + 1 = omega arith in
    subst (λ (n : ℕ). HasReadBuilt (g.S.Snapshot.map_at c.args.db.now) c.args.self.now c.args.number (position_in c.args.self.now.prefix c.args.number c.args.key.now) (take n c.indexes-index-items.result.now) (map (λ pairs. pairs.items) c.push.new.self.items) c.args.tx.now c.read_one_built.new.tx) next
    (read_more c.args.self.now c.args.number (position_in c.args.self.now.prefix c.args.number c.args.key.now) c.loop-index.index-index c.indexes-index-items.result.now c.index-item.result (map (λ pairs. pairs.items) c.loop-index.found.items) (map (λ pairs. pairs.items) c.push.new.self.items) c.in_ok-pairs.pairs.items c.loop-index-test.true c.index-item.is
    (ap (map (λ pairs. pairs.items)) c.in_ok-push.ensures.items ∙ map-append (λ pairs. pairs.items) c.loop-index.found.items (c.in_ok-pairs.pairs ∷ [])) c.loop-index.invariant c.in_ok-pairs.ensures.read)
