use Rattle.std.proofs.Common.{◌≡◌, ◌∙◌, ◌++◌, Some, ap, length, refl, subst, sym}
use Rattle.std.proofs.lemmas.Bool.{not-true}
use Rattle.kv_core.specs.Range.{has_keys}
use Rattle.range_set.specs.Stored.{Joins, insertion}
use Rattle.range_set.specs.Told.{stored_in}
use Rattle.kv_core.specs.Map.{Map, after_all}
use Rattle.index_maint.specs.Kept.{build_writes}
use Rattle.index_maint.specs.Layout.{built_place}
use Rattle.record_store.specs.Call.{IsAnswered, IsRefused}
use Rattle.record_store.specs.Steps.{no_memory, of_set, of_write}
use Rattle.txn.proofs.Exits.{exit_with}
use Rattle.online_builder.specs.declared.progress.Progress.TheVariants.{Built, Finished}
use Rattle.online_builder.specs.Stepping.{BuildTask, part_made, step_call}
use Rattle.online_builder.proofs.StepCalls.{contained, step_built, step_empty, step_finished, step_limited, step_memory, step_unread, step_wanting, refused_named, unfound}
use Rattle.online_builder.proofs.builder.Builder.step.Goals as goal

pub returns-in_err-index-clause-refused : goal.returns-in_err-index-clause-refused
returns-in_err-index-clause-refused g c =
    exit_with c.from_residual.result c.in_err-index.field-0.0 _ c.from_residual.ensures
    (subst (λ (p : BuildTask). IsRefused (g.S.Snapshot.map_at c.args.db.now) (g.S.Snapshot.may_refuse c.args.db.now) c.args.store.now (step_call c.args.store.now p) c.in_err-index.field-0.0 c.args.tx.now c.args.tx.now) c.self.view_is
    (refused_named (g.S.Snapshot.map_at c.args.db.now) (g.S.Snapshot.may_refuse c.args.db.now) c.args.store.now (record { name = c.self.inside.name; limit = c.self.inside.limit }) c.in_err-index.field-0.0 c.in_err-index.ensures.refused refl))

pub returns-in_err-ranges-clause-refused : goal.returns-in_err-ranges-clause-refused
returns-in_err-ranges-clause-refused g c =
    exit_with c.from_residual-in_err-ranges.result (of_set c.in_err-ranges.field-0.0) _ c.from_residual-in_err-ranges.ensures
    (subst (λ (p : BuildTask). IsRefused (g.S.Snapshot.map_at c.args.db.now) (g.S.Snapshot.may_refuse c.args.db.now) c.args.store.now (step_call c.args.store.now p) (of_set c.in_err-ranges.field-0.0) c.args.tx.now c.read_ranges.new.tx) c.self.view_is
    (unfound (g.S.Snapshot.map_at c.args.db.now) (g.S.Snapshot.may_refuse c.args.db.now) c.args.store.now (record { name = c.self.inside.name; limit = c.self.inside.limit }) c.in_ok-index.index.now c.in_ok-index.ensures.found c.as_slice.result.now c.in_err-ranges.field-0.0 (c.as_slice.ensures.value ∙ c.in_ok-place.ensures.place ∙ ap (λ p. built_place p c.in_ok-index.index.now.number) c.prefix.ensures.prefix) c.in_err-ranges.ensures.refused))

pub returns-in_err-found-clause-refused : goal.returns-in_err-found-clause-refused
returns-in_err-found-clause-refused g c =
    exit_with c.from_residual-in_err-found.result no_memory _ c.from_residual-in_err-found.ensures
    (subst (λ (p : BuildTask). IsRefused (g.S.Snapshot.map_at c.args.db.now) (g.S.Snapshot.may_refuse c.args.db.now) c.args.store.now (step_call c.args.store.now p) no_memory c.args.tx.now c.read_ranges.new.tx) c.self.view_is
    (step_wanting (g.S.Snapshot.map_at c.args.db.now) (g.S.Snapshot.may_refuse c.args.db.now) c.args.store.now (record { name = c.self.inside.name; limit = c.self.inside.limit }) c.in_ok-index.index.now c.in_ok-index.ensures.found c.as_slice.result.now c.in_ok-ranges.ranges (c.as_slice.ensures.value ∙ c.in_ok-place.ensures.place ∙ ap (λ p. built_place p c.in_ok-index.index.now.number) c.prefix.ensures.prefix) c.in_ok-ranges.ensures.set))

pub returns-in_default-clause-stepped : goal.returns-in_default-clause-stepped
returns-in_default-clause-stepped g c =
    subst (λ (p : BuildTask). IsAnswered (g.S.Snapshot.map_at c.args.db.now) c.args.store.now (step_call c.args.store.now p) Finished c.args.tx.now c.read_ranges.new.tx) c.self.view_is
    (step_finished (g.S.Snapshot.map_at c.args.db.now) (g.S.Snapshot.may_refuse c.args.db.now) c.args.store.now (record { name = c.self.inside.name; limit = c.self.inside.limit }) c.in_ok-index.index.now c.in_ok-index.ensures.found c.as_slice.result.now c.in_ok-ranges.ranges c.in_ok-found.found (c.as_slice.ensures.value ∙ c.in_ok-place.ensures.place ∙ ap (λ p. built_place p c.in_ok-index.index.now.number) c.prefix.ensures.prefix) c.in_ok-ranges.ensures.set c.in_ok-ranges.ensures.told c.in_ok-found.ensures c.in_default.is)

pub first_records-requires-clause-index : goal.first_records-requires-clause-index
first_records-requires-clause-index g c =
    contained (g.S.Snapshot.map_at c.args.db.now) (g.S.Snapshot.may_refuse c.args.db.now) c.args.store.now (record { name = c.self.inside.name; limit = c.self.inside.limit }) c.in_ok-index.index.now c.in_ok-index.ensures.found

pub returns-in_err-rows-clause-refused : goal.returns-in_err-rows-clause-refused
returns-in_err-rows-clause-refused g c =
    exit_with c.from_residual-in_err-rows.result c.in_err-rows.field-0.0 _ c.from_residual-in_err-rows.ensures
    (subst (λ (p : BuildTask). IsRefused (g.S.Snapshot.map_at c.args.db.now) (g.S.Snapshot.may_refuse c.args.db.now) c.args.store.now (step_call c.args.store.now p) c.in_err-rows.field-0.0 c.args.tx.now c.first_records.new.tx) c.self.view_is
    (step_unread (g.S.Snapshot.map_at c.args.db.now) (g.S.Snapshot.may_refuse c.args.db.now) c.args.store.now (record { name = c.self.inside.name; limit = c.self.inside.limit }) c.in_ok-index.index.now c.in_ok-index.ensures.found c.as_slice.result.now c.in_ok-ranges.ranges c.in_ok-found.found (c.as_slice.ensures.value ∙ c.in_ok-place.ensures.place ∙ ap (λ p. built_place p c.in_ok-index.index.now.number) c.prefix.ensures.prefix) c.in_ok-ranges.ensures.set c.in_ok-ranges.ensures.told c.in_ok-found.ensures c.in-Some.gap c.in-Some.is c.in_err-rows.field-0.0 c.in_err-rows.ensures.refused))

pub returns-in_err-range-clause-refused : goal.returns-in_err-range-clause-refused
returns-in_err-range-clause-refused g c =
    exit_with c.from_residual-in_err-range.result no_memory _ c.from_residual-in_err-range.ensures
    (subst (λ (p : BuildTask). IsRefused (g.S.Snapshot.map_at c.args.db.now) (g.S.Snapshot.may_refuse c.args.db.now) c.args.store.now (step_call c.args.store.now p) no_memory c.args.tx.now c.first_records.new.tx) c.self.view_is
    (step_memory (g.S.Snapshot.map_at c.args.db.now) (g.S.Snapshot.may_refuse c.args.db.now) c.args.store.now (record { name = c.self.inside.name; limit = c.self.inside.limit }) c.in_ok-index.index.now c.in_ok-index.ensures.found c.as_slice.result.now c.in_ok-ranges.ranges c.in_ok-found.found (c.as_slice.ensures.value ∙ c.in_ok-place.ensures.place ∙ ap (λ p. built_place p c.in_ok-index.index.now.number) c.prefix.ensures.prefix) c.in_ok-ranges.ensures.set c.in_ok-ranges.ensures.told c.in_ok-found.ensures c.in-Some.gap c.in-Some.is c.self.invariant c.in_ok-rows.rows c.in_ok-rows.ensures.read))

pub returns-in_err-mutations-clause-refused : goal.returns-in_err-mutations-clause-refused
returns-in_err-mutations-clause-refused g c =
    exit_with c.from_residual-in_err-mutations.result no_memory _ c.from_residual-in_err-mutations.ensures
    (subst (λ (p : BuildTask). IsRefused (g.S.Snapshot.map_at c.args.db.now) (g.S.Snapshot.may_refuse c.args.db.now) c.args.store.now (step_call c.args.store.now p) no_memory c.args.tx.now c.first_records.new.tx) c.self.view_is
    (step_memory (g.S.Snapshot.map_at c.args.db.now) (g.S.Snapshot.may_refuse c.args.db.now) c.args.store.now (record { name = c.self.inside.name; limit = c.self.inside.limit }) c.in_ok-index.index.now c.in_ok-index.ensures.found c.as_slice.result.now c.in_ok-ranges.ranges c.in_ok-found.found (c.as_slice.ensures.value ∙ c.in_ok-place.ensures.place ∙ ap (λ p. built_place p c.in_ok-index.index.now.number) c.prefix.ensures.prefix) c.in_ok-ranges.ensures.set c.in_ok-ranges.ensures.told c.in_ok-found.ensures c.in-Some.gap c.in-Some.is c.self.invariant c.in_ok-rows.rows c.in_ok-rows.ensures.read))

pub returns-then-is_empty-clause-stepped : goal.returns-then-is_empty-clause-stepped
returns-then-is_empty-clause-stepped g c =
    subst (λ (p : BuildTask). IsAnswered (g.S.Snapshot.map_at c.args.db.now) c.args.store.now (step_call c.args.store.now p) Finished c.args.tx.now c.first_records.new.tx) c.self.view_is
    (step_empty (g.S.Snapshot.map_at c.args.db.now) (g.S.Snapshot.may_refuse c.args.db.now) c.args.store.now (record { name = c.self.inside.name; limit = c.self.inside.limit }) c.in_ok-index.index.now c.in_ok-index.ensures.found c.as_slice.result.now c.in_ok-ranges.ranges c.in_ok-found.found (c.as_slice.ensures.value ∙ c.in_ok-place.ensures.place ∙ ap (λ p. built_place p c.in_ok-index.index.now.number) c.prefix.ensures.prefix) c.in_ok-ranges.ensures.set c.in_ok-ranges.ensures.told c.in_ok-found.ensures c.in-Some.gap c.in-Some.is c.self.invariant c.in_ok-rows.rows c.in_ok-rows.ensures.read c.in_ok-range.range (c.in_ok-range.ensures ∙ ap (λ rows. part_made c.self.inside.limit rows c.in-Some.gap) c.as_slice-2.ensures)
    (not-true (has_keys c.in_ok-range.range) (sym c.is_empty.ensures ∙ c.if-is_empty.true)))

pub returns-in_err-write_all-clause-refused : goal.returns-in_err-write_all-clause-refused
returns-in_err-write_all-clause-refused g c =
    exit_with c.from_residual-in_err-write_all.result (of_write c.in_err-write_all.field-0.0) _ c.from_residual-in_err-write_all.ensures
    (subst (λ (p : BuildTask). IsRefused (g.S.Snapshot.map_at c.args.db.now) (g.S.Snapshot.may_refuse c.args.db.now) c.args.store.now (step_call c.args.store.now p) (of_write c.in_err-write_all.field-0.0) c.args.tx.now c.write_all.new.self) c.self.view_is
    (step_limited (g.S.Snapshot.map_at c.args.db.now) (g.S.Snapshot.may_refuse c.args.db.now) c.args.store.now (record { name = c.self.inside.name; limit = c.self.inside.limit }) c.in_ok-index.index.now c.in_ok-index.ensures.found c.as_slice.result.now c.in_ok-ranges.ranges c.in_ok-found.found (c.as_slice.ensures.value ∙ c.in_ok-place.ensures.place ∙ ap (λ p. built_place p c.in_ok-index.index.now.number) c.prefix.ensures.prefix) c.in_ok-ranges.ensures.set c.in_ok-ranges.ensures.told c.in_ok-found.ensures c.in-Some.gap c.in-Some.is c.self.invariant c.in_ok-rows.rows c.in_ok-rows.ensures.read c.in_ok-range.range (c.in_ok-range.ensures ∙ ap (λ rows. part_made c.self.inside.limit rows c.in-Some.gap) c.as_slice-2.ensures)
    c.in_ok-mutations.mutations.items (c.in_ok-mutations.ensures.writes ∙ (λ i. build_writes c.args.store.now.prefix c.in_ok-index.index.now (c.as_slice-4.ensures i) ++ insertion (there i) c.in_ok-ranges.ranges c.in_ok-range.range)) c.in_err-write_all.field-0.0 c.in_err-write_all.ensures.kept c.in_err-write_all.ensures.refused))
  where
    there : c.as_slice-3.result.now ≡ built_place c.args.store.now.prefix c.in_ok-index.index.now.number
    there = c.as_slice-3.ensures.value ∙ c.in_ok-place.ensures.place ∙ ap (λ p. built_place p c.in_ok-index.index.now.number) c.prefix.ensures.prefix

pub returns-clause-stepped : goal.returns-clause-stepped
returns-clause-stepped g c =
    subst (λ (p : BuildTask). IsAnswered (g.S.Snapshot.map_at c.args.db.now) c.args.store.now (step_call c.args.store.now p) (Built (length c.as_slice-records.result.now) c.in_ok-range.range) c.args.tx.now c.write_all.new.self) c.self.view_is
    (step_built (g.S.Snapshot.map_at c.args.db.now) (g.S.Snapshot.may_refuse c.args.db.now) c.args.store.now (record { name = c.self.inside.name; limit = c.self.inside.limit }) c.in_ok-index.index.now c.in_ok-index.ensures.found c.as_slice.result.now c.in_ok-ranges.ranges c.in_ok-found.found (c.as_slice.ensures.value ∙ c.in_ok-place.ensures.place ∙ ap (λ p. built_place p c.in_ok-index.index.now.number) c.prefix.ensures.prefix) c.in_ok-ranges.ensures.set c.in_ok-ranges.ensures.told c.in_ok-found.ensures c.in-Some.gap c.in-Some.is c.self.invariant c.in_ok-rows.rows c.in_ok-rows.ensures.read c.in_ok-range.range (c.in_ok-range.ensures ∙ ap (λ rows. part_made c.self.inside.limit rows c.in-Some.gap) c.as_slice-2.ensures)
    c.in_ok-mutations.mutations.items (c.in_ok-mutations.ensures.writes ∙ (λ i. build_writes c.args.store.now.prefix c.in_ok-index.index.now (c.as_slice-4.ensures i) ++ insertion (there i) c.in_ok-ranges.ranges c.in_ok-range.range)) (length c.as_slice-records.result.now) (ap length c.as_slice-records.ensures)
    (subst (λ p. (m : Map) → stored_in p m ≡ Some c.in_ok-ranges.ranges → Joins p c.in_ok-range.range m (after_all (insertion p c.in_ok-ranges.ranges c.in_ok-range.range) m)) there c.in_ok-mutations.ensures.joins) c.in_ok-write_all.ensures.ok c.in_ok-write_all.ensures.allowed)
  where
    there : c.as_slice-3.result.now ≡ built_place c.args.store.now.prefix c.in_ok-index.index.now.number
    there = c.as_slice-3.ensures.value ∙ c.in_ok-place.ensures.place ∙ ap (λ p. built_place p c.in_ok-index.index.now.number) c.prefix.ensures.prefix
