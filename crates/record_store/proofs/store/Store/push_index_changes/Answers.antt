use Rattle.std.proofs.Common.{◌≡◌, ◌∙◌, ℕ, ◌+◌, ◌<◌, ap, arith, length, map, subst, take}
use Rattle.std.specs.Prelude.{get_or, suc}
use Rattle.std.specs.Option.{option_copied}
use Rattle.metadata.specs.Schema.{Schema}
use Rattle.txn.proofs.Exits.{exit_with}
use Rattle.record_store.specs.BuiltReading.{position_in}
use Rattle.record_store.specs.Reading.{HaveFollowed}
use Rattle.record_store.proofs.Followed.{followed_more, not_followed}
use Rattle.record_store.proofs.store.Store.push_index_changes.Goals as goal

pub returns-in_err-at_built-clause-refused : goal.returns-in_err-at_built-clause-refused
returns-in_err-at_built-clause-refused c =
    exit_with c.from_residual.result c.in_err-at_built.field-0.0 _ c.from_residual.ensures
    (not_followed c.args.self.now c.args.number (position_in c.args.self.now.prefix c.args.number c.args.key.now) (option_copied c.args.old) (option_copied c.args.new) (map (λ pairs. pairs.items) c.args.found.now) c.loop-at.at c.index-item.result
    c.found_at-pairs.result.now c.args.mutations.now.items c.loop-at.mutations.items c.in_err-at_built.field-0.0 (subst (λ xs. c.loop-at.at < length xs) same c.loop-at-test.true) (subst (λ xs. c.index-item.result ≡ get_or xs c.loop-at.at c.index-item.result) same c.index-item.is) c.found_at-pairs.ensures c.in_err-at_built.ensures.refused c.loop-at.invariant)
  where
    same : c.indexes-index-items.result.now ≡ c.args.self.now.schema.indexes
    same = c.indexes-index-items.ensures ∙ ap (λ (s : Schema). s.indexes) c.schema.ensures

pub loop-at-preserved : goal.loop-at-preserved
loop-at-preserved c =
    let next : suc c.loop-at.at ≡ c.loop-at.at + 1 = omega arith in
    subst (λ (n : ℕ). HaveFollowed c.args.self.now c.args.number (position_in c.args.self.now.prefix c.args.number c.args.key.now) (option_copied c.args.old) (option_copied c.args.new) (map (λ pairs. pairs.items) c.args.found.now) (take n c.args.self.now.schema.indexes)
    c.args.mutations.now.items c.push_changes_of.new.mutations.items) next
    (followed_more c.args.self.now c.args.number (position_in c.args.self.now.prefix c.args.number c.args.key.now) (option_copied c.args.old) (option_copied c.args.new) (map (λ pairs. pairs.items) c.args.found.now) c.loop-at.at c.index-item.result c.in_ok-at_built.at_built
    c.found_at-pairs.result.now c.args.mutations.now.items c.loop-at.mutations.items c.push_changes_of.new.mutations.items (subst (λ xs. c.loop-at.at < length xs) same c.loop-at-test.true) (subst (λ xs. c.index-item.result ≡ get_or xs c.loop-at.at c.index-item.result) same c.index-item.is) c.found_at-pairs.ensures c.in_ok-at_built.ensures.told
    c.in_ok-push_changes_of.ensures c.loop-at.invariant)
  where
    same : c.indexes-index-items.result.now ≡ c.args.self.now.schema.indexes
    same = c.indexes-index-items.ensures ∙ ap (λ (s : Schema). s.indexes) c.schema.ensures
