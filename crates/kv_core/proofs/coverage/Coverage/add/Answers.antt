use Rattle.std.proofs.Common.{◌∙◌, ◌||◌, sym, ap}
use Rattle.std.proofs.lemmas.Bool.{not-true}
use Rattle.kv_core.specs.Range.{contains, covers, has_keys}
use Rattle.kv_core.proofs.Growth.{Adds, adds, empty_covers, new_covers, new_stretches, whole_covers}
use Rattle.kv_core.proofs.coverage.Coverage.add.Goals as goal
use Rattle.kv_core.proofs.coverage.Coverage.add.Goals.{then-is_empty-via-then-is_empty, then-is_empty-via-else-is_empty+then-has_whole}

pub returns-then-is_empty-clause-ok : goal.returns-then-is_empty-clause-ok
returns-then-is_empty-clause-ok c = λ key.
    elim c.then-is_empty.branch [
      | then-is_empty-via-then-is_empty w ↦
          empty_covers c.args.range.now c.args.self.now key (not-true (has_keys c.args.range.now) (sym c.is_empty.ensures ∙ w.if-is_empty.true))
      | then-is_empty-via-else-is_empty+then-has_whole w ↦ whole_covers c.args.range.now c.args.self.now key (sym w.has_whole.ensures ∙ w.if-has_whole.true)
    ]

added : (c : goal.After-drop-swallowed-2) → Adds c.args.range.now c.self.inside.stretches.entries c.remove_each.new.map.entries c.in_ok-swallowed.swallowed.items
added c =
    adds c.args.range.now c.args.self.now c.self.inside.stretches.entries c.insert.new.self.entries c.remove_each.new.map.entries c.in_ok-swallowed.swallowed.items c.as_slice.result.now c.in_ok-begin.begin
    c.in_ok-end.end _ _ c.self.view_is c.insert.ensures.was_ordered c.remove_each.ensures.ordered c.self.invariant c.is_empty.ensures c.if-is_empty.false
    c.has_whole.ensures c.if-has_whole.false c.in_ok-swallowed.ensures c.as_slice.ensures.value (c.in_ok-begin.ensures ∙ c.begin.ensures.value)
    (c.in_ok-end.ensures ∙ c.end.ensures) c.in_ok-insert.ensures.updates.0 c.remove_each.ensures.gone

pub invariant_of-self-2 : goal.invariant_of-self-2
invariant_of-self-2 c = new_stretches c.args.range.now c.self.inside.stretches.entries c.remove_each.new.map.entries c.in_ok-swallowed.swallowed.items (added c)

pub returns-clause-ok : goal.returns-clause-ok
returns-clause-ok c = λ key.
    new_covers c.args.range.now c.self.inside.stretches.entries c.remove_each.new.map.entries c.in_ok-swallowed.swallowed.items (added c) key
    ∙ ap (λ own. covers own key || contains c.args.range.now key) c.self.view_is
