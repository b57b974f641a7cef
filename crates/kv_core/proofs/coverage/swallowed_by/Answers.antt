use Rattle.std.proofs.Common.{◌∙◌, ◌++◌, ◌∷◌, [], sym, ap}
use Rattle.std.specs.List.{take_while}
use Rattle.std.specs.Map.{keys_of}
use Rattle.kv_core.specs.Bytes.{key_le, key_lt}
use Rattle.kv_core.proofs.Order.{le_from}
use Rattle.kv_core.proofs.Swallowed.{after_begin, are_swallowed, begins_end, begins_stop, begins_turn}
use Rattle.std.proofs.lemmas.Bool.{not_from_true}
use Rattle.kv_core.proofs.coverage.swallowed_by.Goals as goal

pub loop-begin-init : goal.loop-begin-init
loop-begin-init c =
    ap (λ xs. xs ++ keys_of (take_while (λ x. key_le x.1 c.args.range.now.end) c.into_iter-begin-iterator.result)) c.new-begins.ensures.items
    ∙ ap (λ xs. keys_of (take_while (λ x. key_le x.1 c.args.range.now.end) xs))
    (c.into_iter-begin-iterator.ensures.into_iter_gives ∙ c.range-begin-items.ensures.between tt ∙ after_begin c.args.range.now _ c.args.stretches.now.entries c.begin.ensures.value)

pub loop-begin-preserved : goal.loop-begin-preserved
loop-begin-preserved c =
    ap (λ xs. xs ++ keys_of (take_while (λ x. key_le x.1 c.args.range.now.end) c.next.new.self))
    (c.in_ok-push.ensures.items ∙ ap (λ k. c.loop-begin.begins.items ++ k ∷ []) c.in_ok-copy.ensures)
    ∙ begins_turn c.args.range.now c.loop-begin.begins.items c.loop-begin.begin-iterator c.next.new.self (c.in-Some.begin.now, c.in-Some.end.now) _ c.in-Some.ensures.steps
    (le_from c.in-Some.end.now c.args.range.now.end (ap (λ e. key_lt e c.in-Some.end.now) (sym c.end.ensures) ∙ sym c.is_before.ensures ∙ c.if-is_before.false))
    c.loop-begin.invariant

pub returns-then-is_before : goal.returns-then-is_before
returns-then-is_before c =
    are_swallowed c.args.range.now c.args.stretches.now.entries c.loop-begin.begins.items c.range-begin-items.ensures.ordered c.requires
    (begins_stop c.args.range.now c.loop-begin.begins.items c.loop-begin.begin-iterator c.next.new.self (c.in-Some.begin.now, c.in-Some.end.now) _ c.in-Some.ensures.steps
    (not_from_true (key_lt c.args.range.now.end c.in-Some.end.now) (ap (λ e. key_lt e c.in-Some.end.now) (sym c.end.ensures) ∙ sym c.is_before.ensures ∙ c.if-is_before.true))
    c.loop-begin.invariant)

pub returns : goal.returns
returns c =
    are_swallowed c.args.range.now c.args.stretches.now.entries c.loop-begin.begins.items c.range-begin-items.ensures.ordered c.requires
    (begins_end c.args.range.now c.loop-begin.begins.items c.loop-begin.begin-iterator _ c.in-None.ensures.steps.0 c.loop-begin.invariant)
