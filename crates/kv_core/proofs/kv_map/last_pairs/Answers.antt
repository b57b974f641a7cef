use Rattle.std.proofs.Common.{◌∙◌, ◌++◌, ◌∷◌, [], ◌+◌, ◌-◌, take, reverse, ap}
use Rattle.kv_core.proofs.Stored.{forward, between_is, starts, turn, last_first}
use Rattle.kv_core.proofs.kv_map.last_pairs.Goals as goal

pub range-front-requires : goal.range-front-requires
range-front-requires c = forward c.args.range.now _ _ c.begin.ensures.value c.end.ensures c.begin.ensures.lawful

pub loop-init : goal.loop-init
loop-init c =
    starts c.new-pairs.result.items _ _ c.args.limit c.new-pairs.ensures.items
    (ap reverse (c.range-front.ensures.between tt ∙ between_is c.args.range.now _ _ c.args.map.now.entries c.begin.ensures.value c.end.ensures))

pub loop-preserved : goal.loop-preserved
loop-preserved c =
    ap (λ xs. xs ++ take (c.args.limit - (c.loop.counter + 1)) (reverse c.next_back.new.self))
    (c.in_ok-push.ensures.items ∙ (λ i. c.loop.pairs.items ++ (c.in_ok-copy.ensures i, c.in_ok-copy-2.ensures i) ∷ []))
    ∙ turn c.loop.pairs.items (reverse c.loop.front) (reverse c.next_back.new.self) c.args.limit c.loop.counter (c.in-Some.key.now, c.in-Some.value.now) _ c.loop-test.true
    (last_first c.loop.front c.next_back.new.self _ c.in-Some.ensures.steps) c.loop.invariant
