use Rattle.std.proofs.Common.{rules, ◌≡◌, ap, sym, true, false, ◌∙◌}
use Rattle.kv_core.specs.Bytes.{key_lt}
use Rattle.cluster_core.proofs.InOrder.{around, split_left, split_right}
use Rattle.cluster_core.proofs.TreeNodes.{has_fork}
use Rattle.cluster_core.proofs.tree.Tree.+split.Goals as goal

pub split-before-requires : goal.split-before-requires
split-before-requires t c =
    let n = has_fork c.args.self c.in-Some.left c.in-Some.right c.in-Some.node.value.begin c.in-Some.node.value.segment c.in-Some.ensures.parts c.requires in
    (search rules, (around _ _ _ n.order).right)

pub split-before-requires-else-is_before : goal.split-before-requires-else-is_before
split-before-requires-else-is_before t c =
    let n = has_fork c.args.self c.in-Some.left c.in-Some.right c.in-Some.node.value.begin c.in-Some.node.value.segment c.in-Some.ensures.parts c.requires in
    (search rules, (around _ _ _ n.order).left)

pub returns-then-is_before-clause-parts : goal.returns-then-is_before-clause-parts
returns-then-is_before-clause-parts t c =
    let n = has_fork c.args.self c.in-Some.left c.in-Some.right c.in-Some.node.value.begin c.in-Some.node.value.segment c.in-Some.ensures.parts c.requires in
    let past : key_lt c.in-Some.node.value.begin c.args.key.now ≡ true = ap (λ node. key_lt node.begin c.args.key.now) (sym c.deref.ensures) ∙ sym c.is_before.ensures ∙ c.if-is_before.true in
    split_right _ _ _ _ _ _ _ c.args.key.now n.is n.order c.join.ensures.entries past c.split-before.ensures.parts

pub returns-else-is_before-clause-parts : goal.returns-else-is_before-clause-parts
returns-else-is_before-clause-parts t c =
    let n = has_fork c.args.self c.in-Some.left c.in-Some.right c.in-Some.node.value.begin c.in-Some.node.value.segment c.in-Some.ensures.parts c.requires in
    let upto : key_lt c.in-Some.node.value.begin c.args.key.now ≡ false = ap (λ node. key_lt node.begin c.args.key.now) (sym c.deref.ensures) ∙ sym c.is_before.ensures ∙ c.if-is_before.false in
    split_left _ _ _ _ _ _ _ c.args.key.now n.is n.order c.join-else-is_before.ensures.entries upto c.split-before-else-is_before.ensures.parts
