use Rattle.std.proofs.Common.{rules, Some, ap, sym, ◌∙◌}
use Rattle.std.specs.List.{filter}
use Rattle.kv_core.specs.Bytes.{key_lt}
use Rattle.cluster_core.specs.Tree.{later, newest_of}
use Rattle.cluster_core.proofs.InOrder.{around}
use Rattle.cluster_core.proofs.Newest.{after_here, after_on_right, newest_fork}
use Rattle.cluster_core.proofs.TreeNodes.{has_node}
use Rattle.cluster_core.proofs.tree.Tree.+newest_after.Goals as goal

pub newest_after-requires : goal.newest_after-requires
newest_after-requires t c =
    let n = has_node c.self.view_is c.requires c.in-Some.is c.deref-node.ensures in
    (search rules, (around _ _ _ n.order).right)

pub returns-then-not-is_before : goal.returns-then-not-is_before
returns-then-not-is_before t c =
    let n = has_node c.self.view_is c.requires c.in-Some.is c.deref-node.ensures in
    let low = c.args.low.now in
    c.newest_after.ensures ∙ ap newest_of (sym (after_on_right _ _ _ n.order low (sym c.is_before.ensures ∙ c.if-not-is_before.true)))
    ∙ ap (λ es. newest_of (filter (λ e. key_lt low e.0) es)) (sym n.is)

pub newest_after-requires-2 : goal.newest_after-requires-2
newest_after-requires-2 t c =
    let n = has_node c.self.view_is c.requires c.in-Some.is c.deref-node.ensures in
    (search rules, (around _ _ _ n.order).left)

pub returns : goal.returns
returns t c =
    let n = has_node c.self.view_is c.requires c.in-Some.is c.deref-node.ensures in
    let node = c.deref-node.result.now in
    let low = c.args.low.now in
    newest_fork (filter (λ e. key_lt low e.0) node.left.entries) node.right.entries (node.begin, node.segment) _ _
    (c.later-newest.ensures ∙ ap (λ own. later own (Some node.segment.place)) c.newest_after-2.ensures)
    (c.later.ensures ∙ ap (λ own. later own (Some c.later-newest.result)) c.newest.ensures)
    ∙ ap newest_of (sym (after_here _ _ _ n.order low (sym c.is_before.ensures ∙ c.if-not-is_before.false)))
    ∙ ap (λ es. newest_of (filter (λ e. key_lt low e.0) es)) (sym n.is)
