use Rattle.std.proofs.Common.{rules, Some, ap, sym, ◌∙◌}
use Rattle.std.specs.List.{filter}
use Rattle.kv_core.specs.Bytes.{key_lt}
use Rattle.cluster_core.specs.Tree.{later, newest_of}
use Rattle.cluster_core.proofs.InOrder.{around}
use Rattle.cluster_core.proofs.Newest.{before_here, before_on_left, newest_fork}
use Rattle.cluster_core.proofs.TreeNodes.{has_node}
use Rattle.cluster_core.proofs.tree.Tree.+newest_before.Goals as goal

pub newest_before-requires : goal.newest_before-requires
newest_before-requires t c =
    let n = has_node c.self.view_is c.requires c.in-Some.is c.deref-node.ensures in
    (search rules, (around _ _ _ n.order).left)

pub returns-then-not-is_before : goal.returns-then-not-is_before
returns-then-not-is_before t c =
    let n = has_node c.self.view_is c.requires c.in-Some.is c.deref-node.ensures in
    let high = c.args.high.now in
    c.newest_before.ensures ∙ ap newest_of (sym (before_on_left _ _ _ n.order high (sym c.is_before.ensures ∙ c.if-not-is_before.true)))
    ∙ ap (λ es. newest_of (filter (λ e. key_lt e.0 high) es)) (sym n.is)

pub newest_before-requires-2 : goal.newest_before-requires-2
newest_before-requires-2 t c =
    let n = has_node c.self.view_is c.requires c.in-Some.is c.deref-node.ensures in
    (search rules, (around _ _ _ n.order).right)

pub returns : goal.returns
returns t c =
    let n = has_node c.self.view_is c.requires c.in-Some.is c.deref-node.ensures in
    let node = c.deref-node.result.now in
    let high = c.args.high.now in
    newest_fork node.left.entries (filter (λ e. key_lt e.0 high) node.right.entries) (node.begin, node.segment) _ _
    (c.later-newest.ensures ∙ ap (λ own. later own (Some node.segment.place)) c.newest.ensures)
    (c.later.ensures ∙ ap (λ own. later own (Some c.later-newest.result)) c.newest_before-2.ensures)
    ∙ ap newest_of (sym (before_here _ _ _ n.order high (sym c.is_before.ensures ∙ c.if-not-is_before.false)))
    ∙ ap (λ es. newest_of (filter (λ e. key_lt e.0 high) es)) (sym n.is)
