use Rattle.std.proofs.Common.{rules, Some, ap, sym, ◌∙◌}
use Rattle.std.specs.List.{filter}
use Rattle.kv_core.specs.Bytes.{key_lt}
use Rattle.cluster_core.specs.Tree.{between, later, newest_of}
use Rattle.cluster_core.proofs.InOrder.{around}
use Rattle.cluster_core.proofs.Newest.{between_here, between_on_left, between_on_right, newest_fork}
use Rattle.cluster_core.proofs.TreeNodes.{has_node}
use Rattle.cluster_core.proofs.tree.Tree.+newest_between.Goals as goal

pub newest_between-requires : goal.newest_between-requires
newest_between-requires t c =
    let n = has_node c.self.view_is c.requires c.in-Some.is c.deref-node.ensures in
    (search rules, (around _ _ _ n.order).right)

pub returns-then-not-is_before : goal.returns-then-not-is_before
returns-then-not-is_before t c =
    let n = has_node c.self.view_is c.requires c.in-Some.is c.deref-node.ensures in
    let low = c.args.low.now in
    let high = c.args.high.now in
    c.newest_between.ensures ∙ ap newest_of (sym (between_on_right _ _ _ n.order low high (sym c.is_before.ensures ∙ c.if-not-is_before.true)))
    ∙ ap (λ es. newest_of (between low high es)) (sym n.is)

pub newest_between-requires-then-not-is_before-2 : goal.newest_between-requires-then-not-is_before-2
newest_between-requires-then-not-is_before-2 t c =
    let n = has_node c.self.view_is c.requires c.in-Some.is c.deref-node.ensures in
    (search rules, (around _ _ _ n.order).left)

pub returns-then-not-is_before-2 : goal.returns-then-not-is_before-2
returns-then-not-is_before-2 t c =
    let n = has_node c.self.view_is c.requires c.in-Some.is c.deref-node.ensures in
    let low = c.args.low.now in
    let high = c.args.high.now in
    c.newest_between-then-not-is_before-2.ensures
    ∙ ap newest_of (sym (between_on_left _ _ _ n.order low high (sym c.is_before-2.ensures ∙ c.if-not-is_before-2.true)))
    ∙ ap (λ es. newest_of (between low high es)) (sym n.is)

pub newest_after-requires : goal.newest_after-requires
newest_after-requires t c =
    let n = has_node c.self.view_is c.requires c.in-Some.is c.deref-node.ensures in
    (around _ _ _ n.order).left

pub newest_before-requires : goal.newest_before-requires
newest_before-requires t c =
    let n = has_node c.self.view_is c.requires c.in-Some.is c.deref-node.ensures in
    (around _ _ _ n.order).right

pub returns : goal.returns
returns t c =
    let n = has_node c.self.view_is c.requires c.in-Some.is c.deref-node.ensures in
    let node = c.deref-node.result.now in
    let low = c.args.low.now in
    let high = c.args.high.now in
    newest_fork (filter (λ e. key_lt low e.0) node.left.entries) (filter (λ e. key_lt e.0 high) node.right.entries) (node.begin, node.segment) _ _
    (c.later-newest.ensures ∙ ap (λ own. later own (Some node.segment.place)) c.newest_after.ensures)
    (c.later.ensures ∙ ap (λ own. later own (Some c.later-newest.result)) c.newest_before.ensures)
    ∙ ap newest_of (sym (between_here _ _ _ n.order low high (sym c.is_before.ensures ∙ c.if-not-is_before.false) (sym c.is_before-2.ensures ∙ c.if-not-is_before-2.false)))
    ∙ ap (λ es. newest_of (between low high es)) (sym n.is)
