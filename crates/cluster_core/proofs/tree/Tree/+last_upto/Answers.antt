use Rattle.std.proofs.Common.{rules, ◌≡◌, true, subst, sym, ◌∙◌}
use Rattle.std.proofs.lemmas.Option.{IfSome_then}
use Rattle.kv_core.specs.Bytes.{key_lt}
use Rattle.cluster_core.specs.Segments.{Begins}
use Rattle.cluster_core.specs.Tree.{IsLastUpto}
use Rattle.cluster_core.proofs.InOrder.{Key, around, last_here, last_left, last_right, none_left}
use Rattle.cluster_core.proofs.TreeNodes.{has_node, none_then}
use Rattle.cluster_core.specs.declared.segments.Segment.{Segment}
use Rattle.cluster_core.proofs.tree.Tree.+last_upto.Goals as goal

pub last_upto-requires : goal.last_upto-requires
last_upto-requires t c =
    let n = has_node c.self.view_is c.requires c.in-Some.is c.deref-node.ensures in
    (search rules, (around _ _ _ n.order).left)

pub returns-then-is_before-clause-some : goal.returns-then-is_before-clause-some
returns-then-is_before-clause-some t c =
    let n = has_node c.self.view_is c.requires c.in-Some.is c.deref-node.ensures in
    IfSome_then c.last_upto.result c.last_upto.ensures.some (λ last h.
    subst (λ es. IsLastUpto es c.args.key.now last.now.begin last.now.segment) (sym n.is)
    (last_left _ _ _ _ n.order _ _ (sym c.is_before.ensures ∙ c.if-is_before.true) h))

pub returns-then-is_before-clause-none : goal.returns-then-is_before-clause-none
returns-then-is_before-clause-none t c =
    let n = has_node c.self.view_is c.requires c.in-Some.is c.deref-node.ensures in
    none_then c.last_upto.result _ _ c.last_upto.ensures.none (λ none.
    subst (λ es. (q : Key) (s : Segment) → Begins es q s → key_lt c.args.key.now q ≡ true) (sym n.is)
    (none_left _ _ _ _ n.order (sym c.is_before.ensures ∙ c.if-is_before.true) none))

pub last_upto-requires-2 : goal.last_upto-requires-2
last_upto-requires-2 t c =
    let n = has_node c.self.view_is c.requires c.in-Some.is c.deref-node.ensures in
    (search rules, (around _ _ _ n.order).right)

pub returns-in-Some-last_upto-clause-some : goal.returns-in-Some-last_upto-clause-some
returns-in-Some-last_upto-clause-some t c =
    let n = has_node c.self.view_is c.requires c.in-Some.is c.deref-node.ensures in
    subst (λ es. IsLastUpto es c.args.key.now c.in-Some-last_upto.last.now.begin c.in-Some-last_upto.last.now.segment) (sym n.is)
    (last_right _ _ _ _ n.order _ _ c.in-Some-last_upto.ensures.some)

pub returns-in-None-clause-some : goal.returns-in-None-clause-some
returns-in-None-clause-some t c =
    let n = has_node c.self.view_is c.requires c.in-Some.is c.deref-node.ensures in
    subst (λ es. IsLastUpto es c.args.key.now c.deref-node.result.now.begin c.deref-node.result.now.segment) (sym n.is)
    (last_here _ _ _ _ n.order (sym c.is_before.ensures ∙ c.if-is_before.false) c.in-None.ensures.none)
