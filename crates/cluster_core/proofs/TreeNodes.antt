-- What is known of a tree's segments once the node at its top is there.
use Rattle.std.proofs.Common.{◌≡◌, ◌<◌, None, Some, Option, ◌∷◌, ◌++◌, length, length-append, Box, sym, ap, subst, ◌∙◌, arith}
use Rattle.std.specs.declared.alloc.Global.{Global}
use Rattle.std.specs.Prelude.{IfNone}
use Rattle.cluster_core.specs.declared.segments.Segment.{Segment}
use Rattle.cluster_core.specs.declared.tree.Node.{Node}
use Rattle.cluster_core.specs.Tree.{InOrder, Shape, forked}
use Rattle.cluster_core.specs.TreeNode.{shape}
use Rattle.cluster_core.proofs.InOrder.{Key, Run}

-- the segments es are these, on both sides of one of them
pub record HasParts (es l : Run) (e : Key × Segment) (r : Run) : Type 0 where
  pub is : es ≡ l ++ e ∷ r
  pub order : InOrder (l ++ e ∷ r)
  pub shorter : (length l < length es) × (length r < length es)

pub has_parts : (es l : Run) (e : Key × Segment) (r : Run) → es ≡ l ++ e ∷ r → InOrder es → HasParts es l e r
has_parts es l e r is order = record {
  is = is;
  order = subst InOrder is order;
  shorter = subst (λ xs. (length l < length xs) × (length r < length xs)) (sym is) (omega (arith, length-append l (e ∷ r)));
}

pub has_fork : (tree left right : Shape) (begin : Key) (segment : Segment) → tree ≡ forked left begin segment right → InOrder tree.entries →
    HasParts tree.entries left.entries (begin, segment) right.entries
has_fork tree left right begin segment is order = has_parts tree.entries left.entries (begin, segment) right.entries (ap (λ (t : Shape). t.entries) is) order

pub has_node : {tree : Shape} {root : Option (Box Node Global)} {node : Box Node Global} {n : Node} → shape root ≡ tree → InOrder tree.entries → root ≡ Some node → n ≡ node.value →
    HasParts tree.entries n.left.entries (n.begin, n.segment) n.right.entries
has_node {tree} {root} {node} {n} view order top same =
    has_fork tree n.left n.right n.begin n.segment (sym view ∙ ap shape top ∙ ap (λ m. forked m.left m.begin m.segment m.right) (sym same)) order

pub none_then : {X : Type 0} (r : Option X) (P Q : Type 0) → IfNone r P → (P → Q) → IfNone r Q
none_then None P Q h f = f h
none_then (Some x) P Q h f = tt
