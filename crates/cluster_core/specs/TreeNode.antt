-- Private: what a node of the tree is seen as, and what holds of it.
use Rattle.std.specs.Prelude.{◌≡◌, ◌<◌, ℕ, Option, None, Some}
use Rattle.std.proofs.Common.{Box}
use Rattle.std.specs.declared.alloc.Global.{Global}
use Rattle.cluster_core.specs.declared.tree.Node.{Node}
use Rattle.cluster_core.specs.Tree.{AreNear, IsShallow, Shape, empty, forked, newest_of}

-- what is below a node and in it
abbrev pub shape : Option (Box Node Global) → Shape
shape None = empty
shape (Some node) = forked node.value.left node.value.begin node.value.segment node.value.right

-- the newest place that a node keeps
abbrev pub newest_kept : Option (Box Node Global) → Option ℕ
newest_kept None = None
newest_kept (Some node) = Some node.value.newest

-- the height that a node keeps
abbrev pub height_kept : Option (Box Node Global) → ℕ
height_kept None = 0
height_kept (Some node) = node.value.height

-- neither side of a node is by more than two higher than the other one
abbrev pub HasNearSides : Option (Box Node Global) → Type 0
HasNearSides None = Unit {0}
HasNearSides (Some node) = AreNear 2 node.value.left.height node.value.right.height

-- a node keeps the newest place and its height, its sides are about as high, and so the tree is low for its segments
pub record IsBalanced (root : Option (Box Node Global)) : Type 0 where
  pub newest : newest_kept root ≡ newest_of (shape root).entries
  pub height : height_kept root ≡ (shape root).height
  pub fits : (shape root).height < 256
  pub sides : HasNearSides root
  pub shallow : IsShallow (shape root)
