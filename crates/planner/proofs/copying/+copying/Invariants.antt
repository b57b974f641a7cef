use Rattle.std.proofs.Common.{◌≡◌, map, take}
use Rattle.planner.specs.View.{node_of}
use Rattle.planner.proofs.copying.+copying.Given as goal

-- the copies so far are those of the parts so far
abbrev pub invariant-copy_nodes-loop-part : goal.invariant-copy_nodes-loop-part
invariant-copy_nodes-loop-part l = map node_of l.copies.items ≡ map node_of (take l.part-index l.parts)
