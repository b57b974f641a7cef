use Rattle.std.proofs.Common.{◌≡◌, ◌++◌, flat_map, map, string_bytes, take}
use Rattle.planner.specs.View.{node_of}
use Rattle.explain.specs.Tree.{deeper, node_tree}
use Rattle.explain.proofs.plan_tree.+growing.Given as goal

abbrev pub invariant-push_parts-loop-part : goal.invariant-push_parts-loop-part
invariant-push_parts-loop-part l = string_bytes l.text ≡ string_bytes l.fn.text ++ flat_map (node_tree l.definition (deeper l.indent)) (map node_of (take l.part-index l.parts))
