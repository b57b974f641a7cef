use Rattle.std.proofs.Common.{◌≡◌, ◌++◌, map, string_bytes, take}
use Rattle.std.specs.List.{join_with_byte}
use Rattle.planner.specs.View.{node_of}
use Rattle.explain.specs.PlanText.{node_text}
use Rattle.explain.proofs.plan_text.+writing.Given as goal

abbrev pub invariant-push_nodes-loop-index : goal.invariant-push_nodes-loop-index
invariant-push_nodes-loop-index l = string_bytes l.text ≡ string_bytes l.fn.text ++ join_with_byte 44 (map (node_text l.name) (map node_of (take l.index l.parts)))
