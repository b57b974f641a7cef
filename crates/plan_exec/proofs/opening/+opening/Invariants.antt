use Rattle.std.proofs.Common.{◌≡◌, map, take}
use Rattle.planner.specs.View.{node_of}
use Rattle.plan_exec.specs.Course.{node_course}
use Rattle.plan_exec.specs.Rows.{level_of, new_level}
use Rattle.plan_exec.proofs.opening.+opening.Given as goal

-- the rows of the parts so far are those of the nodes so far, and nothing is known of them
abbrev pub invariant-parts_of-loop-node : goal.invariant-parts_of-loop-node
invariant-parts_of-loop-node l =
    map level_of l.parts.items ≡ map (λ node. new_level (λ pairs. node_course l.records.store.now.prefix pairs l.records.definition.value (node_of node))) (take l.node-index l.nodes)
