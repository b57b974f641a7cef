use Rattle.std.proofs.Common.{map, string_bytes}
use Rattle.std.proofs.lemmas.List.{take_all}
use Rattle.planner.specs.View.{node_of}
use Rattle.explain.specs.Tree.{deeper, node_tree}
use Rattle.explain.proofs.Trees.{lines_to, trees_each}
use Rattle.explain.proofs.plan_tree.+growing.Goals as goal

pub push_parts-loop-part-preserved : goal.push_parts-loop-part-preserved
push_parts-loop-part-preserved t c =
    lines_to node_of (node_tree c.args.definition.now (deeper c.args.indent.now)) c.args.parts.now c.loop-part.part-index c.part-item.result (string_bytes c.args.text.now) (string_bytes c.loop-part.text) (string_bytes c.push_node.new.text) c.loop-part-test.true c.part-item.is c.loop-part.invariant (rw (c.as_str.ensures.value, c.in_ok-below.ensures) at c.in_ok-push_node.ensures)

pub push_parts-returns : goal.push_parts-returns
push_parts-returns t c = rw (trees_each c.args.definition.now (deeper c.args.indent.now) (map node_of c.args.parts.now)) (rw (take_all c.loop-part.part-index c.args.parts.now c.loop-part-test.false) at c.loop-part.invariant)
