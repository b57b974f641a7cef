use Rattle.std.proofs.Common.{rules, Some, ap, sym, ◌∙◌, arith}
use Rattle.cluster_core.specs.Tree.{later, newest_of}
use Rattle.cluster_core.proofs.Balanced.{shallow}
use Rattle.cluster_core.proofs.Newest.{newest_fork}
use Rattle.cluster_core.proofs.tree.fork.Goals as goal

pub invariant_of-result : goal.invariant_of-result
invariant_of-result c =
    let node = c.deref_mut-node.result.now in
    record {
      newest =
          newest_fork c.args.left.entries c.args.right.entries (node.begin, node.segment) _ _
          (
          c.later.ensures ∙ ap (λ own. later own (Some c.deref.result.now.segment.place)) c.newest-2.ensures
          ∙ ap (λ n. later (newest_of c.args.left.entries) (Some n.segment.place)) (c.deref.ensures ∙ sym c.deref_mut-node.ensures.value)
          )
          (c.later-newest.ensures ∙ ap (λ own. later own (Some c.later.result)) c.newest.ensures);
      height = search rules;
      fits = omega (arith, c.requires.room);
      sides = c.requires.near;
      shallow = shallow c.args.left.entries c.args.right.entries (node.begin, node.segment) c.args.left.height c.args.right.height c.requires.near.0 c.requires.near.1 (search rules) (search rules);
    }
