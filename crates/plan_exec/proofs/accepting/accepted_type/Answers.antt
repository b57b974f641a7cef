use Rattle.std.proofs.Common.{◌≡◌, ◌∙◌, ap, sym, true, false}
use Rattle.std.proofs.lemmas.Bool.{true≢false}
use Rattle.std.specs.List.{list_all}
use Rattle.planner.specs.Right.{indexes_of}
use Rattle.planner.specs.View.{node_of}
use Rattle.plan_exec.specs.Accepting.{may_read}
use Rattle.plan_exec.proofs.Accepted.{all_readable}
use Rattle.plan_exec.proofs.accepting.accepted_type.Goals as goal

pub returns-then-may_read_node-clause-accepted : goal.returns-then-may_read_node-clause-accepted
returns-then-may_read_node-clause-accepted c =
    let all : list_all (may_read c.args.store.now) (indexes_of (node_of c.args.plan.now.root)) ≡ true =
    ap (λ n. list_all (may_read c.args.store.now) (indexes_of n)) (sym c.root.ensures) ∙ sym c.may_read_node.ensures ∙ c.if-may_read_node.true in
    record { has_type = c.in-Some.ensures.found; has_indexes = (all_readable c.args.store.now (indexes_of (node_of c.args.plan.now.root))).0 all }

pub returns-else-may_read_node-clause-refused : goal.returns-else-may_read_node-clause-refused
returns-else-may_read_node-clause-refused c =
    let not_all : list_all (may_read c.args.store.now) (indexes_of (node_of c.args.plan.now.root)) ≡ false =
    ap (λ n. list_all (may_read c.args.store.now) (indexes_of n)) (sym c.root.ensures) ∙ sym c.may_read_node.ensures ∙ c.if-may_read_node.false in
    ((c.in-Some.definition.now, c.in-Some.ensures.found), λ all. true≢false (sym ((all_readable c.args.store.now (indexes_of (node_of c.args.plan.now.root))).1 all) ∙ not_all))
