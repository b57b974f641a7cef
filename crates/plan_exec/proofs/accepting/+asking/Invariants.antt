use Rattle.std.proofs.Common.{◌≡◌, drop}
use Rattle.plan_exec.specs.Accepting.{may_read}
use Rattle.plan_exec.proofs.Accepted.{nodes_all}
use Rattle.plan_exec.proofs.accepting.+asking.Given as goal

abbrev pub invariant-may_read_nodes-loop-part : goal.invariant-may_read_nodes-loop-part
invariant-may_read_nodes-loop-part l = nodes_all (may_read l.store) (drop l.part-index l.parts) ≡ nodes_all (may_read l.store) l.parts
