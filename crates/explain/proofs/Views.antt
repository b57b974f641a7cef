-- The steps of a plan, level by level.
use Rattle.std.proofs.Common.{◌≡◌, Box, Global, rules}
use Rattle.planner.specs.Plan as plan
use Rattle.planner.specs.View.{node_of, scan_of}
use Rattle.planner.specs.declared.plan.Node.{Node, Scan, Filter, Distinct, the_lemmas}
use Rattle.planner.specs.declared.plan.Scan.{Scan as ScanStep}
use Rattle.query.specs.View.{filter_of}
use Rattle.query.specs.declared.filter.Filter.{Filter as Condition}

pub node_of-Scan : (s : ScanStep) → node_of (Scan s) ≡ plan.scan (scan_of s)
node_of-Scan s = search (rules, the_lemmas)

pub node_of-Filter : (f : Condition) (n : Box Node Global) → node_of (Filter f n) ≡ plan.filtered (filter_of f) (node_of n.value)
node_of-Filter f n = search (rules, the_lemmas)

pub node_of-Distinct : (n : Box Node Global) → node_of (Distinct n) ≡ plan.distinct (node_of n.value)
node_of-Distinct n = search (rules, the_lemmas)
