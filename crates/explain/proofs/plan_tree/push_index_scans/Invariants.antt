use Rattle.std.proofs.Common.{◌≡◌, ◌++◌, flat_map, map, string_bytes, take}
use Rattle.planner.specs.View.{index_scan_of}
use Rattle.explain.specs.Tree.{index_line}
use Rattle.explain.proofs.plan_tree.push_index_scans.Given as goal

abbrev pub invariant-loop-scan : goal.invariant-loop-scan
invariant-loop-scan l = string_bytes l.text ≡ string_bytes l.fn.text ++ flat_map (index_line l.definition l.indent) (map index_scan_of (take l.scan-index l.scans))
