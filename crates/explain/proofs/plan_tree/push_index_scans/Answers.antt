use Rattle.std.proofs.Common.{string_bytes}
use Rattle.planner.specs.View.{index_scan_of}
use Rattle.explain.specs.Tree.{index_line}
use Rattle.explain.proofs.Trees.{lines_to}
use Rattle.explain.proofs.plan_tree.push_index_scans.Goals as goal

pub loop-scan-preserved : goal.loop-scan-preserved
loop-scan-preserved c =
    lines_to index_scan_of (index_line c.args.definition.now c.args.indent.now) c.args.scans.now c.loop-scan.scan-index c.scan-item.result (string_bytes c.args.text.now) (string_bytes c.loop-scan.text) (string_bytes c.push_index_scan.new.text) c.loop-scan-test.true c.scan-item.is c.loop-scan.invariant c.in_ok-push_index_scan.ensures
