use Rattle.std.proofs.Common.{string_bytes}
use Rattle.planner.specs.View.{index_scan_of}
use Rattle.explain.specs.PlanText.{index_scan_text}
use Rattle.explain.proofs.Joined.{written_to}
use Rattle.explain.proofs.plan_text.push_index_scans.Goals as goal

pub loop-index-preserved : goal.loop-index-preserved
loop-index-preserved c =
    written_to index_scan_of index_scan_text c.args.scans.now c.loop-index.index c.index-scans-index.result (string_bytes c.args.text.now) (string_bytes c.loop-index.text) (string_bytes c.push_comma.new.text) (string_bytes c.push_index_scan.new.text) c.loop-index-test.true c.index-scans-index.is c.loop-index.invariant c.in_ok-push_comma.ensures c.in_ok-push_index_scan.ensures
