use Rattle.std.proofs.Common.{◌≡◌, ◌++◌, map, string_bytes, take}
use Rattle.std.specs.List.{join_with_byte}
use Rattle.planner.specs.View.{index_scan_of}
use Rattle.explain.specs.PlanText.{index_scan_text}
use Rattle.explain.proofs.plan_text.push_index_scans.Given as goal

abbrev pub invariant-loop-index : goal.invariant-loop-index
invariant-loop-index l = string_bytes l.text ≡ string_bytes l.fn.text ++ join_with_byte 44 (map index_scan_text (map index_scan_of (take l.index l.scans)))
