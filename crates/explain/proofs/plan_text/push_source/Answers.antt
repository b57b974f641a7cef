use Rattle.std.proofs.Common.{codes, map, string_bytes}
use Rattle.std.specs.List.{join_with_byte}
use Rattle.planner.specs.View.{index_scan_of}
use Rattle.explain.specs.PlanText.{index_scan_text}
use Rattle.explain.proofs.Joined.{closed}
use Rattle.explain.proofs.plan_text.push_source.Goals as goal

pub returns-in_ok-push_str-in-Intersection-2 : goal.returns-in_ok-push_str-in-Intersection-2
returns-in_ok-push_str-in-Intersection-2 c =
    rw c.in-Intersection.is (closed (codes "Intersection(") (join_with_byte 44 (map index_scan_text (map index_scan_of c.in-Intersection.scans.items))) (string_bytes c.args.text.now) (string_bytes c.push_str.new.self) (string_bytes c.push_index_scans.new.text) (string_bytes c.push_str-in-Intersection.new.self) c.in_ok-push_str-in-Intersection.ensures.bytes (rw c.as_slice.ensures.value at c.in_ok-push_index_scans-in-Intersection.ensures) c.in_ok-push_str-in-Intersection-2.ensures.bytes)
