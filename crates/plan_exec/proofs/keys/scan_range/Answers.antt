use Rattle.std.proofs.Common.{◌++◌, ◌∙◌, ap}
use Rattle.kv_core.specs.Bytes.{key_max}
use Rattle.planner.specs.View.{range_of}
use Rattle.plan_exec.specs.Reads.{scan_range}
use Rattle.plan_exec.proofs.KeyRanges.{is_range}
use Rattle.record_store.proofs.Keys.{not_refused}
use Rattle.plan_exec.proofs.keys.scan_range.Goals as goal

pub unreachable-requires : goal.unreachable-requires
unreachable-requires c =
    let begin = c.in_ok-begin.ensures ∙ ap (λ rest. c.args.key.now ++ rest) c.as_slice.ensures in
    let end = c.in_ok-joined.ensures ∙ ap (λ rest. c.args.key.now ++ rest) c.as_slice-2.ensures in
    not_refused (scan_range c.args.key.now (range_of c.args.range.now)) c.in_ok-begin.begin c.in_ok-end.end (is_range c.args.key.now (range_of c.args.range.now) c.requires) begin (c.in_ok-end.ensures ∙ (λ i. key_max (begin i) (end i)))
    c.in-None.ensures.none
