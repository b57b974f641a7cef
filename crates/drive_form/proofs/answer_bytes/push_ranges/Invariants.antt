use Rattle.std.proofs.Common.{◌≡◌, ◌++◌, length, take}
use Rattle.std.specs.Int.{w32, to_le_bytes}
use Rattle.std.specs.List.{AllByRecursion}
use Rattle.drive_form.specs.Form.{FitsRange, each_of, range_bytes}
use Rattle.drive_form.proofs.answer_bytes.push_ranges.Given as goal

abbrev pub invariant-loop-range : goal.invariant-loop-range
invariant-loop-range l = record {
  spelled :
      l.out.items
      ≡ l.fn.out.items ++ (to_le_bytes w32 (length l.ranges) ++ each_of range_bytes (take l.range-index l.ranges));
  fit : AllByRecursion FitsRange (take l.range-index l.ranges);
}
