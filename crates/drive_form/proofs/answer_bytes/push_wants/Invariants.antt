use Rattle.std.proofs.Common.{◌≡◌, ◌++◌, length, take}
use Rattle.std.specs.Int.{w32, to_le_bytes}
use Rattle.std.specs.List.{AllByRecursion}
use Rattle.drive_form.specs.Form.{FitsWant, each_of, want_bytes}
use Rattle.drive_form.proofs.answer_bytes.push_wants.Given as goal

abbrev pub invariant-loop-want : goal.invariant-loop-want
invariant-loop-want l = record {
  spelled :
      l.out.items
      ≡ l.fn.out.items ++ (to_le_bytes w32 (length l.wants) ++ each_of want_bytes (take l.want-index l.wants));
  fit : AllByRecursion FitsWant (take l.want-index l.wants);
}
