use Rattle.std.proofs.Common.{◌≡◌, ℕ, List, take}
use Rattle.kv_core.specs.Range.{covers}
use Rattle.drive_form.proofs.given_bytes.coverage_of.Given as goal

abbrev pub invariant-loop-range : goal.invariant-loop-range
invariant-loop-range l = (key : List ℕ) → covers l.covered key ≡ covers (take l.range-index l.ranges) key
