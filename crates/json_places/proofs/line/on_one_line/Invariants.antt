use Rattle.json_places.specs.OneLine.{IsOneLine}
use Rattle.json_places.proofs.line.on_one_line.Given as goal

abbrev pub invariant-loop-byte : goal.invariant-loop-byte
invariant-loop-byte l = IsOneLine l.line.items
