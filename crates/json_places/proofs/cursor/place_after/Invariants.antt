use Rattle.std.proofs.Common.{◌≡◌, take}
use Rattle.std.specs.Prelude.{fold}
use Rattle.json_places.specs.Places.{column_after, line_after}
use Rattle.json_places.proofs.cursor.place_after.Given as goal

abbrev pub invariant-loop-byte : goal.invariant-loop-byte
invariant-loop-byte l =
    (l.place.line ≡ fold line_after l.fn.place.line (take l.byte-index l.bytes))
    × (l.place.column ≡ fold column_after l.fn.place.column (take l.byte-index l.bytes))
