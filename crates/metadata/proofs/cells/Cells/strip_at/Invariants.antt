use Rattle.std.proofs.Common.{◌≡◌, ◌++◌, take}
use Rattle.tuple_codec.specs.Spelling.{spelling}
use Rattle.metadata.specs.Cell.{cells_at, items_of}
use Rattle.metadata.proofs.cells.Cells.strip_at.Given as goal

abbrev pub invariant-loop-place : goal.invariant-loop-place
invariant-loop-place l = l.bytes ≡ spelling (items_of (cells_at l.self (take l.place-index l.place-items))) ++ l.rest
