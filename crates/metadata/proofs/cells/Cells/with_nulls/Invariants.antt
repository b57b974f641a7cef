use Rattle.std.proofs.Common.{◌≡◌, ◌-◌, ◌≤◌, ◌++◌, length}
use Rattle.std.specs.Prelude.{replicate}
use Rattle.metadata.specs.declared.cells.Cell.TheVariants.{Null}
use Rattle.metadata.proofs.cells.Cells.with_nulls.Given as goal

-- so many nulls stand behind the cells, and none where there are enough cells
abbrev pub invariant-loop : goal.invariant-loop
invariant-loop l = record {
  cells : l.cells.items ≡ l.fn.self ++ replicate (l.counter - length l.fn.self) Null;
  few : l.count ≤ length l.fn.self → l.counter ≤ length l.fn.self;
}
