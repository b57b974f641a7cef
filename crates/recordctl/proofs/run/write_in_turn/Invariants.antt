use Rattle.std.proofs.Common.{◌≡◌, false, take}
use Rattle.shell.specs.Further.{HasDoneNext}
use Rattle.recordctl.proofs.run.write_in_turn.Given as goal

-- whether it is told how far it is stays so; the steps up to the next one were done after those of before; and nothing
-- is printed on the errors where nobody watches
abbrev pub invariant-loop-index : goal.invariant-loop-index
invariant-loop-index g l =
    (l.progress ≡ l.fn.progress) × HasDoneNext (take l.index l.steps) l.fn.database l.database
    × (l.fn.progress ≡ false → g.E.Write.contents l.errors ≡ g.E.Write.contents l.fn.errors)
