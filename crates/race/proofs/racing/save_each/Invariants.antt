use Rattle.std.proofs.Common.{drop}
use Rattle.runtime.specs.Clients.{Knowledge}
use Rattle.race.specs.Runs.{SavesEach}
use Rattle.race.proofs.racing.save_each.Given as goal

abbrev pub invariant-loop-cells : goal.invariant-loop-cells
invariant-loop-cells g l =
    (end : Knowledge) → SavesEach l.record_type (drop l.cells-index l.rows) l.client end → SavesEach l.record_type l.rows l.initial.client end
