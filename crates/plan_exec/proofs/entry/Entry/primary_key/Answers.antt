use Rattle.plan_exec.proofs.EntryPacks.{end_cells, end_packed}
use Rattle.plan_exec.proofs.entry.Entry.primary_key.Goals as goal

pub returns-clause-packed : goal.returns-clause-packed
returns-clause-packed c = end_packed c.self.inside.key c.self.inside.at c.self.invariant c.args.self.now c.self.view_is c.as_slice.result.now c.as_slice.ensures

pub returns-clause-cells : goal.returns-clause-cells
returns-clause-cells c = end_cells c.self.inside.key c.self.inside.at c.self.invariant c.args.self.now c.self.view_is
