use Rattle.std.proofs.Common.{◌≡◌, ◌+◌, ◌-◌, ◌≤◌, drop}
use Rattle.journal.specs.Device.{Reads}
use Rattle.journal.specs.Form.{nonzeros}
use Rattle.journal.proofs.recovery.count_from.Given as goal

abbrev pub invariant-loop-at : goal.invariant-loop-at
invariant-loop-at g l =
    let d = g.D.Device in
    record {
      so_far : l.count + nonzeros (drop l.at (d.seen l.fn.device)) ≡ nonzeros (drop l.from (d.seen l.fn.device));
      reads : Reads d.seen d.may_leave d.moment d.left_since l.fn.device l.device;
      faults : d.faults l.fn.device ≤ d.faults l.device;
    }

abbrev pub decreases-loop-at : goal.decreases-loop-at
decreases-loop-at g l = l.len - l.at
