use Rattle.std.proofs.Common.{◌≤◌, ◌-◌}
use Rattle.journal.specs.Device.{Reads}
use Rattle.journal.proofs.Replays.{SoFar}
use Rattle.journal.proofs.recovery.replay.Given as goal

abbrev pub invariant-loop-batch : goal.invariant-loop-batch
invariant-loop-batch g l =
    let d = g.D.Device in
    record {
      so_far : SoFar (d.seen l.fn.device) l.at (g.S.Sink.took l.fn.sink) (g.S.Sink.took l.sink);
      within : l.at ≤ l.len;
      reads : Reads d.seen d.may_leave d.moment d.left_since l.fn.device l.device;
      faults : d.faults l.fn.device ≤ d.faults l.device;
    }

abbrev pub decreases-loop-batch : goal.decreases-loop-batch
decreases-loop-batch g l = l.len - l.at
