use Rattle.std.proofs.Common.{rules, ◌≡◌, true, ℕ, List, subst, sym}
use Rattle.journal.specs.Standing.{device_of, is_open}
use Rattle.journal.specs.Words.{bytes_of_each}
use Rattle.replay.specs.Replaying.{AreWrittenAs}
use Rattle.commit_log.proofs.Batches.{appended, leaves_batch}
use Rattle.commit_log.proofs.device_log.DeviceLogEnd.keep.Goals as goal

pub returns-in-Ok-append-clause-kept : goal.returns-in-Ok-append-clause-kept
returns-in-Ok-append-clause-kept g c before has =
    let d = g.D.Device in
    let batch : List (List ℕ) = bytes_of_each c.as_slice.result.now in
    let are : AreWrittenAs batch c.args.entries.now = subst (λ b. AreWrittenAs (bytes_of_each b) c.args.entries.now) (sym c.as_slice.ensures.value) c.in-Ok.ensures in
    appended d.seen d.may_leave d.moment d.left_since before c.args.entries.now batch (device_of c.args.self.now.journal) (device_of c.append.new.self) has are c.in-Ok-append.ensures.acknowledged c.in-Ok-append.ensures.durable

pub returns-in-Ok-append-clause-any_moment : goal.returns-in-Ok-append-clause-any_moment
returns-in-Ok-append-clause-any_moment g c before has =
    let d = g.D.Device in
    let batch : List (List ℕ) = bytes_of_each c.as_slice.result.now in
    let are : AreWrittenAs batch c.args.entries.now = subst (λ b. AreWrittenAs (bytes_of_each b) c.args.entries.now) (sym c.as_slice.ensures.value) c.in-Ok.ensures in
    let takes : is_open c.args.self.now.journal ≡ true = search rules in
    let run = leaves_batch d.seen d.may_leave d.moment d.left_since before c.args.entries.now batch (device_of c.args.self.now.journal) (device_of c.append.new.self) has are (c.append.ensures.any_moment takes) in
    record { later = run.later; each = run.each; before = run.before }

pub returns-clause-any_moment : goal.returns-clause-any_moment
returns-clause-any_moment g c before has =
    let d = g.D.Device in
    let batch : List (List ℕ) = bytes_of_each c.as_slice.result.now in
    let are : AreWrittenAs batch c.args.entries.now = subst (λ b. AreWrittenAs (bytes_of_each b) c.args.entries.now) (sym c.as_slice.ensures.value) c.in-Ok.ensures in
    let takes : is_open c.args.self.now.journal ≡ true = search rules in
    let run = leaves_batch d.seen d.may_leave d.moment d.left_since before c.args.entries.now batch (device_of c.args.self.now.journal) (device_of c.append.new.self) has are (c.append.ensures.any_moment takes) in
    record { later = run.later; each = run.each; before = run.before }
