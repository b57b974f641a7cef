use Rattle.std.proofs.Common.{ℕ, List, ◌++◌, ◌+◌, ◌^◌, ◌≤◌, ap, length, refl, subst, subst₂, sym}
use Rattle.std.specs.Prelude.{Vec}
use Rattle.std.specs.declared.alloc.Global.{Global}
use Rattle.journal.specs.Block.{StandsFor}
use Rattle.journal.specs.Device.{LeavesOnly}
use Rattle.journal.specs.Form.{blocks}
use Rattle.journal.specs.Journal.{IsBeforeOrAfter, entries_read}
use Rattle.journal.specs.Standing.{device_of}
use Rattle.replay.specs.Replaying.{log_bytes}
use Rattle.logged_schedule.specs.Keeping.{HasAllOrNone, IsWithoutAnswer}
use Rattle.logged_schedule.proofs.Logs.{leaves_batch}
use Rattle.logged_schedule.proofs.Stepping.{kept_step, unanswered}
use Rattle.logged_schedule.proofs.logged.LoggedSchedule.step.Goals as goal

pub returns-in-Ok-append-clause-kept : goal.returns-in-Ok-append-clause-kept
returns-in-Ok-append-clause-kept g c = λ run entries keeps.
    let d = g.D.Device in
    let old = device_of c.args.self.journal in
    let new = device_of c.append.new.self in
    kept_step d.seen d.may_leave d.moment d.left_since run entries c.args.step.now c.in-Ok.answer c.args.self _ keeps c.in-Ok.ensures refl
    (subst (λ (b : List (Vec ℕ Global)). StandsFor (d.seen new) (entries_read (d.seen old) ++ log_bytes b)) c.as_slice.ensures.value c.in-Ok-append.ensures.acknowledged) c.in-Ok-append.ensures.durable
    (subst (λ (b : List (Vec ℕ Global)). LeavesOnly d.moment d.left_since old new (IsBeforeOrAfter (entries_read (d.seen old)) (log_bytes b))) c.as_slice.ensures.value (c.append.ensures.any_moment c.args.self.journal_open))

pub returns-in-Err-clause-stopped : goal.returns-in-Err-clause-stopped
returns-in-Err-clause-stopped g c = λ run entries keeps.
    let d = g.D.Device in
    let old = device_of c.args.self.journal in
    let new = device_of c.append.new.self in
    subst₂ (λ error device. IsWithoutAnswer d.seen d.moment d.left_since run entries c.args.step.now error c.args.self device) (sym c.from.ensures) (sym c.into_device-in-Err.ensures)
    (unanswered d.seen d.moment d.left_since (HasAllOrNone entries) run c.args.step.now c.args.self.followed c.in-Ok.answer old new c.append.result c.in-Err.error c.in-Err.is keeps.done c.in-Ok.ensures
    (λ is. ap device_of (c.append.ensures.memory is)) (λ is. ap device_of (c.append.ensures.full is))
    (λ is. subst (λ (b : List (Vec ℕ Global)). 2 ^ 63 ≤ length (d.seen old) + length (blocks (log_bytes b))) c.as_slice.ensures.value (c.append.ensures.no_room c.args.self.journal_open is))
    (λ others written. leaves_batch d.seen d.may_leave d.moment d.left_since entries others (log_bytes c.in-Ok.answer.batch.items) old new keeps.disk written
    (subst (λ (b : List (Vec ℕ Global)). LeavesOnly d.moment d.left_since old new (IsBeforeOrAfter (entries_read (d.seen old)) (log_bytes b))) c.as_slice.ensures.value (c.append.ensures.any_moment c.args.self.journal_open))))
