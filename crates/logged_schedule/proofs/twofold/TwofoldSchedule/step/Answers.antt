use Rattle.std.proofs.Common.{◌∙◌, ℕ, List, ◌++◌, ◌+◌, ◌^◌, ◌≤◌, ap, length, refl, subst, subst₂, sym}
use Rattle.std.specs.Prelude.{Vec}
use Rattle.std.specs.declared.alloc.Global.{Global}
use Rattle.journal.specs.Block.{StandsFor}
use Rattle.journal.specs.Device.{LeavesOnly, Only}
use Rattle.journal.specs.Form.{blocks}
use Rattle.journal.specs.Journal.{IsBeforeOrAfter, entries_read}
use Rattle.journal.specs.Standing.{device_of}
use Rattle.replay.specs.Replaying.{log_bytes}
use Rattle.schedule.specs.Stepwise.{DoesNext}
use Rattle.logged_schedule.specs.declared.followed.Followed.{Followed}
use Rattle.logged_schedule.specs.Twofold.{HaveAllOrNone, IsWithoutAnswerTwo, checkpoints_of, image_after, current_device, other_device}
use Rattle.logged_schedule.proofs.Stepping.{unanswered}
use Rattle.logged_schedule.proofs.TwoFiles.{kept_step_two, leaves_two}
use Rattle.logged_schedule.proofs.twofold.TwofoldSchedule.step.Goals as goal

pub returns-in-Ok-append-clause-next : goal.returns-in-Ok-append-clause-next
returns-in-Ok-append-clause-next g c = subst (λ (f : Followed). DoesNext c.args.step.now c.in-Ok.answer.reply c.args.self.followed.schedule f.schedule) (sym c.of-two.ensures.followed) c.in-Ok.ensures.answered

pub returns-in-Ok-append-clause-kept : goal.returns-in-Ok-append-clause-kept
returns-in-Ok-append-clause-kept g c = λ run entries keeps.
    let d = g.D.Device in
    let old = device_of c.args.self.log in
    let new = device_of c.append.new.self in
    kept_step_two d.seen d.may_leave d.moment d.left_since run entries c.args.step.now c.in-Ok.answer c.args.self c.of-two.result keeps c.in-Ok.ensures c.of-two.ensures.followed c.of-two.ensures.generation c.of-two.ensures.spare
    (c.of-two.ensures.last ∙ c.unwrap_or-last.ensures)
    (subst₂ (λ (b : List (Vec ℕ Global)) n. StandsFor (d.seen n) (entries_read (d.seen old) ++ log_bytes b)) c.as_slice.ensures.value (sym c.of-two.ensures.log) c.in-Ok-append.ensures.acknowledged) (subst (λ n. Only (d.seen n) (d.may_leave n)) (sym c.of-two.ensures.log) c.in-Ok-append.ensures.durable)
    (subst₂ (λ (b : List (Vec ℕ Global)) n. LeavesOnly d.moment d.left_since old n (IsBeforeOrAfter (entries_read (d.seen old)) (log_bytes b))) c.as_slice.ensures.value (sym c.of-two.ensures.log) (c.append.ensures.any_moment c.args.self.log_open))

pub returns-clause-stopped : goal.returns-clause-stopped
returns-clause-stopped g c = λ run entries keeps.
    let d = g.D.Device in
    let old = device_of c.args.self.log in
    let new = device_of c.append.new.self in
    subst₂ (λ error device. IsWithoutAnswerTwo d.seen d.moment d.left_since run entries c.args.step.now error c.args.self device) (sym c.from.ensures) (sym c.into_device-in-Err.ensures)
    (unanswered d.seen d.moment d.left_since (HaveAllOrNone entries (d.seen (other_device c.args.self))) run c.args.step.now c.args.self.followed c.in-Ok.answer old new c.append.result c.in-Err.error c.in-Err.is keeps.done c.in-Ok.ensures
    (λ is. ap device_of (c.append.ensures.memory is)) (λ is. ap device_of (c.append.ensures.full is))
    (λ is. subst (λ (b : List (Vec ℕ Global)). 2 ^ 63 ≤ length (d.seen old) + length (blocks (log_bytes b))) c.as_slice.ensures.value (c.append.ensures.no_room c.args.self.log_open is))
    (λ others written. leaves_two d.seen d.may_leave d.moment d.left_since entries others (checkpoints_of c.args.self) old new (other_device c.args.self) (image_after entries) (log_bytes c.in-Ok.answer.batch.items) keeps.history written
    (subst (λ (b : List (Vec ℕ Global)). LeavesOnly d.moment d.left_since old new (IsBeforeOrAfter (entries_read (d.seen old)) (log_bytes b))) c.as_slice.ensures.value (c.append.ensures.any_moment c.args.self.log_open))))
