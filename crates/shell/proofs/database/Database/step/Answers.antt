use Rattle.std.proofs.Common.{◌∙◌, ap, sym, subst}
use Rattle.logged_schedule.specs.Standing.{schedule_of}
use Rattle.schedule.specs.Stepwise.{DoesNext}
use Rattle.shell.specs.Held.{held_state}
use Rattle.shell.proofs.database.Database.step.Goals as goal

pub returns-in_ok-schedule-in-Passing : goal.returns-in_ok-schedule-in-Passing
returns-in_ok-schedule-in-Passing c =
    subst (λ before. DoesNext c.args.step.now c.in_ok-schedule-in-Passing.reply before c.in_ok-schedule-in-Passing.schedule) (c.in-Passing.schedule-is ∙ sym (ap held_state c.in-Passing.is) ∙ c.self.view_is)
    c.in_ok-schedule-in-Passing.ensures

pub returns-in-Ok : goal.returns-in-Ok
returns-in-Ok c =
    subst (λ before. DoesNext c.args.step.now c.in-Ok.reply before c.in-Ok.schedule.followed.schedule) (ap schedule_of c.in-Logged.schedule-is ∙ sym (ap held_state c.in-Logged.is) ∙ c.self.view_is) c.in-Ok.ensures.next
