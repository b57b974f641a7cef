use Rattle.std.proofs.Common.{◌∙◌, ◌++◌, ap}
use Rattle.journal.specs.Journal.{entries_read}
use Rattle.journal.specs.Sinks.{kept_entries}
use Rattle.journal.specs.Standing.{device_of}
use Rattle.logged_schedule.proofs.Stepping.{reopened}
use Rattle.logged_schedule.proofs.opening.open.Goals as goal

pub returns-in-Ok-begun_again-clause-opened : goal.returns-in-Ok-begun_again-clause-opened
returns-in-Ok-begun_again-clause-opened g c =
    let d = g.D.Device in
    let again = c.in-Ok-begun_again in
    reopened d.seen d.may_leave d.moment d.left_since c.args.config (d.seen c.args.device) (kept_entries c.recover.new.sink) c.of.result again.followed (device_of c.in-Ok.journal) c.in-Ok.ensures.whole
    (c.in-Ok.ensures.took ∙ ap (λ es. es ++ entries_read (d.seen c.args.device)) c.new-kept.ensures) c.in-Ok.ensures.same c.in-Ok.ensures.durable again.ensures.done c.of.ensures.followed c.of.ensures.device
