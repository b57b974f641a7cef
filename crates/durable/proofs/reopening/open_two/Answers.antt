use Rattle.std.proofs.Common.{◌++◌, ap, ◌∙◌}
use Rattle.journal.specs.Journal.{entries_read}
use Rattle.journal.specs.Standing.{device_of}
use Rattle.journal.specs.Words.{bytes_of_each}
use Rattle.durable.proofs.Reopened.{all_opened, all_refused}
use Rattle.durable.proofs.reopening.open_two.Goals as goal

pub returns-clause-opened : goal.returns-clause-opened
returns-clause-opened g c =
    let d = g.D.Device in
    let one = c.args.first in
    let two = c.args.second in
    all_opened (device_of c.in-Ok.journal) (device_of c.in-Ok-recover.journal) (bytes_of_each c.entries.result.now) (bytes_of_each c.entries-2.result.now) d.seen d.may_leave (d.seen one) (d.seen two) c.between.result
    (c.entries.ensures ∙ c.in-Ok.ensures.took ∙ ap (λ l. l ++ entries_read (d.seen one)) c.new-one.ensures) (c.entries-2.ensures ∙ c.in-Ok-recover.ensures.took ∙ ap (λ l. l ++ entries_read (d.seen two)) c.new-two.ensures)
    c.in-Ok.ensures.same c.in-Ok-recover.ensures.same c.in-Ok.ensures.durable c.in-Ok-recover.ensures.durable c.between.ensures.chosen

pub returns-clause-refused : goal.returns-clause-refused
returns-clause-refused g c =
    let d = g.D.Device in
    let one = c.args.first in
    let two = c.args.second in
    all_refused (device_of c.in-Ok.journal) (device_of c.in-Ok-recover.journal) (bytes_of_each c.entries.result.now) (bytes_of_each c.entries-2.result.now) d.faults (d.faults one) (d.faults two) (d.seen one) (d.seen two) c.between.result
    (c.entries.ensures ∙ c.in-Ok.ensures.took ∙ ap (λ l. l ++ entries_read (d.seen one)) c.new-one.ensures) (c.entries-2.ensures ∙ c.in-Ok-recover.ensures.took ∙ ap (λ l. l ++ entries_read (d.seen two)) c.new-two.ensures)
    c.between.ensures.refused
