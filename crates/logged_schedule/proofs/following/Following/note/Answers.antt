use Rattle.std.proofs.Common.{◌∙◌, ap, drop, length}
use Rattle.logged_schedule.specs.Entries.{told_first}
use Rattle.logged_schedule.proofs.Waiting.{noted}
use Rattle.logged_schedule.proofs.following.Following.note.Goals as goal

pub returns : goal.returns
returns c = λ past follows of.
    let old = c.args.self.now in
    let mid = c.take_reported.new.self in
    noted past c.args.step.now c.args.reply.now old c.note_client.new.self mid.places.items mid.waiting.items c.in_ok-told.told.items follows of
    (c.in_ok-told.ensures.told ∙ ap (λ reports. told_first reports old.waiting.items) c.reports_in.ensures) (c.in_ok-told.ensures.others ∙ ap (λ reports. drop (length reports) old.waiting.items) c.reports_in.ensures) c.in_ok-told.ensures.places
    (c.in_ok-note_client.ensures.places past) (c.in_ok-note_client.ensures.waiting past)
