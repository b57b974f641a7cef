use Rattle.std.proofs.Common.{sym, ◌∙◌}
use Rattle.logged_schedule.proofs.Places.{put_back}
use Rattle.logged_schedule.proofs.following.Following.accept.Goals as goal

pub returns-in_ok-after-in-Some-clause-there : goal.returns-in_ok-after-in-Some-clause-there
returns-in_ok-after-in-Some-clause-there c = λ within.
    put_back c.args.self.now.places.items c.take.new.self.places.items c.set.new.self.places.items c.args.client c.args.command.now c.in-Some.changing c.in_ok-after-in-Some.after (c.take.ensures.there within) (c.set.ensures.there within)
    (sym c.in-Some.is ∙ c.take.ensures.taken within) c.in_ok-after-in-Some.ensures
