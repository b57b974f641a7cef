use Rattle.std.proofs.Common.{refl}
use Rattle.race.proofs.racing.commit_each.Goals as goal

pub returns : goal.returns
returns g c = (c.in_ok-run.field-0.1, (record { commands = c.args.commands }, refl, (c.run.new.body, c.in_ok-run.ensures.run)))
