-- What is followed beside a schedule.
use Rattle.std.specs.Prelude.{◌≡◌, List, ◌∷◌, map}
use Rattle.schedule.specs.declared.reply.Reply.{Reply}
use Rattle.schedule.specs.declared.step.Step.{Step}
use Rattle.schedule.specs.Past.{Past}
use Rattle.command_log.specs.declared.entry.Entry.{Entry}
use Rattle.logged_schedule.specs.declared.following.Following.{Following}
use Rattle.logged_schedule.specs.Entries.{logged_as, newly_logged, waiting_in}
use Rattle.logged_schedule.specs.Following.{AreOpen}

-- of each client's open transaction it is kept what was changed, and what waits is kept as it will be logged
pub record IsFollowed (past : Past) (following : Following) : Type 0 where
  pub places : AreOpen past following.places.items
  pub waiting : following.waiting.items ≡ map logged_as (waiting_in past)

-- Private: a step was followed, and the entries of what it committed were told
pub record DoesFollow (past : Past) (step : Step) (reply : Reply) (told : List Entry) (following : Following) :
    Type 0 where
  pub told_so : told ≡ newly_logged past step reply
  pub follows : IsFollowed ((step, reply) ∷ past) following
