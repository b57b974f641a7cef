-- Private: what is made of a step before it is logged and answered.
use Rattle.std.specs.Prelude.{◌≡◌, ℕ, unwrap_or}
use Rattle.schedule.specs.declared.reply.Reply.{Reply}
use Rattle.schedule.specs.declared.step.Step.{Step}
use Rattle.schedule.specs.Stepwise.{DoesNext}
use Rattle.replay.specs.Logged.{last_version}
use Rattle.replay.specs.Replaying.{AreWrittenAs, log_bytes}
use Rattle.logged_schedule.specs.declared.followed.Followed.{Followed}
use Rattle.logged_schedule.specs.declared.logged.Answer.{Answer}
use Rattle.logged_schedule.specs.Entries.{newly_logged}
use Rattle.logged_schedule.specs.Runs.{Run, done_as, past_in, told_as, with_step}
use Rattle.logged_schedule.specs.Standing.{HasFollowed}

-- Private: whatever run was done before, the step was done after it, and these are the bytes of what it committed, and
-- the last version of that
pub record IsStepAnswer (step : Step) (before : Followed) (answer : Answer) : Type 0 where
  pub reply : Reply
  pub told : answer.reply ≡ told_as step reply
  pub next : DoesNext (done_as step) reply before.schedule answer.followed.schedule
  pub answered : DoesNext step answer.reply before.schedule answer.followed.schedule
  pub follows : (run : Run) → HasFollowed run before → HasFollowed (with_step run (done_as step) reply) answer.followed
  pub written :
      (run : Run) → HasFollowed run before →
      AreWrittenAs (log_bytes answer.batch.items) (newly_logged (past_in run) (done_as step) reply)
  pub last :
      (run : Run) → HasFollowed run before → (version : ℕ) →
      last_version version (newly_logged (past_in run) (done_as step) reply) ≡ unwrap_or answer.last version
