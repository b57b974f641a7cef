-- What is seen of a database.
use Rattle.schedule.specs.Stepwise.{StepwiseState}
use Rattle.logged_schedule.specs.Standing.{schedule_of}
use Rattle.shell.specs.declared.database.Held.{Held}
use Rattle.shell.specs.declared.database.Held.TheVariants.{Passing, Logged}

-- the schedule after the steps so far
abbrev pub held_state : Held → StepwiseState
held_state (Passing schedule) = schedule
held_state (Logged schedule) = schedule_of schedule
