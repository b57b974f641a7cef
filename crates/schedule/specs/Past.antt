-- What the steps so far and their replies say of each client: its open transaction, and what it submitted.
use Rattle.std.specs.Prelude.{ℕ, Bool, true, false, List, [], ◌∷◌, ◌++◌}
use Rattle.std.specs.Prelude.{Option, Some, None, ◌==◌, if◌then◌else◌, map, filter}
use Rattle.std.specs.List.{list_any}
use Rattle.std.specs.Option.{option_map}
use Rattle.schedule.specs.declared.step.Command.{Command}
use Rattle.schedule.specs.declared.step.Step.{Step}
use Rattle.schedule.specs.declared.step.Step.TheVariants.{Begin, Perform, Commit, Abandon}
use Rattle.schedule.specs.declared.step.Command.TheVariants.{Execute}
use Rattle.schedule.specs.declared.step.Step.TheVariants as steps
use Rattle.schedule.specs.declared.reply.Reply.{Reply}
use Rattle.schedule.specs.declared.reply.Reply.TheVariants.{Begun, Built, Corrupt, Done, Indexed, Planned, Refused}
use Rattle.schedule.specs.declared.reply.Reply.TheVariants.{Removed, SavedNew, SavedOver, Stopped, Submitted}
use Rattle.planner.specs.Asked.{AskedPlan}

-- the steps so far with their replies, the newest first
abbrev pub Past : Type 0
Past = List (Step × Reply)

-- a command that was performed in a transaction, and its reply
pub record Attempt : Type 0 where
  pub command : Command
  pub reply : Reply

-- an open transaction: the number of its store, its read version, and the commands performed in it, in order
pub record Open : Type 0 where
  pub store : ℕ
  pub read_version : ℕ
  pub attempts : List Attempt

-- the reply accepts its command
abbrev pub is_accepted : Reply → Bool
is_accepted (Refused refusal) = false
is_accepted (Corrupt key) = false
is_accepted Stopped = false
is_accepted reply = true

-- the commands that were accepted, in order
abbrev pub accepted : List Attempt → List Command
accepted attempts = map (λ attempt. attempt.command) (filter (λ attempt. is_accepted attempt.reply) attempts)

-- the reply to a command tells that it changed something
abbrev pub tells_change : Reply → Bool
tells_change Done = true
tells_change SavedNew = true
tells_change (SavedOver cells) = true
tells_change Removed = true
tells_change (Indexed state) = true
tells_change (Built records range) = true
tells_change reply = false

-- a command changed something
abbrev pub is_changed : List Attempt → Bool
is_changed attempts = list_any (λ attempt. tells_change attempt.reply) attempts

-- an open transaction with one more command performed
abbrev pub grown : Attempt → Option Open → Option Open
grown attempt before =
    option_map (λ (open_now : Open). record open_now { attempts = open_now.attempts ++ attempt ∷ [] }) before

-- the plan that a client keeps after one more step: that of its last command that was planned
abbrev pub kept_after : ℕ → Step → Reply → Option AskedPlan → Option AskedPlan
kept_after client (Perform who command) (Planned plan) before = if who == client then Some plan else before
kept_after client step reply before = before

abbrev pub kept_plan : ℕ → Past → Option AskedPlan
kept_plan client [] = None
kept_plan client (event ∷ past) = kept_after client event.0 event.1 (kept_plan client past)

-- executing the plan that is kept is the command with this plan
abbrev pub execution : ℕ → Option AskedPlan → Step
execution client None = steps.Execute client
execution client (Some plan) = Perform client (Execute plan)

abbrev pub resolved : Past → Step → Step
resolved past (steps.Execute client) = execution client (kept_plan client past)
resolved past step = step

-- a client's open transaction after one more step
abbrev pub open_after : ℕ → Step → Reply → Option Open → Option Open
open_after client (Begin who store) (Begun version) before =
    if who == client then Some (record { store = store; read_version = version; attempts = [] }) else before
open_after client (Perform who command) reply before =
    if who == client then grown (record { command = command; reply = reply }) before else before
open_after client (Commit who) reply before = if who == client then None else before
open_after client (Abandon who) Done before = if who == client then None else before
open_after client step reply before = before

-- a client's open transaction
abbrev pub open_of : ℕ → Past → Option Open
open_of client [] = None
open_of client (event ∷ past) = open_after client (resolved past event.0) event.1 (open_of client past)

-- a submitted transaction: its version, who submitted it, and the transaction as it was open
pub record Submission : Type 0 where
  pub version : ℕ
  pub client : ℕ
  pub transaction : Open

-- a submission of an open transaction
abbrev pub submission : ℕ → ℕ → Option Open → List Submission
submission client version None = []
submission client version (Some open_now) = record { version = version; client = client; transaction = open_now } ∷ []

-- submissions with what one more step submits
abbrev pub submitted_after : Step → Reply → Past → List Submission → List Submission
submitted_after (Commit client) (Submitted version) past before =
    before ++ submission client version (open_of client past)
submitted_after step reply past before = before

-- what was submitted, in version order
abbrev pub submitted_in : Past → List Submission
submitted_in [] = []
submitted_in (event ∷ past) = submitted_after event.0 event.1 past (submitted_in past)
