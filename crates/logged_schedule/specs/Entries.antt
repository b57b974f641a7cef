-- What a schedule logs, by its steps and what they replied.
use Rattle.std.specs.Prelude.{List, [], ◌∷◌, ◌++◌, drop, filter_map, length, map}
use Rattle.schedule.specs.declared.reply.Reply.{Reply}
use Rattle.schedule.specs.declared.reply.Reply.TheVariants.{Reported}
use Rattle.schedule.specs.declared.reply.Report.{Report}
use Rattle.schedule.specs.declared.reply.Report.TheVariants.{Committed}
use Rattle.schedule.specs.declared.step.Command.{Command}
use Rattle.schedule.specs.declared.step.Step.{Step}
use Rattle.schedule.specs.declared.step.Step.TheVariants as steps
use Rattle.schedule.specs.Past.{Past, Submission, accepted, submitted_after}
use Rattle.command_log.specs.declared.change.Change.{Change}
use Rattle.command_log.specs.declared.entry.Entry.{Entry}
use Rattle.replay.specs.Commands.{change_of}

-- the changes among commands, in order
abbrev pub logged_changes : List Command → List Change
logged_changes commands = filter_map change_of commands

-- the entry of a submission, whose number is the version that its client was told
abbrev pub logged_as : Submission → Entry
logged_as one =
    record {
      version = one.version;
      client = one.client;
      number = one.version;
      store = one.transaction.store;
      changes = logged_changes (accepted one.transaction.attempts);
    }

-- the reports of a reply, which has some where the step is one that reports
abbrev pub reports_in : Step → Reply → List Report
reports_in steps.Report (Reported reports) = reports
reports_in steps.Lost (Reported reports) = reports
reports_in steps.Settle (Reported reports) = reports
reports_in step reply = []

-- of those that wait, the first of which the first report tells, and so on: those that are told to be committed
abbrev pub told_first : {X : Type 0} → List Report → List X → List X
told_first (Committed client version ∷ reports) (one ∷ waiting) = one ∷ told_first reports waiting
told_first (report ∷ reports) (one ∷ waiting) = told_first reports waiting
told_first reports waiting = []

-- what was submitted and isn't reported yet, in the order of versions
abbrev pub waiting_in : Past → List Submission
waiting_in [] = []
waiting_in (event ∷ past) =
    submitted_after event.0 event.1 past (drop (length (reports_in event.0 event.1)) (waiting_in past))

-- the entries of what the reply to a step tells to be committed
abbrev pub newly_logged : Past → Step → Reply → List Entry
newly_logged past step reply = map logged_as (told_first (reports_in step reply) (waiting_in past))

-- LOGGED: the entries of all that is told to be committed, in the order of versions
abbrev pub logged_in : Past → List Entry
logged_in [] = []
logged_in (event ∷ past) = logged_in past ++ newly_logged past event.0 event.1
