-- What is kept of clients' open transactions, by the steps of a schedule and what they replied.
use Rattle.std.specs.Prelude.{◌≡◌, ◌<◌, ℕ, List, [], ◌∷◌, ◌++◌, Option, Some, None, get_or}
use Rattle.std.specs.Option.{option_map}
use Rattle.schedule.specs.declared.reply.Reply.{Reply}
use Rattle.schedule.specs.declared.reply.Reply.TheVariants.{Submitted}
use Rattle.schedule.specs.declared.step.Command.{Command}
use Rattle.schedule.specs.declared.step.Step.{Step}
use Rattle.schedule.specs.declared.step.Step.TheVariants.{Commit}
use Rattle.schedule.specs.declared.step.TheConstants.{CLIENTS}
use Rattle.schedule.specs.Past.{Open, Past, accepted, open_of}
use Rattle.command_log.specs.declared.change.Change.{Change}
use Rattle.command_log.specs.declared.entry.Entry.{Entry}
use Rattle.logged_schedule.specs.Entries.{logged_changes}

-- the store of an open transaction, and what was changed in it
abbrev pub Changed : Type 0
Changed = ℕ × List Change

abbrev pub changed_in : Open → Changed
changed_in transaction = (transaction.store, logged_changes (accepted transaction.attempts))

-- of each client's open transaction it is kept what was changed
abbrev pub AreOpen : Past → List (Option Changed) → Type 0
AreOpen past opens =
    (client : ℕ) → client < CLIENTS → get_or opens client None ≡ option_map changed_in (open_of client past)

-- Private: what is kept of an open transaction after one more accepted command
abbrev pub changed_further : Command → Option Changed → Option Changed
changed_further command before = option_map (λ (c : Changed). (c.0, c.1 ++ logged_changes (command ∷ []))) before

-- Private: the entry of an open transaction that a client's commit submits, where the reply says so
abbrev pub entries_by : ℕ → Reply → Option Changed → List Entry
entries_by client (Submitted version) (Some changed) =
    record { version = version; client = client; number = version; store = changed.0; changes = changed.1 } ∷ []
entries_by client reply before = []

-- Private: nothing is submitted of a client that there isn't
abbrev pub SubmitsOfClients : Step → Reply → Type 0
SubmitsOfClients step reply =
    (client version : ℕ) → step ≡ Commit client → reply ≡ Submitted version → client < CLIENTS
