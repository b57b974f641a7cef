-- What a transaction does: its store, the commands that it performed, and the changes among them.
use Rattle.std.specs.Prelude.{ℕ, List, [], ◌∷◌, ◌++◌, map, if◌then◌else◌}
use Rattle.std.specs.List.{filter_map}
use Rattle.std.specs.Option.{option_to_list}
use Rattle.kv_core.specs.declared.change.CommitRequest.{CommitRequest}
use Rattle.command_log.specs.declared.change.Change.{Change}
use Rattle.replay.specs.Commands.{change_of}
use Rattle.schedule.specs.Past.{Attempt, Open, accepted, is_accepted}
use Rattle.runtime.specs.declared.performed.Attempts.{Attempts}
use Rattle.runtime.specs.declared.performed.Performed.{Performed}

-- the number of a transaction's store, and the commands that it performed
pub record Trace : Type 0 where
  pub store : ℕ
  pub attempts : Attempts

-- with one command more
abbrev pub with_performed : Trace → Performed → Trace
with_performed trace one =
    record { store = trace.store; attempts = record { list = trace.attempts.list ++ one ∷ [] } }

-- the commands that a transaction performed, as a schedule has them
abbrev pub attempts_of : List Performed → List Attempt
attempts_of done = map (λ one. record { command = one.command; reply = one.reply }) done

-- the transaction of a request
abbrev pub opened : CommitRequest → Trace → Open
opened request trace =
    record { store = trace.store; read_version = request.read_version; attempts = attempts_of trace.attempts.list }

-- the changes among the accepted ones of the commands that were performed, in order
abbrev pub changes_of : List Performed → List Change
changes_of done = filter_map change_of (accepted (attempts_of done))

-- Private: the change that one command more is: none where it isn't accepted, or only looks
abbrev pub change_of_one : Performed → List Change
change_of_one one = if is_accepted one.reply then option_to_list (change_of one.command) else []
