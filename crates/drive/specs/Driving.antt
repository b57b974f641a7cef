-- What commands come to that a host has performed over what it read of a database of its own.
use Rattle.std.specs.Prelude.{◌≡◌, ℕ, List, [], ◌∷◌, Contains}
use Rattle.std.specs.List.{AllByRecursion}
use Rattle.kv_core.specs.Range.{KeyRange}
use Rattle.kv_core.specs.Map.{Map, Agree}
use Rattle.kv_core.specs.declared.change.CommitRequest.{CommitRequest}
use Rattle.kv_core.specs.declared.change.Mutation.{Mutation}
use Rattle.schedule.specs.declared.step.Command.{Command}
use Rattle.schedule.specs.declared.reply.Reply.{Reply}
use Rattle.schedule.specs.Past.{Attempt}
use Rattle.schedule.specs.Performed.{IsPerformed}
use Rattle.schedule.specs.Turns.{AreDone}
use Rattle.drive.specs.Wanted.{AreWithin, IsNeeded, IsUncovered}
use Rattle.drive.specs.declared.wanted.Want.{Want}
use Rattle.drive.specs.declared.given.Given.{Given}
use Rattle.drive.specs.declared.answering.Driven.{Driven}
use Rattle.drive.specs.declared.answering.Driven.TheVariants.{Wants, Done}

-- a host's database has one store, that of this number
abbrev pub host_store : ℕ
host_store = 1

-- each of these commands with its reply
abbrev pub attempts_at : List Command → List Reply → List Attempt
attempts_at (command ∷ commands) (reply ∷ replies) =
    record { command = command; reply = reply } ∷ attempts_at commands replies
attempts_at commands replies = []

-- the commands were performed in turn with these replies, and no read was refused
abbrev pub ArePerformed : (ℕ → Map) → List Command → List Reply → CommitRequest → CommitRequest → Type 0
ArePerformed maps [] [] old new = old ≡ new
ArePerformed maps (command ∷ commands) (reply ∷ replies) old new =
    (mid : CommitRequest) × IsPerformed host_store maps (λ range error. ⊥) command reply old mid
    × ArePerformed maps commands replies mid new
ArePerformed maps commands replies old new = ⊥

-- a transaction at this version that has written this, and has read nothing since
abbrev pub resumed : ℕ → List Mutation → CommitRequest
resumed version written = record { read_version = version; reads = []; mutations = written }

-- the commands have these replies, and make this of a transaction that has written what is given, over every database
-- that has just the given pairs in what is covered at the version, as they do in an open transaction over it; and what
-- they read lies in what is covered
pub record IsHostAnswered (version : ℕ) (covered : List KeyRange) (pairs : Map) (written : List Mutation)
    (commands : List Command) (replies : List Reply) (request : CommitRequest) : Type 0 where
  pub within : AreWithin covered request.reads
  pub performed :
      (maps : ℕ → Map) → Agree covered pairs (maps version) →
      ArePerformed maps commands replies (resumed version written) request
  pub done :
      (maps : ℕ → Map) → Agree covered pairs (maps version) →
      AreDone host_store maps (attempts_at commands replies) (resumed version written) request

-- ranges are wanted that aren't covered where they are to be read from; the commands, over the given pairs as if there
-- were no others, read a range that isn't covered, and one of those that are wanted begins with what is left of it
pub record IsHostAsked (version : ℕ) (covered : List KeyRange) (pairs : Map) (written : List Mutation)
    (commands : List Command) (wants : List Want) : Type 0 where
  pub wanted : AllByRecursion (IsUncovered covered) wants
  pub replies : List Reply
  pub request : CommitRequest
  pub performed : ArePerformed (λ v. pairs) commands replies (resumed version written) request
  pub want : Want
  pub among : Contains wants want
  pub needed : IsNeeded covered request.reads want

-- a call is answered, or wants ranges that aren't covered
abbrev pub IsDriven : Given → Driven → Type 0
IsDriven given (Wants wants) =
    IsHostAsked given.version given.covered given.pairs given.written.items given.commands.items wants.items
IsDriven given (Done answer) =
    IsHostAnswered given.version given.covered given.pairs given.written.items given.commands.items answer.replies.items
    answer.request
