-- Private: what the clients of a race do, and what its builder does.
use Rattle.std.specs.Prelude.{◌≡◌, ℕ, true, List, [], ◌∷◌, Result, Ok, Err}
use Rattle.metadata.specs.declared.cells.Cell.{Cell}
use Rattle.schedule.specs.declared.step.Command.{Command}
use Rattle.schedule.specs.declared.step.Command.TheVariants.{Save}
use Rattle.schedule.specs.declared.reply.Reply.{Reply}
use Rattle.script.specs.declared.race.Race.{Race}
use Rattle.runtime.specs.declared.answers.CommandError.{CommandError}
use Rattle.runtime.specs.declared.answers.Done.{Done}
use Rattle.runtime.specs.declared.worker_progress.Built.{Built as Totals}
use Rattle.runtime.specs.declared.index_worker.GatePoint.{GatePoint}
use Rattle.runtime.specs.Calls.{HasCalled}
use Rattle.runtime.specs.Clients.{Knowledge}
use Rattle.runtime.specs.Runs.{IsRun}
use Rattle.runtime.specs.Works.{IsWork, Works}
use Rattle.race.specs.declared.commands.InTurn.{InTurn}
use Rattle.race.specs.declared.racing.Open.{Open}

-- commands were performed in a transaction one after another, each of them accepted
abbrev pub CallsEach : List Command → Knowledge → Knowledge → Type 0
CallsEach [] old new = new ≡ old
CallsEach (command ∷ commands) old new =
    (mid : Knowledge) × ((reply : Reply) × HasCalled (λ given. given) command old (Ok reply) mid)
    × CallsEach commands mid new

-- what a body of commands did where it ended well
abbrev pub DoesEach : InTurn → Knowledge → Result (Unit {0}) CommandError → Knowledge → InTurn → Type 0
DoesEach body old (Ok done) new after = CallsEach body.commands.now old new × (after ≡ body)
DoesEach body old (Err error) new after = after ≡ body

-- a transaction of these commands was committed, in at most a thousand attempts
abbrev pub RunsEach : List Command → Knowledge → Knowledge → Type 0
RunsEach commands old new =
    (done : Done) × ((body : InTurn) × (body.commands.now ≡ commands)
    × ((after : InTurn) × IsRun 1 DoesEach true 1000 (body, old) (Ok (tt, done)) (after, new)))

-- records were saved one after another, each in a transaction of its own
abbrev pub SavesEach : List ℕ → List (List Cell) → Knowledge → Knowledge → Type 0
SavesEach type [] old new = new ≡ old
SavesEach type (cells ∷ rows) old new =
    (mid : Knowledge) × RunsEach (Save type cells ∷ []) old mid × SavesEach type rows mid new

-- a gate at which nothing waits
abbrev pub is_passed : Open → GatePoint → Open → Type 0
is_passed old place new = new ≡ old

-- the race's index was built, by parts of at most as many records as the race says, in at most a thousand rounds
abbrev pub BuildsIndex : Race → Knowledge → Knowledge → Type 0
BuildsIndex race old new =
    (totals : Totals) × ((after : _)
    × IsWork 1 (Works is_passed) race.index.name 1000
    (record { index = race.index.name; limit = race.limit; gate = record {} }, old) (Ok totals) (after, new))
