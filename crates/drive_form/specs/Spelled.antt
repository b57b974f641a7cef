-- The bytes in which a host tells what it has read, and is told what to read next, or what to reply and to commit.
use Rattle.std.specs.Prelude.{◌≡◌, ℕ, IsNone, List, [], ◌∷◌, ◌++◌, length}
use Rattle.std.specs.FinMap as finite
use Rattle.kv_core.specs.Limits.{write_all_refusal}
use Rattle.kv_core.specs.Range.{covers}
use Rattle.cluster_core.specs.declared.answers.Config.{Config}
use Rattle.schedule.specs.declared.step.Command.{Command}
use Rattle.schedule.specs.declared.step.Step.{Step}
use Rattle.schedule.specs.declared.step.Step.TheVariants.{Perform}
use Rattle.script.specs.Script.{IsScript}
use Rattle.drive.specs.declared.given.Given.{Given}
use Rattle.drive.specs.declared.answering.Driven.{Driven}
use Rattle.drive.specs.declared.answering.Driven.TheVariants.{Wants, Done}
use Rattle.drive.specs.Driving.{IsDriven}
use Rattle.drive_form.specs.Form.{FitEach, FitsMutation, FitsRange, FitsWant, IsShort, IsHostTold, HostTold}
use Rattle.drive_form.specs.Form.{counted, mutation_bytes, range_bytes, sized, want_bytes}

-- the commands of these steps, which are commands each of some client
abbrev pub AreCommands : List Step → List Command → Type 0
AreCommands [] [] = Unit {0}
AreCommands (Perform client command ∷ steps) (other ∷ commands) = (command ≡ other) × AreCommands steps commands
AreCommands steps commands = ⊥

-- a text is that of a script all whose steps are commands, and these are they
abbrev pub AreCommandsOf : List ℕ → List Command → Type 0
AreCommandsOf text commands =
    (config : Config) × (steps : List Step) × IsScript text config steps × AreCommands steps commands

-- bytes tell what is given: the version, ranges, pairs, writes, and the text of a script with the commands
pub record IsGiven (bytes : List ℕ) (given : Given) : Type 0 where
  pub told : HostTold
  pub read : IsHostTold bytes told
  pub version : given.version ≡ told.version
  pub covered : (key : List ℕ) → covers given.covered key ≡ covers told.ranges key
  pub kept : given.pairs ≡ finite.from_entries told.pairs
  pub written : given.written.items ≡ told.written
  pub commands : AreCommandsOf told.text given.commands.items

-- bytes tell the answer: 1, a text for each reply, what was read, and all that is written; each length and each count
-- fits into its bytes
pub record IsDoneBytes (answer : Rattle.drive.specs.declared.answering.Answer.Answer) (bytes : List ℕ) : Type 0 where
  pub texts : List (List ℕ)
  pub each : length texts ≡ length answer.replies.items
  pub spelled :
      bytes
      ≡ 1 ∷ counted sized texts ++ counted range_bytes answer.request.reads
      ++ counted mutation_bytes answer.request.mutations
  pub fit : FitEach IsShort texts
  pub reads : FitEach FitsRange answer.request.reads
  pub written : FitEach FitsMutation answer.request.mutations

-- or they tell 0 and what is wanted
abbrev pub IsDrivenBytes : Driven → List ℕ → Type 0
IsDrivenBytes (Wants wants) bytes = (bytes ≡ 0 ∷ counted want_bytes wants.items) × FitEach FitsWant wants.items
IsDrivenBytes (Done answer) bytes = IsDoneBytes answer bytes

-- bytes tell what a call comes to that other bytes tell of, whose writes aren't refused
pub record IsBytesAnswer (told bytes : List ℕ) : Type 0 where
  pub given : Given
  pub read : IsGiven told given
  pub allowed : IsNone (write_all_refusal [] given.written.items)
  pub driven : Driven
  pub answered : IsDriven given driven
  pub written : IsDrivenBytes driven bytes
