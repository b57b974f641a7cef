-- Why bytes have no answer.
use Rattle.std.specs.Prelude.{◌≡◌, ◌⊎◌, IsSome, ℕ, List, [], ◌∷◌, ◌++◌}
use Rattle.kv_core.specs.Limits.{write_all_refusal}
use Rattle.schedule.specs.declared.step.Command.{Command}
use Rattle.schedule.specs.declared.step.Step.{Step}
use Rattle.script.specs.declared.error.ScriptError.{ScriptError}
use Rattle.script.specs.declared.error.ScriptError.TheVariants as scripts
use Rattle.drive.specs.declared.error.DriveError.{DriveError}
use Rattle.drive.specs.declared.error.DriveError.TheVariants as calls
use Rattle.drive.specs.declared.given.Given.{Given}
use Rattle.drive_form.specs.declared.error.FormError.{FormError}
use Rattle.drive_form.specs.declared.error.FormError.TheVariants.{BadForm, BadCommand, OutOfMemory}
use Rattle.drive_form.specs.Form.{IsHostTold, HostTold}
use Rattle.drive_form.specs.Spelled.{AreCommands, AreCommandsOf, IsGiven}

-- what the error of a script is told as, and that of a call
abbrev pub of_script : ScriptError → FormError
of_script scripts.OutOfMemory = OutOfMemory
of_script (scripts.BadScript number) = BadCommand

abbrev pub of_call : DriveError → FormError
of_call calls.Memory = OutOfMemory
of_call (calls.Write why) = BadForm

-- Private: bytes begin with those of no such item
abbrev pub BeginWithNone : {X : Type 0} → (X → List ℕ) → (X → Type 0) → List ℕ → Type 0
BeginWithNone {X} spell Fits bytes = (item : X) (rest : List ℕ) → Fits item → bytes ≡ spell item ++ rest → ⊥

-- Private: why no such item is read from the front of bytes
abbrev pub ExplainsNone : {X : Type 0} → (X → List ℕ) → (X → Type 0) → List ℕ → FormError → Type 0
ExplainsNone spell Fits bytes OutOfMemory = Unit {0}
ExplainsNone spell Fits bytes BadForm = BeginWithNone spell Fits bytes
ExplainsNone spell Fits bytes BadCommand = ⊥

-- Private: why steps aren't all commands
abbrev pub ExplainsSteps : List Step → FormError → Type 0
ExplainsSteps steps OutOfMemory = Unit {0}
ExplainsSteps steps BadForm = ⊥
ExplainsSteps steps BadCommand = (commands : List Command) → AreCommands steps commands → ⊥

-- a text is no script all whose steps are commands
abbrev pub HasNoCommands : List ℕ → Type 0
HasNoCommands text = (commands : List Command) → AreCommandsOf text commands → ⊥

-- Private: why no commands are read from a text
abbrev pub ExplainsText : List ℕ → FormError → Type 0
ExplainsText text OutOfMemory = Unit {0}
ExplainsText text BadForm = ⊥
ExplainsText text BadCommand = HasNoCommands text

-- bytes begin with the number of the form
abbrev pub BeginsForm : List ℕ → Type 0
BeginsForm bytes = (rest : List ℕ) × (bytes ≡ 1 ∷ rest)

-- bytes aren't of the form: they tell nothing
abbrev pub IsNotTold : List ℕ → Type 0
IsNotTold bytes = (told : HostTold) → IsHostTold bytes told → ⊥

-- bytes are of the form, and the text that they have has no commands
abbrev pub TellNoCommands : List ℕ → Type 0
TellNoCommands bytes = (told : HostTold) × IsHostTold bytes told × HasNoCommands told.text

-- bytes tell what is given, and what they say was written is no transaction's
abbrev pub TellRefusedWrites : List ℕ → Type 0
TellRefusedWrites bytes =
    (given : Given) × IsGiven bytes given × IsSome (write_all_refusal [] given.written.items)

-- why nothing is given by bytes: memory runs out only once the number of the form was read
abbrev pub ExplainsGiven : List ℕ → FormError → Type 0
ExplainsGiven bytes OutOfMemory = BeginsForm bytes
ExplainsGiven bytes BadForm = IsNotTold bytes
ExplainsGiven bytes BadCommand = TellNoCommands bytes

-- why bytes have no answer
abbrev pub ExplainsRefusal : List ℕ → FormError → Type 0
ExplainsRefusal bytes OutOfMemory = BeginsForm bytes
ExplainsRefusal bytes BadForm = IsNotTold bytes ⊎ TellRefusedWrites bytes
ExplainsRefusal bytes BadCommand = TellNoCommands bytes
