-- What the reader of an entry answers.
use Rattle.std.specs.Prelude.{◌≡◌, ℕ, List, Result, Ok, Err, ⊤}
use Rattle.tuple_codec.specs.Refusal.{Refuses}
use Rattle.tuple_codec.specs.declared.UnpackFailure.{UnpackFailure}
use Rattle.tuple_codec.specs.declared.UnpackFailure.TheVariants as unpack
use Rattle.command_log.specs.declared.entry.Entry.{Entry}
use Rattle.command_log.specs.declared.error.EntryError.{EntryError}
use Rattle.command_log.specs.declared.error.EntryError.TheVariants.{Memory, Unspelled, NotAnEntry}
use Rattle.command_log.specs.Form.{IsEntry, bytes_of_entry}

-- how what unpack answers is told
abbrev pub told_failure : UnpackFailure → EntryError
told_failure unpack.Memory = Memory
told_failure (unpack.Refused error) = Unspelled error

-- the answer is this entry, unless memory ran out
abbrev pub AnswersEntry : Entry → Result Entry EntryError → Type 0
AnswersEntry entry (Ok found) = found ≡ entry
AnswersEntry entry (Err error) = error ≡ Memory

-- the bytes are those of the entry
pub record IsWrittenAs (bytes : List ℕ) (entry : Entry) : Type 0 where
  pub is_entry : IsEntry entry
  pub has_bytes : bytes ≡ bytes_of_entry entry

-- memory ran out; or the bytes spell no tuple, of which this is refused first; or they are those of no entry
abbrev pub IsNoWrittenEntry : List ℕ → EntryError → Type 0
IsNoWrittenEntry bytes Memory = ⊤
IsNoWrittenEntry bytes (Unspelled error) = Refuses bytes error.at error.kind
IsNoWrittenEntry bytes NotAnEntry = (entry : Entry) → IsWrittenAs bytes entry → ⊥
