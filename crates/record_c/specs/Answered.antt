-- What the function of C leaves to its caller.
use Rattle.std.specs.Prelude.{◌≡◌, ◌<◌, ℕ, List, ◌++◌, length, drop}
use Rattle.drive_form.specs.declared.error.FormError.{FormError}
use Rattle.drive_form.specs.declared.error.FormError.TheVariants.{BadCommand, BadForm, OutOfMemory}
use Rattle.drive_form.specs.Spelled.{IsBytesAnswer}

-- Private: the number that tells why there is no answer
abbrev pub status_of : FormError → ℕ
status_of OutOfMemory = 2
status_of BadForm = 3
status_of BadCommand = 4

-- the answer to what is told stands at the begin of the room, whose rest is as it was, and this is how long it is
pub record IsPlaced (told room out : List ℕ) (written : ℕ) : Type 0 where
  pub bytes : List ℕ
  pub answer : IsBytesAnswer told bytes
  pub long : written ≡ length bytes
  pub placed : out ≡ bytes ++ drop (length bytes) room

-- there is an answer of this length, for which there is no room, and the room is as it was
pub record IsTooLong (told room out : List ℕ) (written : ℕ) : Type 0 where
  pub bytes : List ℕ
  pub answer : IsBytesAnswer told bytes
  pub long : written ≡ length bytes
  pub wider : length room < written
  pub left : out ≡ room
