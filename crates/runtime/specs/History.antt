-- The rule of a history, and what its steps tell. The history is the log of entries, in version order.
use Rattle.std.specs.Prelude.{ℕ, ◌≡◌, ◌==◌, Bool, true, List, [], ◌∷◌, ◌++◌, length, MatchBool}
use Rattle.logbook.specs.Pages.{Cell, Step, View, Book, Named}
use Rattle.runtime.specs.Origins.{Origin}
use Rattle.runtime.specs.declared.log_entry.Entry.{Entry}
use Rattle.runtime.specs.declared.log_entry.Submitted.{Submitted}

-- the entry of a submission
abbrev pub submitted_entry : Submitted → Entry
submitted_entry submitted =
    record {
      client = submitted.client;
      number = submitted.number;
      request = submitted.request.value;
      trace = submitted.trace;
    }

-- Private: the first word is the length of the history. A book has two words; the second stays 0
pub record IsBook (cells : List Cell) (log : List Entry) : Type 0 where
  pub words : cells ≡ (length log, true) ∷ (0, true) ∷ []

-- Private: the word of a book that has the length of its history
abbrev pub head_of : Book → Named
head_of book = record { tracked = true; key = 0; book = book }

-- Private: the entry was added after all that had been seen; or the history was longer, and was seen
abbrev pub Adds : Step Entry → View Entry ℕ → ℕ → View Entry ℕ → Type 0
Adds s v found w = MatchBool (found == s.old) (w.0 ≡ v.0 ++ s.ask ∷ []) (length w.0 ≡ found)

-- which database it is: its book, what it began with, and whether what is committed in it is kept
pub record Name : Type 0 where
  pub book : Book
  pub origin : Origin
  pub kept : Bool

abbrev pub database_name : Book → Origin → Bool → Name
database_name book origin kept = record { book = book; origin = origin; kept = kept }

-- a beginning of the history of one database, which some thread has seen
pub record Prefix : Type 0 where
  pub name : Name
  pub log : List Entry

abbrev pub log_prefix : Name → List Entry → Prefix
log_prefix name log = record { name = name; log = log }
