use Rattle.std.specs.Prelude.{ℕ, List}
use Rattle.journal.specs.Words.{bytes_of_each}
use Rattle.journal.specs.declared.sink.Kept.{Kept}

-- the entries that were taken
abbrev pub kept_entries : Kept → List (List ℕ)
kept_entries kept = bytes_of_each kept.entries.items
