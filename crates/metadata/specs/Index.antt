-- What is asked of an index: of its kind, and of its state.
use Rattle.std.specs.Prelude.{ℕ, Bool, true, false, ◌==◌, List, Option}
use Rattle.std.specs.Map.{lookup}
use Rattle.metadata.specs.declared.index.IndexKind.{IndexKind}
use Rattle.metadata.specs.declared.index.IndexKind.TheVariants.{Value, Count, Sum}
use Rattle.metadata.specs.declared.index.State.{State}
use Rattle.metadata.specs.declared.index.State.TheVariants.{Readable, WriteOnly, Disabled}

-- the kind is that of a VALUE index
abbrev pub is_value : IndexKind → Bool
is_value Value = true
is_value Count = false
is_value Sum = false

-- the state is that of an index that may be read
abbrev pub is_readable : State → Bool
is_readable Readable = true
is_readable WriteOnly = false
is_readable Disabled = false

-- the state that is listed for the index with this number, if one is
abbrev pub listed_state : List (ℕ × State) → ℕ → Option State
listed_state states number = lookup (λ own. own == number) states
