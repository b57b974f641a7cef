use Rattle.std.specs.Prelude.{◌≡◌, ◌∷◌}
use Rattle.journal_file.specs.Files.{NotedCall}
use Rattle.journal_file.specs.declared.history.History.{History}

-- Private: the same file after one more call
pub record HasGone (old new : History) (call : NotedCall) : Type 0 where
  pub first : new.first ≡ old.first
  pub calls : new.calls ≡ call ∷ old.calls
