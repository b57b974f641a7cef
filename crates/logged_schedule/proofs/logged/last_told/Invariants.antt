use Rattle.std.proofs.Common.{◌≡◌, ℕ, take}
use Rattle.std.specs.Prelude.{unwrap_or}
use Rattle.replay.specs.Logged.{last_version}
use Rattle.logged_schedule.proofs.logged.last_told.Given as goal

-- that of the entries so far
abbrev pub invariant-loop-entry : goal.invariant-loop-entry
invariant-loop-entry l = (version : ℕ) → last_version version (take l.entry-index l.entries) ≡ unwrap_or l.last version
