use Rattle.std.proofs.Common.{◌≡◌, take}
use Rattle.metadata.specs.Reading.{with_firsts}
use Rattle.metadata.proofs.written.with_firsts.Given as goal

-- the first numbers so far are set
abbrev pub invariant-loop-place : goal.invariant-loop-place
invariant-loop-place l = l.grown.items ≡ with_firsts (take l.place l.firsts) l.initial.grown.items
