use Rattle.std.proofs.Common.{◌≡◌, ◌++◌}
use Rattle.std.specs.List.{take_while}
use Rattle.std.specs.Map.{keys_of}
use Rattle.kv_core.specs.Bytes.{key_le}
use Rattle.kv_core.proofs.Swallowed.{begins_within}
use Rattle.kv_core.proofs.coverage.swallowed_by.Given as goal

-- the begins so far, and those of the first stretches that are left and end within the range, are what is asked for
abbrev pub invariant-loop-begin : goal.invariant-loop-begin
invariant-loop-begin l = l.begins.items ++ keys_of (take_while (λ x. key_le x.1 l.range.end) l.begin-iterator) ≡ begins_within l.range l.stretches.entries
