use Rattle.std.proofs.Common.{◌≡◌, ◌++◌}
use Rattle.std.specs.Map.{keys_of}
use Rattle.txn.specs.Own.{compared_in}
use Rattle.txn.proofs.compared.compared_keys.Given as goal

-- the keys so far and those that are left are the compared keys of the range
abbrev pub invariant-loop-key : goal.invariant-loop-key
invariant-loop-key l = l.keys.items ++ keys_of l.key-iterator ≡ keys_of (compared_in l.range l.compared.entries)
