use Rattle.std.proofs.Common.{◌≡◌, ◌++◌}
use Rattle.std.specs.Map.{keys_of}
use Rattle.kv_core.specs.Range.{entries_in}
use Rattle.kv_core.proofs.kv_map.keys_between.Given as goal

-- the keys so far and those that are left are the keys of the range
abbrev pub invariant-loop-key : goal.invariant-loop-key
invariant-loop-key l = l.keys.items ++ keys_of l.key-iterator ≡ keys_of (entries_in l.range l.map.entries)
