use Rattle.std.proofs.Common.{◌≡◌, ◌++◌, ◌-◌, take}
use Rattle.kv_core.specs.Range.{entries_in}
use Rattle.kv_core.proofs.kv_map.first_pairs.Given as goal

-- the pairs so far and the first of those that are left are what is asked for
abbrev pub invariant-loop : goal.invariant-loop
invariant-loop l = l.pairs.items ++ take (l.limit - l.counter) (l.rest) ≡ take l.limit (entries_in l.range l.map.entries)
