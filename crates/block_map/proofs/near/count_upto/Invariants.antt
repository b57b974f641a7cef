use Rattle.std.proofs.Common.{◌-◌, ◌≡◌, ◌≤◌, ◌<◌, [], true, false, length, slice_index_or}
use Rattle.kv_core.specs.Bytes.{key_lt}
use Rattle.block_map.proofs.near.count_upto.Given as goal

-- the key doesn't come before the one behind which the part that is left begins, and before the one at its end
abbrev pub invariant-loop-low : goal.invariant-loop-low
invariant-loop-low l = record {
  order : l.low ≤ l.high;
  within : l.high ≤ length l.keys;
  from : 0 < l.low → key_lt l.key (slice_index_or l.keys (l.low - 1) []) ≡ false;
  before : l.high < length l.keys → key_lt l.key (slice_index_or l.keys l.high []) ≡ true;
}

abbrev pub decreases-loop-low : goal.decreases-loop-low
decreases-loop-low l = l.high - l.low
