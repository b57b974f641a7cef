use Rattle.std.proofs.Common.{◌≡◌, ◌≤◌, ◌-◌, drop}
use Rattle.kv_core.specs.Bytes.{key_cmp}
use Rattle.kv_core.proofs.words.order_of.Given as goal

-- what comes behind the place compares as all do
abbrev pub invariant-loop-place : goal.invariant-loop-place
invariant-loop-place l = (l.place ≤ l.both) × (key_cmp l.bytes l.others ≡ key_cmp (drop l.place l.bytes) (drop l.place l.others))

abbrev pub decreases-loop-place : goal.decreases-loop-place
decreases-loop-place l = l.both - l.place
