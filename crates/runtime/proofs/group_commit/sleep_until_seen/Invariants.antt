use Rattle.std.proofs.Common.{◌≡◌}
use Rattle.runtime.proofs.group_commit.sleep_until_seen.Given as goal

abbrev pub invariant-loop : goal.invariant-loop
invariant-loop g l =
    (goal.iterator-loop g).can_next l.iterator' × (goal.iterator-loop g).is_finite l.iterator' × (l.key.table_id ≡ l.initial.key.table_id) × (l.key.me ≡ l.initial.key.me)
