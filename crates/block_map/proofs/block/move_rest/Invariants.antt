use Rattle.std.proofs.Common.{◌≡◌, ◌≤◌, ◌+◌, ◌++◌, length, reverse, vec_capacity, vec_len}
use Rattle.block_map.proofs.block.move_rest.Given as goal

-- what is left, and what was moved, the last item first, are the items
abbrev pub invariant-loop-from : goal.invariant-loop-from
invariant-loop-from g l = record {
  within : l.place ≤ length l.from.items;
  whole : l.from.items ++ reverse l.to.items ≡ l.fn.from.items;
  kept : vec_capacity l.from ≡ vec_capacity l.fn.from;
  room : vec_capacity l.to ≡ vec_capacity l.fn.to;
  fits : vec_len l.from + vec_len l.to ≤ vec_capacity l.fn.to;
}

abbrev pub decreases-loop-from : goal.decreases-loop-from
decreases-loop-from g l = vec_len l.from
