use Rattle.std.proofs.Common.{◌≡◌, ◌<◌, ◌^◌, ◌++◌, All, length, map, take}
use Rattle.journal.specs.Words.{bytes_of_each}
use Rattle.durable.specs.Heads.{written_pair}
use Rattle.durable.proofs.heads.push_pairs.Given as goal

-- the first pairs are written
abbrev pub invariant-loop-pair : goal.invariant-loop-pair
invariant-loop-pair l =
    (bytes_of_each l.made.items ≡ bytes_of_each l.initial.made.items ++ map written_pair (take l.pair-index l.pairs))
    × All (λ pair. length pair.0 < 2 ^ 64) (take l.pair-index l.pairs)
