use Rattle.std.proofs.Common.{◌≡◌, ◌++◌, drop}
use Rattle.std.specs.Option.{option_map}
use Rattle.journal.specs.Words.{bytes_of_each}
use Rattle.durable.specs.Heads.{each_pair}
use Rattle.durable.proofs.heads.pairs_of.Given as goal

-- with what is still to be read, the pairs so far are what all byte strings are
abbrev pub invariant-loop-bytes : goal.invariant-loop-bytes
invariant-loop-bytes l = option_map (λ rest. l.pairs.items ++ rest) (each_pair (bytes_of_each (drop l.bytes-index l.list))) ≡ each_pair (bytes_of_each l.list)
