use Rattle.std.proofs.Common.{◌≡◌, length, map}
use Rattle.metadata.specs.Lawful.{is_rising_upto}
use Rattle.metadata.proofs.lawful.is_rising_upto.Given as goal

abbrev pub invariant-loop-first : goal.invariant-loop-first
invariant-loop-first l = is_rising_upto l.last l.high (map (λ index. index.number) l.rest) ≡ is_rising_upto l.low l.high (map (λ index. index.number) l.indexes)

abbrev pub decreases-loop-first : goal.decreases-loop-first
decreases-loop-first l = length l.rest
