-- What is read to tell whether a position is in a set decides it, so that a range with the position is inserted there.
use Rattle.std.proofs.Common.{arith, true, false, ◌||◌, ◌∷◌, sym, ap, ◌∙◌}
use Rattle.std.proofs.lemmas.Bool.{true≢false}
use Rattle.kv_core.specs.Map.{after_all}
use Rattle.kv_core.proofs.Pairs.{read_of-same}
use Rattle.range_set.specs.Calls.{InsertMeets, ReadDecides}
use Rattle.range_set.specs.Gaps.{has_position}
use Rattle.range_set.specs.Stored.{upto_range}
use Rattle.range_set.specs.Told.{insertion_in}
use Rattle.range_set.proofs.Joined.{inserted_in}
use Rattle.range_set.proofs.LastRange.{found_tells, is_told}

-- DECIDES: maps that agree on what is read have the position in their sets alike
pub read_decides : ReadDecides
read_decides place position set other m n known agree has others =
    sym (found_tells place position set m known has)
    ∙ ap (is_told position) (read_of-same m n (upto_range place position) 1 true (omega arith) (λ q inside. agree q (ap (λ b. b || false) inside)))
    ∙ found_tells place position other n known others

-- MEETS: so a range with the position that is inserted into a gap changes what was read
pub insert_meets : InsertMeets
insert_meets place position range set m known stored gap inside has agree =
    true≢false
    (sym (ap (λ b. b || has_position set position) inside)
    ∙ sym (read_decides place position set (range ∷ set) m (after_all (insertion_in place m range) m) known agree has (inserted_in place range m stored set gap has))
    ∙ gap position inside)
