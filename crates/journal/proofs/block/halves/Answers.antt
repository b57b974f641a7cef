use Rattle.std.proofs.Common.{◌≡◌, List, ℕ, length, min, take, drop, ◌∙◌, ap, arith}
use Rattle.std.proofs.lemmas.List.{take_min, drop_min}
use Rattle.journal.proofs.block.halves.Goals as goal

-- what a length at most n cuts off is what n cuts off
take_least : (xs : List ℕ) (n k : ℕ) → k ≡ min (length xs) n → take k xs ≡ take n xs
take_least xs n k is = let same : k ≡ min n (length xs) = omega arith in ap (λ (i : ℕ). take i xs) same ∙ take_min n xs

drop_least : (xs : List ℕ) (n k : ℕ) → k ≡ min (length xs) n → drop k xs ≡ drop n xs
drop_least xs n k is = let same : k ≡ min n (length xs) = omega arith in ap (λ (i : ℕ). drop i xs) same ∙ drop_min n xs

pub returns-clause-counts : goal.returns-clause-counts
returns-clause-counts c = c.split_at.ensures.front ∙ take_least c.args.behind.now 16 _ c.min.ensures

pub returns-clause-mirror : goal.returns-clause-mirror
returns-clause-mirror c =
    let rest = c.split_at.ensures.back ∙ drop_least c.args.behind.now 16 _ c.min.ensures in
    c.split_at-2.ensures.front ∙ take_least _ 16 _ c.min-2.ensures ∙ ap (λ (l : List ℕ). take 16 l) rest
