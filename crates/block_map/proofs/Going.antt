-- What is left of a range from its end: the entries of its last block.
use Rattle.std.proofs.Common.{◌≡◌, ℕ, ◌-◌, ◌<◌, Option, Some, None, List, [], ◌∷◌, ◌++◌, length, append-nil, append_assoc, take_all, sym, ap, ◌∙◌, subst, arith}
use Rattle.std.specs.List.{AllByRecursion}
use Rattle.std.specs.Prelude.{slice_range}
use Rattle.std.specs.Map.Iter.{TakesLast}
use Rattle.block_map.specs.Blocks.{block_entries}
use Rattle.block_map.proofs.Keys.{all_left, all_right}

-- a whole list as a part of it
pub whole_part : {A : Type 0} (xs : List A) → slice_range xs 0 (length xs) ≡ xs
whole_part xs = take_all (length xs - 0) xs (omega arith)

module _ {A X : Type 0} (shows : A → X) where
  -- the last of a part that has some is the last of all
  last_of : (front part rest : List X) (r : Option A) → 0 < length part → TakesLast shows part r rest → TakesLast shows (front ++ part) r (front ++ rest)
  last_of front part rest None some takes = let none = ap length takes.0 in absurd (omega arith)
  last_of front part rest (Some x) some takes = ap (λ l. front ++ l) takes ∙ sym (append_assoc front rest (shows x ∷ []))

module _ {X : Type 0} where
  entries_push : (bs : List (List (List ℕ × X))) (b : List (List ℕ × X)) → block_entries (bs ++ b ∷ []) ≡ block_entries bs ++ b
  entries_push [] b = append-nil b
  entries_push (c ∷ bs) b = ap (λ l. c ++ l) (entries_push bs b) ∙ sym (append_assoc c (block_entries bs) b)

  pub last_filled : (bs rest : List (List (List ℕ × X))) (b : List (List ℕ × X)) → bs ≡ rest ++ b ∷ [] → AllByRecursion (λ c. 0 < length c) bs → 0 < length b
  last_filled bs rest b is all = (all_right (λ c. 0 < length c) rest (b ∷ []) (subst (AllByRecursion (λ c. 0 < length c)) is all)).0

  pub before_filled : (bs rest : List (List (List ℕ × X))) (b : List (List ℕ × X)) → bs ≡ rest ++ b ∷ [] → AllByRecursion (λ c. 0 < length c) bs → AllByRecursion (λ c. 0 < length c) rest
  before_filled bs rest b is all = all_left (λ c. 0 < length c) rest (b ∷ []) (subst (AllByRecursion (λ c. 0 < length c)) is all)

  pub goes_back : {A : Type 0} (shows : A → List ℕ × X) (all front back part left : List (List ℕ × X)) (bs rest : List (List (List ℕ × X))) (r : Option A) → front ++ (block_entries bs ++ back) ≡ all → back ≡ [] → bs ≡ rest ++ part ∷ [] → 0 < length part → TakesLast shows part r left → TakesLast shows all r (front ++ (block_entries rest ++ left))
  goes_back shows all front back part left bs rest r is none last some takes =
      let whole : (front ++ block_entries rest) ++ part ≡ all =
      append_assoc front (block_entries rest) part ∙ ap (λ l. front ++ l) (sym (entries_push rest part) ∙ sym (ap block_entries last) ∙ sym (append-nil (block_entries bs)) ∙ ap (λ l. block_entries bs ++ l) (sym none)) ∙ is in
      subst (TakesLast shows all r) (append_assoc front (block_entries rest) left) (subst (λ l. TakesLast shows l r ((front ++ block_entries rest) ++ left)) whole (last_of shows (front ++ block_entries rest) part left r some takes))
