-- Blocks with two for the one at a place.
use Rattle.std.proofs.Common.{◌≡◌, ℕ, zero, suc, ◌+◌, ◌<◌, ◌≤◌, true, false, List, [], ◌∷◌, ◌++◌, length, set, insert, append_assoc, refl, sym, ap, subst, arith}
use Rattle.std.proofs.lemmas.List.Edits.{length-insert}
use Rattle.std.specs.List.{AllByRecursion}
use Rattle.kv_core.specs.Bytes.{key_lt}
use Rattle.block_map.specs.Blocks.{AreBefore, AreFrom, AreLaid, edited, block_entries, cut_blocks}
use Rattle.block_map.proofs.Edited.{laid_cons, laid_no_more, laid_uncons, length-edited}
use Rattle.block_map.proofs.Keys.{AreFrom-upto, all_both, all_left, all_right, below_chain, upto_below}

rising : (a b : List ℕ) (ks : List (List ℕ)) → key_lt a b ≡ true → AllByRecursion (λ k. key_lt b k ≡ true) ks → AllByRecursion (λ k. key_lt a k ≡ true) ks
rising a b [] rise all = tt
rising a b (k ∷ ks) rise all = (below_chain a b k rise all.0, rising a b ks rise all.1)

put_in : (bound k : List ℕ) (i : ℕ) (ks : List (List ℕ)) → key_lt k bound ≡ true → AllByRecursion (λ n. key_lt k n ≡ true) ks → AllByRecursion (λ n. key_lt k n ≡ true) (insert ks i bound)
put_in bound k zero ks rise all = (rise, all)
put_in bound k (suc i) [] rise all = (rise, tt)
put_in bound k (suc i) (n ∷ ks) rise all = (all.0, put_in bound k i ks rise all.1)

module _ {X : Type 0} where
  -- the entries are those of a block with both
  pub entries-forked : (i : ℕ) (left right : List (List ℕ × X)) (bs : List (List (List ℕ × X))) → block_entries (cut_blocks i left right bs) ≡ block_entries (edited i (λ _. left ++ right) bs)
  entries-forked i left right [] = refl
  entries-forked zero left right (b ∷ bs) = sym (append_assoc left right (block_entries bs))
  entries-forked (suc i) left right (b ∷ bs) = ap (λ l. b ++ l) (entries-forked i left right bs)

  -- the first part written over the block, and the other one put behind it
  pub insert-forked : (bs : List (List (List ℕ × X))) (i : ℕ) (left right : List (List ℕ × X)) → i < length bs → insert (set bs i left) (suc i) right ≡ cut_blocks i left right bs
  insert-forked [] i left right within = absurd (omega arith)
  insert-forked (b ∷ bs) zero left right within = refl
  insert-forked (b ∷ bs) (suc i) left right within = ap (λ l. b ∷ l) (insert-forked bs i left right (omega arith))

  pub length-forked : (i : ℕ) (left right : List (List ℕ × X)) (bs : List (List (List ℕ × X))) → i < length bs → length (cut_blocks i left right bs) ≡ suc (length bs)
  length-forked i left right [] within = absurd (omega arith)
  length-forked zero left right (b ∷ bs) within = refl
  length-forked (suc i) left right (b ∷ bs) within = ap suc (length-forked i left right bs (omega arith))

  -- how many there are then, against the bounds
  pub fork_counts : (ks new_ks : List (List ℕ)) (bs new_bs : List (List (List ℕ × X))) (i : ℕ) (bound : List ℕ) (left right : List (List ℕ × X)) → i < length bs → length bs ≡ length ks + 1 → new_ks ≡ insert ks i bound → new_bs ≡ cut_blocks i left right bs → length new_bs ≤ length new_ks + 1
  fork_counts ks new_ks bs new_bs i bound left right within count bounds list =
      omega (arith, ap length bounds, ap length list, length-insert ks i bound (omega arith), length-forked i left right bs within)

  pub each_forked : (Q : List (List ℕ × X) → Type 0) (i : ℕ) (left right : List (List ℕ × X)) (bs : List (List (List ℕ × X))) → AllByRecursion Q bs → Q left → Q right → AllByRecursion Q (cut_blocks i left right bs)
  each_forked Q i left right [] all p q = tt
  each_forked Q zero left right (b ∷ bs) all p q = (p, (q, all.1))
  each_forked Q (suc i) left right (b ∷ bs) all p q = (all.0, each_forked Q i left right bs all.1 p q)

  -- ---- a bound between the two

  pub record Parts (bound : List ℕ) (left right : List (List ℕ × X)) : Type 0 where
    pub before : AreBefore bound left
    pub from : AreFrom bound right
    pub some_left : 0 < length left
    pub some_right : 0 < length right

  -- a bound before those of the right part comes before this one
  above : (bound k : List ℕ) (left : List (List ℕ × X)) → AreBefore bound left → 0 < length left → AreFrom k left → key_lt k bound ≡ true
  above bound k [] before some from = absurd (omega arith)
  above bound k (e ∷ left) before some from = upto_below k e.0 bound from.0 before.0

  -- and one behind them after it
  under : (bound k : List ℕ) (right : List (List ℕ × X)) → AreFrom bound right → 0 < length right → AreBefore k right → key_lt bound k ≡ true
  under bound k [] from some before = absurd (omega arith)
  under bound k (e ∷ right) from some before = upto_below bound e.0 k from.0 before.0

  module _ (bound : List ℕ) (left right : List (List ℕ × X)) (parts : Parts bound left right) where
    -- where the part stands
    laid_here : (ks : List (List ℕ)) (bs : List (List (List ℕ × X))) → AreLaid ks ((left ++ right) ∷ bs) → AreLaid (bound ∷ ks) (left ∷ right ∷ bs)
    laid_here [] [] laid = (parts.before, all_both (λ e. key_lt e.0 bound ≡ false) right [] parts.from tt, tt, tt)
    laid_here [] (c ∷ bs) laid = absurd laid
    laid_here (k ∷ ks) [] laid = absurd laid
    laid_here (k ∷ ks) (c ∷ bs) laid =
        let before : AreBefore k right = all_right (λ e. key_lt e.0 k ≡ true) left right laid.0 in
        let rise : key_lt bound k ≡ true = under bound k right parts.from parts.some_right before in (
          parts.before,
          all_both (λ e. key_lt e.0 bound ≡ false) right (c ++ block_entries bs) parts.from (AreFrom-upto bound k rise (c ++ block_entries bs) laid.1),
          (rise, rising bound k ks rise laid.2),
          (before, laid.1, laid.2, laid.3),
        )

    within : (k : List ℕ) (i : ℕ) (bs : List (List (List ℕ × X))) → i < length bs → AreFrom k (block_entries (edited i (λ _. left ++ right) bs)) → AreFrom k left
    within k i [] inside from = absurd (omega arith)
    within k zero (b ∷ bs) inside from = all_left (λ e. key_lt e.0 k ≡ false) left right (all_left (λ e. key_lt e.0 k ≡ false) (left ++ right) (block_entries bs) from)
    within k (suc i) (b ∷ bs) inside from = within k i bs (omega arith) (all_right (λ e. key_lt e.0 k ≡ false) b (block_entries (edited i (λ _. left ++ right) bs)) from)

    pub laid_forked : (i : ℕ) (ks : List (List ℕ)) (bs : List (List (List ℕ × X))) → i < length bs → AreLaid ks (edited i (λ _. left ++ right) bs) → AreLaid (insert ks i bound) (cut_blocks i left right bs)
    laid_forked i ks [] inside laid = absurd (omega arith)
    laid_forked zero ks (b ∷ bs) inside laid = laid_here ks bs laid
    laid_forked (suc i) [] (b ∷ bs) inside laid =
        let none = laid_no_more b (edited i (λ _. left ++ right) bs) laid in
        let same = length-edited i (λ _. left ++ right) bs in
        absurd (omega arith)
    laid_forked (suc i) (k ∷ ks) (b ∷ bs) inside laid =
        let is = laid_uncons k b ks (edited i (λ _. left ++ right) bs) laid in
        let rise : key_lt k bound ≡ true = above bound k left parts.before parts.some_left (within k i bs (omega arith) is.from) in
        laid_cons k b (insert ks i bound) (cut_blocks i left right bs) (record {
          before = is.before;
          from = subst (AreFrom k) (sym (entries-forked i left right bs)) is.from;
          rise = put_in bound k i ks rise is.rise;
          laid = laid_forked i ks bs (omega arith) is.laid;
          some = let more = length-forked i left right bs (omega arith) in omega arith;
        })
