-- Blocks of which two neighbours are joined, where both fit into one.
use Rattle.std.proofs.Common.{◌≡◌, ℕ, zero, suc, ◌+◌, ◌<◌, ◌≤◌, Bool, true, false, cond, nat_le, inl, inr, List, [], ◌∷◌, ◌++◌, length, set, remove, append_assoc, length-append, refl, sym, ap, ◌∙◌, subst, arith, le-leb, leb-true}
use Rattle.std.proofs.lemmas.Bool.{cases_Bool}
use Rattle.std.specs.List.{AllByRecursion}
use Rattle.kv_core.specs.Bytes.{key_lt}
use Rattle.block_map.specs.Blocks.{AreFrom, AreLaid, block_at, block_entries, joined_blocks, joined_bounds, most}
use Rattle.block_map.proofs.Edited.{laid_cons, laid_uncons}
use Rattle.block_map.proofs.Keys.{AreBefore-upto, all_both}

module _ {X : Type 0} where
  -- whether two blocks fit into one
  abbrev fit : List (List ℕ × X) → List (List ℕ × X) → Bool
  fit b c = nat_le (length b + length c) most

  -- ---- what the code does is that

  pub joined_past : (i : ℕ) (bs : List (List (List ℕ × X))) → length bs ≤ suc i → joined_blocks i bs ≡ bs
  joined_past i [] past = refl
  joined_past zero (b ∷ []) past = refl
  joined_past zero (b ∷ c ∷ bs) past = absurd (omega arith)
  joined_past (suc i) (b ∷ bs) past = ap (λ l. b ∷ l) (joined_past i bs (omega arith))

  pub joined_full : (i : ℕ) (bs : List (List (List ℕ × X))) → suc i < length bs → most < length (block_at bs i) + length (block_at bs (suc i)) → joined_blocks i bs ≡ bs
  joined_full i [] inside full = absurd (omega arith)
  joined_full zero (b ∷ []) inside full = absurd (omega arith)
  joined_full zero (b ∷ c ∷ bs) inside full = ap (λ t. cond t ((b ++ c) ∷ bs) (b ∷ c ∷ bs)) (over (fit b c) refl)
    where
      over : (t : Bool) → fit b c ≡ t → fit b c ≡ false
      over true is = let fits = leb-true (length b + length c) most is in absurd (omega arith)
      over false is = is
  joined_full (suc i) (b ∷ bs) inside full = ap (λ l. b ∷ l) (joined_full i bs (omega arith) full)

  pub joined_here : (i : ℕ) (bs : List (List (List ℕ × X))) (own : List (List ℕ × X)) → suc i < length bs → length (block_at bs i) + length (block_at bs (suc i)) ≤ most → own ≡ block_at bs i ++ block_at bs (suc i) → set (remove bs (suc i)) i own ≡ joined_blocks i bs
  joined_here i [] own inside fits is = absurd (omega arith)
  joined_here zero (b ∷ []) own inside fits is = absurd (omega arith)
  joined_here zero (b ∷ c ∷ bs) own inside fits is = ap (λ l. l ∷ bs) is ∙ sym (ap (λ t. cond t ((b ++ c) ∷ bs) (b ∷ c ∷ bs)) (le-leb (length b + length c) most fits))
  joined_here (suc i) (b ∷ bs) own inside fits is = ap (λ l. b ∷ l) (joined_here i bs own (omega arith) fits is)

  pub bounds_past : (i : ℕ) (ks : List (List ℕ)) (bs : List (List (List ℕ × X))) → length bs ≤ suc i → joined_bounds i ks bs ≡ ks
  bounds_past i [] bs past = refl
  bounds_past i (k ∷ ks) [] past = refl
  bounds_past zero (k ∷ ks) (b ∷ []) past = refl
  bounds_past zero (k ∷ ks) (b ∷ c ∷ bs) past = absurd (omega arith)
  bounds_past (suc i) (k ∷ ks) (b ∷ bs) past = ap (λ l. k ∷ l) (bounds_past i ks bs (omega arith))

  pub bounds_full : (i : ℕ) (ks : List (List ℕ)) (bs : List (List (List ℕ × X))) → suc i < length bs → most < length (block_at bs i) + length (block_at bs (suc i)) → joined_bounds i ks bs ≡ ks
  bounds_full i [] bs inside full = refl
  bounds_full i (k ∷ ks) [] inside full = refl
  bounds_full zero (k ∷ ks) (b ∷ []) inside full = refl
  bounds_full zero (k ∷ ks) (b ∷ c ∷ bs) inside full = ap (λ t. cond t ks (k ∷ ks)) (over (fit b c) refl)
    where
      over : (t : Bool) → fit b c ≡ t → fit b c ≡ false
      over true is = let fits = leb-true (length b + length c) most is in absurd (omega arith)
      over false is = is
  bounds_full (suc i) (k ∷ ks) (b ∷ bs) inside full = ap (λ l. k ∷ l) (bounds_full i ks bs (omega arith) full)

  pub bounds_here : (i : ℕ) (ks : List (List ℕ)) (bs : List (List (List ℕ × X))) → suc i < length bs → length (block_at bs i) + length (block_at bs (suc i)) ≤ most → i < length ks → remove ks i ≡ joined_bounds i ks bs
  bounds_here i [] bs inside fits within = absurd (omega arith)
  bounds_here i (k ∷ ks) [] inside fits within = absurd (omega arith)
  bounds_here zero (k ∷ ks) (b ∷ []) inside fits within = absurd (omega arith)
  bounds_here zero (k ∷ ks) (b ∷ c ∷ bs) inside fits within = sym (ap (λ t. cond t ks (k ∷ ks)) (le-leb (length b + length c) most fits))
  bounds_here (suc i) (k ∷ ks) (b ∷ bs) inside fits within = ap (λ l. k ∷ l) (bounds_here i ks bs (omega arith) fits (omega arith))

  pub lengths_joined : (i : ℕ) (ks : List (List ℕ)) (bs : List (List (List ℕ × X))) → length bs ≤ length ks + 1 → length (joined_blocks i bs) ≤ length (joined_bounds i ks bs) + 1
  lengths_joined i [] [] most_one = omega arith
  lengths_joined i (k ∷ ks) [] most_one = omega arith
  lengths_joined zero [] (b ∷ []) most_one = omega arith
  lengths_joined (suc i) [] (b ∷ []) most_one = omega arith
  lengths_joined i [] (b ∷ c ∷ bs) most_one = absurd (omega arith)
  lengths_joined zero (k ∷ ks) (b ∷ []) most_one = omega arith
  lengths_joined zero (k ∷ ks) (b ∷ c ∷ bs) most_one = elim (fit b c) as (λ t. length (cond t ((b ++ c) ∷ bs) (b ∷ c ∷ bs)) ≤ length (cond t ks (k ∷ ks)) + 1) [ true ↦ omega arith | false ↦ omega arith ]
  lengths_joined (suc i) (k ∷ ks) (b ∷ bs) most_one = let more = lengths_joined i ks bs (omega arith) in omega arith

  -- ---- what it keeps

  pub entries-joined : (i : ℕ) (bs : List (List (List ℕ × X))) → block_entries (joined_blocks i bs) ≡ block_entries bs
  entries-joined i [] = refl
  entries-joined zero (b ∷ []) = refl
  entries-joined zero (b ∷ c ∷ bs) = elim (fit b c) as (λ t. block_entries (cond t ((b ++ c) ∷ bs) (b ∷ c ∷ bs)) ≡ b ++ (c ++ block_entries bs)) [
    | true ↦ append_assoc b c (block_entries bs)
    | false ↦ refl
  ]
  entries-joined (suc i) (b ∷ bs) = ap (λ l. b ++ l) (entries-joined i bs)

  pub some_joined : (i : ℕ) (bs : List (List (List ℕ × X))) → 0 < length bs → 0 < length (joined_blocks i bs)
  some_joined i [] some = some
  some_joined zero (b ∷ []) some = some
  some_joined zero (b ∷ c ∷ bs) some = elim (fit b c) as (λ t. 0 < length (cond t ((b ++ c) ∷ bs) (b ∷ c ∷ bs))) [ true ↦ omega arith | false ↦ omega arith ]
  some_joined (suc i) (b ∷ bs) some = omega arith

  pub each_joined : (Q : List (List ℕ × X) → Type 0) → ((b c : List (List ℕ × X)) → length b + length c ≤ most → Q b → Q c → Q (b ++ c)) → (i : ℕ) (bs : List (List (List ℕ × X))) → AllByRecursion Q bs → AllByRecursion Q (joined_blocks i bs)
  each_joined Q both i [] all = tt
  each_joined Q both zero (b ∷ []) all = all
  each_joined Q both zero (b ∷ c ∷ bs) all = elim (cases_Bool (fit b c)) [
    | inl fitting ↦ subst (λ t. AllByRecursion Q (cond t ((b ++ c) ∷ bs) (b ∷ c ∷ bs))) (sym fitting) (both b c (leb-true (length b + length c) most fitting) all.0 all.1.0, all.1.1)
    | inr full ↦ subst (λ t. AllByRecursion Q (cond t ((b ++ c) ∷ bs) (b ∷ c ∷ bs))) (sym full) all
  ]
  each_joined Q both (suc i) (b ∷ bs) all = (all.0, each_joined Q both i bs all.1)

  pub fits_joined : (i : ℕ) (bs : List (List (List ℕ × X))) → AllByRecursion (λ b. length b ≤ most) bs → AllByRecursion (λ b. length b ≤ most) (joined_blocks i bs)
  fits_joined i bs all = each_joined (λ b. length b ≤ most) (λ b c h p q. omega (arith, length-append b c)) i bs all

  pub filled_joined : (i : ℕ) (bs : List (List (List ℕ × X))) → AllByRecursion (λ b. 0 < length b) bs → AllByRecursion (λ b. 0 < length b) (joined_blocks i bs)
  filled_joined i bs all = each_joined (λ b. 0 < length b) (λ b c h p q. omega (arith, length-append b c)) i bs all

  -- two blocks behind one bound
  without_bound : (k : List ℕ) (b c : List (List ℕ × X)) (ks : List (List ℕ)) (bs : List (List (List ℕ × X))) → AreLaid (k ∷ ks) (b ∷ c ∷ bs) → AreLaid ks ((b ++ c) ∷ bs)
  without_bound k b c [] [] laid = tt
  without_bound k b c [] (d ∷ bs) laid = absurd laid.3
  without_bound k b c (n ∷ ks) [] laid = absurd laid.3
  without_bound k b c (n ∷ ks) (d ∷ bs) laid =
      let more = laid.3 in (all_both (λ e. key_lt e.0 n ≡ true) b c (AreBefore-upto k n laid.2.0 b laid.0) more.0, more.1, more.2, more.3)

  rise_joined : (k : List ℕ) (i : ℕ) (ks : List (List ℕ)) (bs : List (List (List ℕ × X))) → AllByRecursion (λ n. key_lt k n ≡ true) ks → AllByRecursion (λ n. key_lt k n ≡ true) (joined_bounds i ks bs)
  rise_joined k i [] bs all = tt
  rise_joined k i (n ∷ ks) [] all = all
  rise_joined k zero (n ∷ ks) (b ∷ []) all = all
  rise_joined k zero (n ∷ ks) (b ∷ c ∷ bs) all = elim (fit b c) as (λ t. AllByRecursion (λ n. key_lt k n ≡ true) (cond t ks (n ∷ ks))) [ true ↦ all.1 | false ↦ all ]
  rise_joined k (suc i) (n ∷ ks) (b ∷ bs) all = (all.0, rise_joined k i ks bs all.1)

  pub laid_joined : (i : ℕ) (ks : List (List ℕ)) (bs : List (List (List ℕ × X))) → AreLaid ks bs → AreLaid (joined_bounds i ks bs) (joined_blocks i bs)
  laid_joined i [] [] laid = laid
  laid_joined i (k ∷ ks) [] laid = laid
  laid_joined zero [] (b ∷ []) laid = laid
  laid_joined (suc i) [] (b ∷ []) laid = laid
  laid_joined i [] (b ∷ c ∷ bs) laid = absurd laid
  laid_joined zero (k ∷ ks) (b ∷ []) laid = absurd laid
  laid_joined zero (k ∷ ks) (b ∷ c ∷ bs) laid = elim (fit b c) as (λ t. AreLaid (cond t ks (k ∷ ks)) (cond t ((b ++ c) ∷ bs) (b ∷ c ∷ bs))) [
    | true ↦ without_bound k b c ks bs laid
    | false ↦ laid
  ]
  laid_joined (suc i) (k ∷ ks) (b ∷ bs) laid =
      let is = laid_uncons k b ks bs laid in
      laid_cons k b (joined_bounds i ks bs) (joined_blocks i bs) (record {
        before = is.before;
        from = subst (AreFrom k) (sym (entries-joined i bs)) is.from;
        rise = rise_joined k i ks bs is.rise;
        laid = laid_joined i ks bs is.laid;
        some = some_joined i bs is.some;
      })
