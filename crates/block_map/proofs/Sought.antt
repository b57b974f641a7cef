-- What a search by halves finds among keys in order.
use Rattle.std.proofs.Common.{◌≡◌, ℕ, zero, suc, ◌-◌, ◌<◌, ◌≤◌, Bool, true, false, cond, inl, inr, Ordering, Less, Equal, Greater, List, [], ◌∷◌, length, get_or, Ok, Err, refl, sym, ap, true≢false, ◌∙◌, subst, arith}
use Rattle.std.proofs.lemmas.Bool.{cases_lt}
use Rattle.std.proofs.lemmas.Cmp.{alike_right, nat_list_cmp_total, tied_back}
use Rattle.std.proofs.lemmas.Map.Keys.{Less-from_sorted, sorted_head, sorted_tail}
use Rattle.std.specs.List.Sorted.{IsStrictlySortedBy}
use Rattle.std.specs.Map.{keys_of}
use Rattle.std.specs.Ordering.{is_lt, match_ordering}
use Rattle.std_collections.specs.Layout.BTreeMap.{one_further, seek}
use Rattle.kv_core.specs.Bytes.{key_cmp, key_lt}
use Rattle.block_map.specs.Blocks.{bounds_upto}
use Rattle.block_map.proofs.Keys.{Greater-turned, Less-turned, all_at, below_Less, below_back, below_upto}

-- a key before one that ties with another comes before that
before_tied : (a b c : List ℕ) → key_cmp a b ≡ Less → key_cmp b c ≡ Equal → key_cmp a c ≡ Less
before_tied a b c p q = sym (alike_right nat_list_cmp_total b c a q) ∙ p

module _ (key : List ℕ) where
  module _ {X : Type 0} where
    seek_step : (e : List ℕ × X) (es : List (List ℕ × X)) (r : Ordering) → key_cmp key e.0 ≡ r → seek (key_cmp key) (e ∷ es) ≡ match_ordering r (Err 0) (Ok 0) (one_further (seek (key_cmp key) es))
    seek_step e es r h = ap (λ o. match_ordering o (Err 0) (Ok 0) (one_further (seek (key_cmp key) es))) h

    pub seek_found : (es : List (List ℕ × X)) (at : ℕ) → IsStrictlySortedBy key_cmp (keys_of es) → at < length (keys_of es) → key_cmp (get_or (keys_of es) at []) key ≡ Equal → seek (key_cmp key) es ≡ Ok at
    seek_found [] at sorted within tied = absurd (omega arith)
    seek_found (e ∷ es) zero sorted within tied = seek_step e es Equal (tied_back nat_list_cmp_total e.0 key tied)
    seek_found (e ∷ es) (suc at) sorted within tied =
        let below : key_cmp e.0 (get_or (keys_of es) at []) ≡ Less = all_at (λ y. key_cmp e.0 y ≡ Less) (keys_of es) at [] (sorted_head key_cmp e.0 (keys_of es) sorted) (omega arith) in
        seek_step e es Greater (Less-turned e.0 key (before_tied e.0 (get_or (keys_of es) at []) key below tied))
        ∙ ap one_further (seek_found es at (sorted_tail key_cmp e.0 (keys_of es) sorted) (omega arith) tied)

    pub seek_gap : (es : List (List ℕ × X)) (at : ℕ) → at ≤ length (keys_of es) → ((j : ℕ) → j < at → key_cmp (get_or (keys_of es) j []) key ≡ Less) → ((j : ℕ) → at ≤ j → j < length (keys_of es) → key_cmp (get_or (keys_of es) j []) key ≡ Greater) → seek (key_cmp key) es ≡ Err at
    seek_gap [] zero within low high = refl
    seek_gap [] (suc at) within low high = absurd (omega arith)
    seek_gap (e ∷ es) zero within low high = seek_step e es Less (Greater-turned e.0 key (high 0 (omega arith) (omega arith)))
    seek_gap (e ∷ es) (suc at) within low high =
        seek_step e es Greater (Less-turned e.0 key (low 0 (omega arith)))
        ∙ ap one_further (seek_gap es at (omega arith) (λ j h. low (suc j) (omega arith)) (λ j h l. high (suc j) (omega arith) (omega arith)))

  upto_step : (k : List ℕ) (ks : List (List ℕ)) (b : Bool) → key_lt key k ≡ b → bounds_upto key (k ∷ ks) ≡ cond b 0 (suc (bounds_upto key ks))
  upto_step k ks b h = ap (λ t. cond t 0 (suc (bounds_upto key ks))) h

  pub upto_gap : (ks : List (List ℕ)) (at : ℕ) → at ≤ length ks → ((j : ℕ) → j < at → key_lt key (get_or ks j []) ≡ false) → (at < length ks → key_lt key (get_or ks at []) ≡ true) → bounds_upto key ks ≡ at
  upto_gap [] zero within low high = refl
  upto_gap [] (suc at) within low high = absurd (omega arith)
  upto_gap (k ∷ ks) zero within low high = upto_step k ks true (high (omega arith))
  upto_gap (k ∷ ks) (suc at) within low high =
      upto_step k ks false (low 0 (omega arith)) ∙ ap suc (upto_gap ks at (omega arith) (λ j h. low (suc j) (omega arith)) (λ h. high (omega arith)))

  -- ---- a place between two neighbours

  pub gap_here : {X : Type 0} (es : List (List ℕ × X)) (place : ℕ) → IsStrictlySortedBy key_cmp (keys_of es) → place ≤ length (keys_of es) → (0 < place → key_lt (get_or (keys_of es) (place - 1) []) key ≡ true) → (place < length (keys_of es) → key_lt key (get_or (keys_of es) place []) ≡ true) → seek (key_cmp key) es ≡ Err place
  gap_here es place sorted within before after =
      let ks = keys_of es in
      seek_gap es place within
      (λ j h. elim (cases_lt j (place - 1)) [
        | inl lower ↦
            let inside : place - 1 < length ks = omega arith in
            nat_list_cmp_total.trans (get_or ks j []) (get_or ks (place - 1) []) key (Less-from_sorted key_cmp ks j (place - 1) [] sorted lower inside) (below_Less (get_or ks (place - 1) []) key (before (omega arith)))
        | inr last ↦
            let same : place - 1 ≡ j = omega arith in
            subst (λ i. key_cmp (get_or ks i []) key ≡ Less) same (below_Less (get_or ks (place - 1) []) key (before (omega arith)))
      ])
      (λ j h l. elim (cases_lt place j) [
        | inl higher ↦
            Less-turned key (get_or ks j []) (nat_list_cmp_total.trans key (get_or ks place []) (get_or ks j []) (below_Less key (get_or ks place []) (after (omega arith))) (Less-from_sorted key_cmp ks place j [] sorted higher l))
        | inr first ↦
            let same : place ≡ j = omega arith in
            subst (λ i. key_cmp (get_or ks i []) key ≡ Greater) same (Less-turned key (get_or ks place []) (below_Less key (get_or ks place []) (after (omega arith))))
      ])

  pub upto_here : (ks : List (List ℕ)) (block : ℕ) → IsStrictlySortedBy key_cmp ks → block ≤ length ks → (0 < block → key_lt key (get_or ks (block - 1) []) ≡ false) → (block < length ks → key_lt key (get_or ks block []) ≡ true) → bounds_upto key ks ≡ block
  upto_here ks block sorted within from before =
      upto_gap ks block within
      (λ j h. elim (cases_lt j (block - 1)) [
        | inl lower ↦
            let inside : block - 1 < length ks = omega arith in
            below_back (get_or ks j []) key (below_upto (get_or ks j []) (get_or ks (block - 1) []) key (ap is_lt (Less-from_sorted key_cmp ks j (block - 1) [] sorted lower inside)) (from (omega arith)))
        | inr last ↦
            let same : block - 1 ≡ j = omega arith in
            subst (λ i. key_lt key (get_or ks i []) ≡ false) same (from (omega arith))
      ])
      before

  -- the same of keys that are read as a slice
  pub gap_in : {X : Type 0} (es : List (List ℕ × X)) (l : List (List ℕ)) (place : ℕ) → l ≡ keys_of es → IsStrictlySortedBy key_cmp (keys_of es) → place ≤ length l → (0 < place → key_lt (get_or l (place - 1) []) key ≡ true) → (place < length l → key_lt key (get_or l place []) ≡ true) → seek (key_cmp key) es ≡ Err place
  gap_in es l place are sorted within before after =
      gap_here es place sorted (subst (λ x. place ≤ length x) are within)
      (subst (λ x. 0 < place → key_lt (get_or x (place - 1) []) key ≡ true) are before) (subst (λ x. place < length x → key_lt key (get_or x place []) ≡ true) are after)

  pub upto_in : (ks l : List (List ℕ)) (block : ℕ) → l ≡ ks → IsStrictlySortedBy key_cmp ks → block ≤ length l → (0 < block → key_lt key (get_or l (block - 1) []) ≡ false) → (block < length l → key_lt key (get_or l block []) ≡ true) → block ≡ bounds_upto key ks
  upto_in ks l block are sorted within from before =
      sym (upto_here ks block sorted (subst (λ x. block ≤ length x) are within)
      (subst (λ x. 0 < block → key_lt key (get_or x (block - 1) []) ≡ false) are from) (subst (λ x. block < length x → key_lt key (get_or x block []) ≡ true) are before))

  -- the key that the place of a search comes behind, where it is that
  pub found_in : {X : Type 0} (es : List (List ℕ × X)) (l : List (List ℕ)) (place : ℕ) → l ≡ keys_of es → IsStrictlySortedBy key_cmp (keys_of es) → 0 < place → place ≤ length l → key_cmp (get_or l (place - 1) []) key ≡ Equal → seek (key_cmp key) es ≡ Ok (place - 1)
  found_in es l place are sorted some within tied =
      seek_found es (place - 1) sorted (subst (λ x. place - 1 < length x) are (omega arith)) (subst (λ x. key_cmp (get_or x (place - 1) []) key ≡ Equal) are tied)

  -- where it is another one
  pub gap_upto : {X : Type 0} (es : List (List ℕ × X)) (l : List (List ℕ)) (place : ℕ) → l ≡ keys_of es → IsStrictlySortedBy key_cmp (keys_of es) → place ≤ length l → (0 < place → key_lt key (get_or l (place - 1) []) ≡ false) → (0 < place → key_cmp (get_or l (place - 1) []) key ≡ Equal → ⊥) → (place < length l → key_lt key (get_or l place []) ≡ true) → seek (key_cmp key) es ≡ Err place
  gap_upto es l place are sorted within from apart before =
      gap_in es l place are sorted within (λ some. apart_below (get_or l (place - 1) []) (key_cmp (get_or l (place - 1) []) key) refl (from some) (apart some)) before
    where
      apart_below : (own : List ℕ) (order : Ordering) → key_cmp own key ≡ order → key_lt key own ≡ false → (key_cmp own key ≡ Equal → ⊥) → key_lt own key ≡ true
      apart_below own Less is from apart = ap is_lt is
      apart_below own Equal is from apart = absurd (apart is)
      apart_below own Greater is from apart = absurd (true≢false (sym (ap is_lt (Greater-turned own key is)) ∙ from))
