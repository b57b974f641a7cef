-- The entries of a list in order that lie in a range of keys: those from one place up to another.
use Rattle.std.proofs.Common.{◌≡◌, ℕ, suc, ◌-◌, ◌≤◌, Bool, true, false, cond, not, ◌&&◌, inl, inr, ◌⊎◌, Ordering, Less, Equal, Greater, Result, Ok, Err, List, [], ◌∷◌, length, take, drop, slice_range, filter, refl, sym, ap, ◌∙◌, arith}
use Rattle.std.proofs.lemmas.Bool.{cases_Bool}
use Rattle.std.proofs.lemmas.List.Elements.{filter_agree}
use Rattle.std.proofs.lemmas.Map.Keys.{sorted_head, sorted_tail}
use Rattle.std.specs.BTreeMap.Range.{entries_between}
use Rattle.std.specs.declared.ops.Bound.TheVariants.{Included, Excluded}
use Rattle.std.specs.List.{AllByRecursion}
use Rattle.std.specs.List.Sorted.{IsStrictlySortedBy}
use Rattle.std.specs.Map.{keys_of}
use Rattle.std.specs.Ordering.{is_gt, is_le, is_lt, match_ordering}
use Rattle.std_collections.specs.Layout.BTreeMap.{one_further, seek}
use Rattle.kv_core.specs.Bytes.{key_cmp, key_lt}
use Rattle.kv_core.proofs.Order.{lt_is_gt}
use Rattle.block_map.specs.Blocks.{AreBefore, AreFrom, search_place}
use Rattle.block_map.proofs.Keys.{below_back, below_chain, below_upto, upto_upto}

-- whether a key lies in the range
abbrev pub inside : List ℕ → List ℕ → List ℕ → Bool
inside lo hi key = not (key_lt key lo) && key_lt key hi

le_is : (r : Ordering) → is_le r ≡ not (is_gt r)
le_is Less = refl
le_is Equal = refl
le_is Greater = refl

not_le : (r : Ordering) → not (is_le r) ≡ is_gt r
not_le Less = refl
not_le Equal = refl
not_le Greater = refl

within : (lo hi key : List ℕ) → (is_le (key_cmp lo key) && not (is_le (key_cmp hi key))) ≡ inside lo hi key
within lo hi key = λ i. (le_is (key_cmp lo key) ∙ ap not (sym (lt_is_gt lo key))) i && (not_le (key_cmp hi key) ∙ sym (lt_is_gt hi key)) i

further : (r : Result ℕ ℕ) → search_place (one_further r) ≡ suc (search_place r)
further (Ok at) = refl
further (Err at) = refl

out_low : (lo hi k : List ℕ) → key_lt k lo ≡ true → inside lo hi k ≡ false
out_low lo hi k h = ap (λ b. not b && key_lt k hi) h

in_low : (lo hi k : List ℕ) → key_lt k lo ≡ false → inside lo hi k ≡ key_lt k hi
in_low lo hi k h = ap (λ b. not b && key_lt k hi) h

drop_true : (b : Bool) → (b && true) ≡ b
drop_true true = refl
drop_true false = refl

drop_false : (b : Bool) → (b && false) ≡ false
drop_false true = refl
drop_false false = refl

out_high : (lo hi k : List ℕ) → key_lt k hi ≡ false → inside lo hi k ≡ false
out_high lo hi k h = ap (λ b. not (key_lt k lo) && b) h ∙ drop_false (not (key_lt k lo))

in_high : (lo hi k : List ℕ) → key_lt k hi ≡ true → inside lo hi k ≡ not (key_lt k lo)
in_high lo hi k h = ap (λ b. not (key_lt k lo) && b) h ∙ drop_true (not (key_lt k lo))

module _ {X : Type 0} where
  -- the entries that std's ranges have
  pub between-inside : (lo hi : List ℕ) (es : List (List ℕ × X)) → entries_between key_cmp (Included lo) (Excluded hi) es ≡ filter (λ e. inside lo hi e.0) es
  between-inside lo hi es = filter_agree (λ e. is_le (key_cmp lo e.0) && not (is_le (key_cmp hi e.0))) (λ e. inside lo hi e.0) (λ e. within lo hi e.0) es

  -- how many keys come before a key
  abbrev pub place : List ℕ → List (List ℕ × X) → ℕ
  place key es = search_place (seek (key_cmp key) es)

  place_step : (key : List ℕ) (e : List ℕ × X) (es : List (List ℕ × X)) → place key (e ∷ es) ≡ cond (key_lt e.0 key) (suc (place key es)) 0
  place_step key e es =
      by (key_cmp key e.0) ∙ ap (λ b. cond b (suc (place key es)) 0) (sym (lt_is_gt key e.0))
    where
      by : (r : Ordering) → search_place (match_ordering r (Err 0) (Ok 0) (one_further (seek (key_cmp key) es))) ≡ cond (is_gt r) (suc (place key es)) 0
      by Less = refl
      by Equal = refl
      by Greater = further (seek (key_cmp key) es)

  place_past : (key : List ℕ) (e : List ℕ × X) (es : List (List ℕ × X)) → key_lt e.0 key ≡ true → place key (e ∷ es) ≡ suc (place key es)
  place_past key e es h = place_step key e es ∙ ap (λ b. cond b (suc (place key es)) 0) h

  place_here : (key : List ℕ) (e : List ℕ × X) (es : List (List ℕ × X)) → key_lt e.0 key ≡ false → place key (e ∷ es) ≡ 0
  place_here key e es h = place_step key e es ∙ ap (λ b. cond b (suc (place key es)) 0) h

  pub place-fits : (key : List ℕ) (es : List (List ℕ × X)) → place key es ≤ length es
  place-fits key [] = omega arith
  place-fits key (e ∷ es) = let more = place-fits key es in elim (cases_Bool (key_lt e.0 key)) [
    | inl past ↦ omega (arith, place_past key e es past)
    | inr here ↦ omega (arith, place_here key e es here)
  ]

  -- what follows an entry from a key on does too
  rest_from : (key : List ℕ) (e : List ℕ × X) (es : List (List ℕ × X)) → IsStrictlySortedBy key_cmp (keys_of (e ∷ es)) → key_lt e.0 key ≡ false → AreFrom key es
  rest_from key e es sorted from = each es (sorted_head key_cmp e.0 (keys_of es) sorted)
    where
      each : (fs : List (List ℕ × X)) → AllByRecursion (λ k. key_cmp e.0 k ≡ Less) (keys_of fs) → AreFrom key fs
      each [] all = tt
      each (f ∷ fs) all = (upto_upto key e.0 f.0 from (below_back e.0 f.0 (ap is_lt all.0)), each fs all.1)

  pub none_from : (key : List ℕ) (p : List ℕ → Bool) → ((k : List ℕ) → key_lt k key ≡ false → p k ≡ false) → (es : List (List ℕ × X)) → AreFrom key es → filter (λ e. p e.0) es ≡ []
  none_from key p fails [] all = refl
  none_from key p fails (e ∷ es) all = ap (λ b. cond b (e ∷ filter (λ f. p f.0) es) (filter (λ f. p f.0) es)) (fails e.0 all.0) ∙ none_from key p fails es all.1

  pub none_before : (key : List ℕ) (p : List ℕ → Bool) → ((k : List ℕ) → key_lt k key ≡ true → p k ≡ false) → (es : List (List ℕ × X)) → AreBefore key es → filter (λ e. p e.0) es ≡ []
  none_before key p fails [] all = refl
  none_before key p fails (e ∷ es) all = ap (λ b. cond b (e ∷ filter (λ f. p f.0) es) (filter (λ f. p f.0) es)) (fails e.0 all.0) ∙ none_before key p fails es all.1

  -- two tests that agree from a key on, or before one
  pub same_from : (key : List ℕ) (p q : List ℕ → Bool) → ((k : List ℕ) → key_lt k key ≡ false → p k ≡ q k) → (es : List (List ℕ × X)) → AreFrom key es → filter (λ e. p e.0) es ≡ filter (λ e. q e.0) es
  same_from key p q same [] all = refl
  same_from key p q same (e ∷ es) all = λ i. cond (same e.0 all.0 i) (e ∷ same_from key p q same es all.1 i) (same_from key p q same es all.1 i)

  pub same_before : (key : List ℕ) (p q : List ℕ → Bool) → ((k : List ℕ) → key_lt k key ≡ true → p k ≡ q k) → (es : List (List ℕ × X)) → AreBefore key es → filter (λ e. p e.0) es ≡ filter (λ e. q e.0) es
  same_before key p q same [] all = refl
  same_before key p q same (e ∷ es) all = λ i. cond (same e.0 all.0 i) (e ∷ same_before key p q same es all.1 i) (same_before key p q same es all.1 i)

  pub all_pass : (es : List (List ℕ × X)) → filter (λ _. true) es ≡ es
  all_pass [] = refl
  all_pass (e ∷ es) = ap (λ l. e ∷ l) (all_pass es)

  -- the entries before a key are the first ones
  pub until : (hi : List ℕ) (es : List (List ℕ × X)) → IsStrictlySortedBy key_cmp (keys_of es) → filter (λ e. key_lt e.0 hi) es ≡ take (place hi es) es
  until hi [] sorted = refl
  until hi (e ∷ es) sorted = elim (cases_Bool (key_lt e.0 hi)) [
    | inl past ↦
        ap (λ b. cond b (e ∷ filter (λ f. key_lt f.0 hi) es) (filter (λ f. key_lt f.0 hi) es)) past
        ∙ ap (λ l. e ∷ l) (until hi es (sorted_tail key_cmp e.0 (keys_of es) sorted))
        ∙ sym (ap (λ n. take n (e ∷ es)) (place_past hi e es past))
    | inr here ↦
        ap (λ b. cond b (e ∷ filter (λ f. key_lt f.0 hi) es) (filter (λ f. key_lt f.0 hi) es)) here
        ∙ none_from hi (λ k. key_lt k hi) (λ k h. h) es (rest_from hi e es sorted here)
        ∙ sym (ap (λ n. take n (e ∷ es)) (place_here hi e es here))
  ]

  -- those from a key on are the last ones
  pub onward : (lo : List ℕ) (es : List (List ℕ × X)) → IsStrictlySortedBy key_cmp (keys_of es) → filter (λ e. not (key_lt e.0 lo)) es ≡ drop (place lo es) es
  onward lo [] sorted = refl
  onward lo (e ∷ es) sorted = elim (cases_Bool (key_lt e.0 lo)) [
    | inl past ↦
        ap (λ b. cond (not b) (e ∷ filter (λ f. not (key_lt f.0 lo)) es) (filter (λ f. not (key_lt f.0 lo)) es)) past
        ∙ onward lo es (sorted_tail key_cmp e.0 (keys_of es) sorted)
        ∙ sym (ap (λ n. drop n (e ∷ es)) (place_past lo e es past))
    | inr here ↦
        ap (λ b. cond (not b) (e ∷ filter (λ f. not (key_lt f.0 lo)) es) (filter (λ f. not (key_lt f.0 lo)) es)) here
        ∙ ap (λ l. e ∷ l) (same_from lo (λ k. not (key_lt k lo)) (λ _. true) (λ k h. ap not h) es (rest_from lo e es sorted here) ∙ all_pass es)
        ∙ sym (ap (λ n. drop n (e ∷ es)) (place_here lo e es here))
  ]

  -- parts of a list against a bound
  pub none_behind : (lo hi bound : List ℕ) → key_lt hi bound ≡ true → (es : List (List ℕ × X)) → AreFrom bound es → filter (λ e. inside lo hi e.0) es ≡ []
  none_behind lo hi bound before es all = none_from bound (inside lo hi) (λ k h. out_high lo hi k (below_back hi k (below_upto hi bound k before h))) es all

  pub none_until : (hi bound : List ℕ) → key_lt hi bound ≡ true → (es : List (List ℕ × X)) → AreFrom bound es → filter (λ e. key_lt e.0 hi) es ≡ []
  none_until hi bound before es all = none_from bound (λ k. key_lt k hi) (λ k h. below_back hi k (below_upto hi bound k before h)) es all

  pub none_ahead : (lo hi bound : List ℕ) → key_lt lo bound ≡ false → (es : List (List ℕ × X)) → AreBefore bound es → filter (λ e. inside lo hi e.0) es ≡ []
  none_ahead lo hi bound from es all = none_before bound (inside lo hi) (λ k h. out_low lo hi k (below_upto k bound lo h from)) es all

  pub all_until : (hi bound : List ℕ) → key_lt hi bound ≡ false → (es : List (List ℕ × X)) → AreBefore bound es → filter (λ e. key_lt e.0 hi) es ≡ es
  all_until hi bound from es all = same_before bound (λ k. key_lt k hi) (λ _. true) (λ k h. below_upto k bound hi h from) es all ∙ all_pass es

  pub onward_ahead : (lo hi bound : List ℕ) → key_lt hi bound ≡ false → (es : List (List ℕ × X)) → AreBefore bound es → filter (λ e. inside lo hi e.0) es ≡ filter (λ e. not (key_lt e.0 lo)) es
  onward_ahead lo hi bound from es all = same_before bound (inside lo hi) (λ k. not (key_lt k lo)) (λ k h. in_high lo hi k (below_upto k bound hi h from)) es all

  pub until_behind : (lo hi bound : List ℕ) → key_lt lo bound ≡ true → (es : List (List ℕ × X)) → AreFrom bound es → filter (λ e. inside lo hi e.0) es ≡ filter (λ e. key_lt e.0 hi) es
  until_behind lo hi bound before es all = same_from bound (inside lo hi) (λ k. key_lt k hi) (λ k h. in_low lo hi k (below_back lo k (below_upto lo bound k before h))) es all

  -- those between two keys are the ones from one place up to another
  pub ranged : (lo hi : List ℕ) → key_lt lo hi ≡ true → (es : List (List ℕ × X)) → IsStrictlySortedBy key_cmp (keys_of es) → filter (λ e. inside lo hi e.0) es ≡ slice_range es (place lo es) (place hi es)
  ranged lo hi forward [] sorted = refl
  ranged lo hi forward (e ∷ es) sorted =
      let more = sorted_tail key_cmp e.0 (keys_of es) sorted in
      elim (cases_Bool (key_lt e.0 lo)) [
        | inl past ↦
            let under = below_chain e.0 lo hi past forward in
            let less : suc (place hi es) - suc (place lo es) ≡ place hi es - place lo es = omega arith in
            ap (λ b. cond b (e ∷ filter (λ f. inside lo hi f.0) es) (filter (λ f. inside lo hi f.0) es)) (out_low lo hi e.0 past)
            ∙ ranged lo hi forward es more ∙ sym (ap (λ n. take n (drop (place lo es) es)) less)
            ∙ sym (λ i. slice_range (e ∷ es) (place_past lo e es past i) (place_past hi e es under i))
        | inr from ↦
            elim (cases_Bool (key_lt e.0 hi)) [
              | inl under ↦
                  let all : suc (place hi es) - 0 ≡ suc (place hi es) = omega arith in
                  ap (λ b. cond b (e ∷ filter (λ f. inside lo hi f.0) es) (filter (λ f. inside lo hi f.0) es)) (in_low lo hi e.0 from ∙ under)
                  ∙ ap (λ l. e ∷ l) (same_from lo (inside lo hi) (λ k. key_lt k hi) (λ k h. in_low lo hi k h) es (rest_from lo e es sorted from) ∙ until hi es more)
                  ∙ sym (ap (λ n. take n (e ∷ es)) all)
                  ∙ sym (λ i. slice_range (e ∷ es) (place_here lo e es from i) (place_past hi e es under i))
              | inr over ↦
                  let nothing : 0 - 0 ≡ 0 = omega arith in
                  ap (λ b. cond b (e ∷ filter (λ f. inside lo hi f.0) es) (filter (λ f. inside lo hi f.0) es)) (out_high lo hi e.0 over)
                  ∙ none_from hi (inside lo hi) (λ k h. out_high lo hi k h) es (rest_from hi e es sorted over)
                  ∙ sym (ap (λ n. take n (e ∷ es)) nothing)
                  ∙ sym (λ i. slice_range (e ∷ es) (place_here lo e es from i) (place_here hi e es over i))
            ]
      ]

  -- a range that doesn't run forwards has none
  pub backward : (lo hi : List ℕ) → key_lt lo hi ≡ false → (es : List (List ℕ × X)) → filter (λ e. inside lo hi e.0) es ≡ []
  backward lo hi back [] = refl
  backward lo hi back (e ∷ es) = ap (λ b. cond b (e ∷ filter (λ f. inside lo hi f.0) es) (filter (λ f. inside lo hi f.0) es)) (fails (cases_Bool (key_lt e.0 lo))) ∙ backward lo hi back es
    where
      fails : (key_lt e.0 lo ≡ true) ⊎ (key_lt e.0 lo ≡ false) → inside lo hi e.0 ≡ false
      fails (inl under) = out_low lo hi e.0 under
      fails (inr from) = out_high lo hi e.0 (upto_upto hi lo e.0 back from)

  -- a greater key's place isn't before
  pub places_rise : (lo hi : List ℕ) → key_lt lo hi ≡ true → (es : List (List ℕ × X)) → place lo es ≤ place hi es
  places_rise lo hi forward [] = omega arith
  places_rise lo hi forward (e ∷ es) = let more = places_rise lo hi forward es in elim (cases_Bool (key_lt e.0 lo)) [
    | inl past ↦ omega (arith, place_past lo e es past, place_past hi e es (below_chain e.0 lo hi past forward))
    | inr here ↦ omega (arith, place_here lo e es here)
  ]
