-- The entries of blocks that lie in a range of keys: the end of one block, whole blocks, and the begin of another.
use Rattle.std.proofs.Common.{◌≡◌, ℕ, suc, ◌+◌, ◌-◌, ◌<◌, ◌≤◌, true, false, cond, inl, inr, List, [], ◌∷◌, ◌++◌, length, take, take_all, drop, length-drop, slice_range, filter, append-nil, append_assoc, sym, ap, ◌∙◌, subst, arith}
use Rattle.std.proofs.lemmas.Bool.{cases_Bool}
use Rattle.std.proofs.lemmas.List.Elements.{filter-append}
use Rattle.std.specs.BTreeMap.Range.{entries_between}
use Rattle.std.specs.List.Sorted.{IsStrictlySortedBy}
use Rattle.std.specs.Map.{keys_of}
use Rattle.std.specs.declared.ops.Bound.TheVariants.{Included, Excluded}
use Rattle.kv_core.specs.Bytes.{key_cmp, key_lt}
use Rattle.block_map.specs.Blocks.{AreParted, AreLaid, IsWhole, block_at, block_entries, bounds_upto}
use Rattle.block_map.proofs.Keys.{below_chain, sorted_left, sorted_right}
use Rattle.block_map.proofs.Ranged.{all_until, backward, between-inside, inside, none_ahead, none_behind, none_until, onward, onward_ahead, place, places_rise, ranged, until, until_behind}

-- a greater key belongs to the same block or a later one
pub upto-rises : (lo hi : List ℕ) → key_lt lo hi ≡ true → (ks : List (List ℕ)) → bounds_upto lo ks ≤ bounds_upto hi ks
upto-rises lo hi forward [] = omega arith
upto-rises lo hi forward (k ∷ ks) =
    let more = upto-rises lo hi forward ks in
    elim (cases_Bool (key_lt hi k)) [
      | inl under ↦
          let low : bounds_upto lo (k ∷ ks) ≡ 0 = ap (λ b. cond b 0 (suc (bounds_upto lo ks))) (below_chain lo hi k forward under) in omega arith
      | inr over ↦
          let high : bounds_upto hi (k ∷ ks) ≡ suc (bounds_upto hi ks) = ap (λ b. cond b 0 (suc (bounds_upto hi ks))) over in
          elim (key_lt lo k) as (λ b. cond b 0 (suc (bounds_upto lo ks)) ≤ bounds_upto hi (k ∷ ks)) [ true ↦ omega arith | false ↦ omega arith ]
    ]

module _ {X : Type 0} where
  -- the entries before a key: whole blocks, and the begin of one
  abbrev begun : List ℕ → ℕ → List (List (List ℕ × X)) → List (List ℕ × X)
  begun hi j bs = block_entries (take j bs) ++ take (place hi (block_at bs j)) (block_at bs j)

  until-parted : (hi : List ℕ) (first : List (List ℕ × X)) (ks : List (List ℕ)) (bs : List (List (List ℕ × X))) → AreParted first ks bs → IsStrictlySortedBy key_cmp (keys_of (first ++ block_entries bs)) → filter (λ e. key_lt e.0 hi) (first ++ block_entries bs) ≡ begun hi (bounds_upto hi ks) (first ∷ bs)
  until-parted hi first [] [] parted sorted = ap (filter (λ e. key_lt e.0 hi)) (append-nil first) ∙ until hi first (sorted_left first [] sorted)
  until-parted hi first [] (b ∷ bs) parted sorted = absurd parted
  until-parted hi first (k ∷ ks) [] parted sorted = absurd parted
  until-parted hi first (k ∷ ks) (b ∷ bs) parted sorted =
      filter-append (λ e. key_lt e.0 hi) first (b ++ block_entries bs)
      ∙ elim (cases_Bool (key_lt hi k)) [
        | inl under ↦
            (λ i. until hi first (sorted_left first (b ++ block_entries bs) sorted) i ++ none_until hi k under (b ++ block_entries bs) parted.1 i)
            ∙ append-nil (take (place hi first) first)
            ∙ sym (ap (λ t. begun hi (cond t 0 (suc (bounds_upto hi ks))) (first ∷ b ∷ bs)) under)
        | inr over ↦
            (λ i. all_until hi k over first parted.0 i ++ until-parted hi b ks bs parted.3 (sorted_right first (b ++ block_entries bs) sorted) i)
            ∙ sym (append_assoc first (block_entries (take (bounds_upto hi ks) (b ∷ bs))) (take (place hi (block_at (b ∷ bs) (bounds_upto hi ks))) (block_at (b ∷ bs) (bounds_upto hi ks))))
            ∙ sym (ap (λ t. begun hi (cond t 0 (suc (bounds_upto hi ks))) (first ∷ b ∷ bs)) over)
      ]

  module _ (lo hi : List ℕ) (forward : key_lt lo hi ≡ true) where
    -- what lies in one block
    abbrev alone : ℕ → ℕ → List (List (List ℕ × X)) → List (List ℕ × X)
    alone i j bs = slice_range (block_at bs i) (place lo (block_at bs i)) (place hi (block_at bs j))

    -- what lies in several
    abbrev over_blocks : ℕ → ℕ → List (List (List ℕ × X)) → List (List ℕ × X)
    over_blocks i j bs = drop (place lo (block_at bs i)) (block_at bs i) ++ (block_entries (slice_range bs (suc i) j) ++ take (place hi (block_at bs j)) (block_at bs j))

    alone-parted : (first : List (List ℕ × X)) (ks : List (List ℕ)) (bs : List (List (List ℕ × X))) → AreParted first ks bs → IsStrictlySortedBy key_cmp (keys_of (first ++ block_entries bs)) → bounds_upto lo ks ≡ bounds_upto hi ks → filter (λ e. inside lo hi e.0) (first ++ block_entries bs) ≡ alone (bounds_upto lo ks) (bounds_upto hi ks) (first ∷ bs)
    alone-parted first [] [] parted sorted one = ap (filter (λ e. inside lo hi e.0)) (append-nil first) ∙ ranged lo hi forward first (sorted_left first [] sorted)
    alone-parted first [] (b ∷ bs) parted sorted one = absurd parted
    alone-parted first (k ∷ ks) [] parted sorted one = absurd parted
    alone-parted first (k ∷ ks) (b ∷ bs) parted sorted one =
        filter-append (λ e. inside lo hi e.0) first (b ++ block_entries bs)
        ∙ elim (cases_Bool (key_lt hi k)) [
          | inl under ↦
              (λ i. ranged lo hi forward first (sorted_left first (b ++ block_entries bs) sorted) i ++ none_behind lo hi k under (b ++ block_entries bs) parted.1 i)
              ∙ append-nil (slice_range first (place lo first) (place hi first))
              ∙ sym (λ i. alone (cond (below_chain lo hi k forward under i) 0 (suc (bounds_upto lo ks))) (cond (under i) 0 (suc (bounds_upto hi ks))) (first ∷ b ∷ bs))
          | inr over ↦ elim (cases_Bool (key_lt lo k)) [
            | inl apart ↦
                let low : bounds_upto lo (k ∷ ks) ≡ 0 = ap (λ t. cond t 0 (suc (bounds_upto lo ks))) apart in
                let high : bounds_upto hi (k ∷ ks) ≡ suc (bounds_upto hi ks) = ap (λ t. cond t 0 (suc (bounds_upto hi ks))) over in
                absurd (omega arith)
            | inr from ↦
                let low : bounds_upto lo (k ∷ ks) ≡ suc (bounds_upto lo ks) = ap (λ t. cond t 0 (suc (bounds_upto lo ks))) from in
                let high : bounds_upto hi (k ∷ ks) ≡ suc (bounds_upto hi ks) = ap (λ t. cond t 0 (suc (bounds_upto hi ks))) over in
                (λ i. none_ahead lo hi k from first parted.0 i ++ alone-parted b ks bs parted.3 (sorted_right first (b ++ block_entries bs) sorted) (omega arith) i)
                ∙ sym (λ i. alone (cond (from i) 0 (suc (bounds_upto lo ks))) (cond (over i) 0 (suc (bounds_upto hi ks))) (first ∷ b ∷ bs))
          ]
        ]

    over-parted : (first : List (List ℕ × X)) (ks : List (List ℕ)) (bs : List (List (List ℕ × X))) → AreParted first ks bs → IsStrictlySortedBy key_cmp (keys_of (first ++ block_entries bs)) → bounds_upto lo ks < bounds_upto hi ks → filter (λ e. inside lo hi e.0) (first ++ block_entries bs) ≡ over_blocks (bounds_upto lo ks) (bounds_upto hi ks) (first ∷ bs)
    over-parted first [] [] parted sorted more = absurd (omega arith)
    over-parted first [] (b ∷ bs) parted sorted more = absurd parted
    over-parted first (k ∷ ks) [] parted sorted more = absurd parted
    over-parted first (k ∷ ks) (b ∷ bs) parted sorted more =
        filter-append (λ e. inside lo hi e.0) first (b ++ block_entries bs)
        ∙ elim (cases_Bool (key_lt hi k)) [
          | inl under ↦
              let high : bounds_upto hi (k ∷ ks) ≡ 0 = ap (λ t. cond t 0 (suc (bounds_upto hi ks))) under in absurd (omega arith)
          | inr over ↦ elim (cases_Bool (key_lt lo k)) [
            | inl apart ↦
                let one : suc (bounds_upto hi ks) - 1 ≡ bounds_upto hi ks = omega arith in
                (λ i. (onward_ahead lo hi k over first parted.0 ∙ onward lo first (sorted_left first (b ++ block_entries bs) sorted)) i
                ++ (until_behind lo hi k apart (b ++ block_entries bs) parted.1 ∙ until-parted hi b ks bs parted.3 (sorted_right first (b ++ block_entries bs) sorted)) i)
                ∙ sym (ap (λ n. drop (place lo first) first ++ (block_entries (take n (b ∷ bs)) ++ take (place hi (block_at (b ∷ bs) (bounds_upto hi ks))) (block_at (b ∷ bs) (bounds_upto hi ks)))) one)
                ∙ sym (λ i. over_blocks (cond (apart i) 0 (suc (bounds_upto lo ks))) (cond (over i) 0 (suc (bounds_upto hi ks))) (first ∷ b ∷ bs))
            | inr from ↦
                let low : bounds_upto lo (k ∷ ks) ≡ suc (bounds_upto lo ks) = ap (λ t. cond t 0 (suc (bounds_upto lo ks))) from in
                let high : bounds_upto hi (k ∷ ks) ≡ suc (bounds_upto hi ks) = ap (λ t. cond t 0 (suc (bounds_upto hi ks))) over in
                let one : suc (bounds_upto hi ks) - suc (suc (bounds_upto lo ks)) ≡ bounds_upto hi ks - suc (bounds_upto lo ks) = omega arith in
                (λ i. none_ahead lo hi k from first parted.0 i ++ over-parted b ks bs parted.3 (sorted_right first (b ++ block_entries bs) sorted) (omega arith) i)
                ∙ sym (ap (λ n. drop (place lo (block_at (b ∷ bs) (bounds_upto lo ks))) (block_at (b ∷ bs) (bounds_upto lo ks)) ++ (block_entries (take n (drop (suc (bounds_upto lo ks)) (b ∷ bs))) ++ take (place hi (block_at (b ∷ bs) (bounds_upto hi ks))) (block_at (b ∷ bs) (bounds_upto hi ks)))) one)
                ∙ sym (λ i. over_blocks (cond (from i) 0 (suc (bounds_upto lo ks))) (cond (over i) 0 (suc (bounds_upto hi ks))) (first ∷ b ∷ bs))
          ]
        ]

    pub alone-laid : (ks : List (List ℕ)) (bs : List (List (List ℕ × X))) → AreLaid ks bs → 0 < length bs → IsStrictlySortedBy key_cmp (keys_of (block_entries bs)) → bounds_upto lo ks ≡ bounds_upto hi ks → filter (λ e. inside lo hi e.0) (block_entries bs) ≡ alone (bounds_upto lo ks) (bounds_upto hi ks) bs
    alone-laid ks [] laid some sorted one = absurd (omega arith)
    alone-laid ks (b ∷ bs) laid some sorted one = alone-parted b ks bs laid sorted one

    pub over-laid : (ks : List (List ℕ)) (bs : List (List (List ℕ × X))) → AreLaid ks bs → 0 < length bs → IsStrictlySortedBy key_cmp (keys_of (block_entries bs)) → bounds_upto lo ks < bounds_upto hi ks → filter (λ e. inside lo hi e.0) (block_entries bs) ≡ over_blocks (bounds_upto lo ks) (bounds_upto hi ks) bs
    over-laid ks [] laid some sorted more = absurd (omega arith)
    over-laid ks (b ∷ bs) laid some sorted more = over-parted b ks bs laid sorted more

  -- a range that doesn't run forwards has no entries
  pub none_between : (lo hi : List ℕ) → key_lt lo hi ≡ false → (es : List (List ℕ × X)) → [] ≡ entries_between key_cmp (Included lo) (Excluded hi) es
  none_between lo hi back es = sym (between-inside lo hi es ∙ backward lo hi back es)

  -- ---- the same of blocks and places that were found

  module _ (lo hi : List ℕ) (forward : key_lt lo hi ≡ true) (ks : List (List ℕ)) (bs : List (List (List ℕ × X))) (whole : IsWhole ks bs) (some : 0 < length bs) (i j from to : ℕ) (first : i ≡ bounds_upto lo ks) (last : j ≡ bounds_upto hi ks) (from_is : from ≡ place lo (block_at bs i)) (to_is : to ≡ place hi (block_at bs j)) where
    pub places_in_one : i ≡ j → from ≤ to
    places_in_one one = subst (λ n. n ≤ to) (sym from_is) (subst (λ n. place lo (block_at bs i) ≤ n) (ap (λ b. place hi (block_at bs b)) one ∙ sym to_is) (places_rise lo hi forward (block_at bs i)))

    pub later_block : i ≤ j
    later_block = omega (arith, upto-rises lo hi forward ks)

    pub in_one : (head : List (List ℕ × X)) → head ≡ block_at bs i → i ≡ j → slice_range head from to ≡ entries_between key_cmp (Included lo) (Excluded hi) (block_entries bs)
    in_one head is one =
        (λ t. slice_range (is t) (from_is t) (to_is t))
        ∙ (λ t. alone lo hi forward (first t) (last t) bs)
        ∙ sym (between-inside lo hi (block_entries bs) ∙ alone-laid lo hi forward ks bs whole.laid some whole.sorted (sym first ∙ one ∙ last))

    pub in_several : (head tail : List (List ℕ × X)) (middle : List (List (List ℕ × X))) → head ≡ block_at bs i → tail ≡ block_at bs j → middle ≡ slice_range bs (i + 1) j → i < j → slice_range head from (length head) ++ (block_entries middle ++ slice_range tail 0 to) ≡ entries_between key_cmp (Included lo) (Excluded hi) (block_entries bs)
    in_several head tail middle is tail_is middle_is later =
        let next : i + 1 ≡ suc i = omega arith in
        let all : to - 0 ≡ to = omega arith in
        (λ t. take_all (length head - from) (drop from head) (omega (arith, length-drop from head)) t ++ (block_entries (middle_is t) ++ take (all t) tail))
        ∙ (λ t. drop (from_is t) (is t) ++ (block_entries (slice_range bs (next t) j) ++ take (to_is t) (tail_is t)))
        ∙ (λ t. over_blocks lo hi forward (first t) (last t) bs)
        ∙ sym (between-inside lo hi (block_entries bs) ∙ over-laid lo hi forward ks bs whole.laid some whole.sorted (omega arith))
