-- What a key is among blocks with bounds between them: a search among the bounds and then in one block is one among all
-- entries, and so is an edit there.
use Rattle.std.proofs.Common.{◌≡◌, ℕ, zero, suc, ◌+◌, ◌<◌, ◌≤◌, true, false, cond, inl, inr, Less, Greater, List, [], ◌∷◌, ◌++◌, length, append-nil, refl, sym, ap, ◌∙◌, subst, arith}
use Rattle.std.proofs.lemmas.Bool.{cases_Bool}
use Rattle.std.specs.BTreeMap.{insert_entry, is_at}
use Rattle.std.specs.List.{AllByRecursion}
use Rattle.std.specs.List.Sorted.{IsStrictlySortedBy}
use Rattle.std.specs.Map.{keys_of, lookup, remove_entry, set_value}
use Rattle.kv_core.specs.Bytes.{key_cmp, key_lt}
use Rattle.block_map.specs.Blocks.{AreParted, AreLaid, block_at, edited, block_entries, bounds_upto}
use Rattle.block_map.proofs.Around.{insert_entry-left, insert_entry-right, lookup-left, lookup-right, remove_entry-left, remove_entry-right, set_value-left, set_value-right}
use Rattle.block_map.proofs.Keys.{all_Greater, all_Less, below_Less, none_Greater, none_Less, sorted_left, sorted_right}

pub upto-le : (key : List ℕ) (ks : List (List ℕ)) → bounds_upto key ks ≤ length ks
upto-le key [] = omega arith
upto-le key (k ∷ ks) = let more = upto-le key ks in elim (key_lt key k) as (λ b. cond b 0 (suc (bounds_upto key ks)) ≤ length (k ∷ ks)) [ true ↦ omega arith | false ↦ omega arith ]

module _ {X : Type 0} where
  -- there is a block behind each bound
  pub parted_count : (first : List (List ℕ × X)) (ks : List (List ℕ)) (bs : List (List (List ℕ × X))) → AreParted first ks bs → length bs ≡ length ks
  parted_count first [] [] parted = refl
  parted_count first [] (b ∷ bs) parted = absurd parted
  parted_count first (k ∷ ks) [] parted = absurd parted
  parted_count first (k ∷ ks) (b ∷ bs) parted = ap suc (parted_count b ks bs parted.3)

  pub laid_count : (ks : List (List ℕ)) (bs : List (List (List ℕ × X))) → AreLaid ks bs → 0 < length bs → length bs ≡ length ks + 1
  laid_count ks [] laid some = absurd (omega arith)
  laid_count ks (b ∷ bs) laid some = let same = parted_count b ks bs laid in omega arith

  pub laid_most : (ks : List (List ℕ)) (bs : List (List (List ℕ × X))) → AreLaid ks bs → length bs ≤ length ks + 1
  laid_most ks [] laid = omega arith
  laid_most ks (b ∷ bs) laid = let same = parted_count b ks bs laid in omega arith

  pub upto-within : (key : List ℕ) (ks : List (List ℕ)) (bs : List (List (List ℕ × X))) → AreLaid ks bs → 0 < length bs → bounds_upto key ks < length bs
  upto-within key ks bs laid some = let same = laid_count ks bs laid some in let most = upto-le key ks in omega arith

  -- the bounds rise
  rising : (first : List (List ℕ × X)) (ks : List (List ℕ)) (bs : List (List (List ℕ × X))) → AreParted first ks bs → IsStrictlySortedBy key_cmp ks
  unfolding IsStrictlySortedBy
  rising first [] bs parted = tt
  rising first (k ∷ ks) [] parted = absurd parted
  rising first (k ∷ ks) (b ∷ bs) parted = (each ks parted.2, rising b ks bs parted.3)
    where
      each : (ns : List (List ℕ)) → AllByRecursion (λ n. key_lt k n ≡ true) ns → AllByRecursion (λ n. key_cmp k n ≡ Less) ns
      each [] all = tt
      each (n ∷ ns) all = (below_Less k n all.0, each ns all.1)

  pub bounds_rise : (ks : List (List ℕ)) (bs : List (List (List ℕ × X))) → AreLaid ks bs → IsStrictlySortedBy key_cmp ks
  unfolding IsStrictlySortedBy
  bounds_rise ks [] laid = subst (IsStrictlySortedBy key_cmp) (sym laid) tt
  bounds_rise ks (b ∷ bs) laid = rising b ks bs laid

  -- the keys of each block rise
  pub sorted_block : (bs : List (List (List ℕ × X))) (i : ℕ) → IsStrictlySortedBy key_cmp (keys_of (block_entries bs)) → IsStrictlySortedBy key_cmp (keys_of (block_at bs i))
  unfolding IsStrictlySortedBy
  sorted_block [] i sorted = tt
  sorted_block (b ∷ bs) zero sorted = sorted_left b (block_entries bs) sorted
  sorted_block (b ∷ bs) (suc i) sorted = sorted_block bs i (sorted_right b (block_entries bs) sorted)

  -- ---- a key's value

  lookup-parted : (key : List ℕ) (first : List (List ℕ × X)) (ks : List (List ℕ)) (bs : List (List (List ℕ × X))) → AreParted first ks bs → lookup (is_at (key_cmp key)) (first ++ block_entries bs) ≡ lookup (is_at (key_cmp key)) (block_at (first ∷ bs) (bounds_upto key ks))
  lookup-parted key first [] [] parted = ap (lookup (is_at (key_cmp key))) (append-nil first)
  lookup-parted key first [] (b ∷ bs) parted = absurd parted
  lookup-parted key first (k ∷ ks) [] parted = absurd parted
  lookup-parted key first (k ∷ ks) (b ∷ bs) parted = elim (cases_Bool (key_lt key k)) [
    | inl before ↦
        lookup-left (is_at (key_cmp key)) first (b ++ block_entries bs) (none_Less key (b ++ block_entries bs) (all_Less key k before (b ++ block_entries bs) parted.1))
        ∙ sym (ap (λ t. lookup (is_at (key_cmp key)) (block_at (first ∷ b ∷ bs) (cond t 0 (suc (bounds_upto key ks))))) before)
    | inr from ↦
        lookup-right (is_at (key_cmp key)) first (b ++ block_entries bs) (none_Greater key first (all_Greater key k from first parted.0))
        ∙ lookup-parted key b ks bs parted.3
        ∙ sym (ap (λ t. lookup (is_at (key_cmp key)) (block_at (first ∷ b ∷ bs) (cond t 0 (suc (bounds_upto key ks))))) from)
  ]

  pub lookup-laid : (key : List ℕ) (ks : List (List ℕ)) (bs : List (List (List ℕ × X))) → AreLaid ks bs → lookup (is_at (key_cmp key)) (block_entries bs) ≡ lookup (is_at (key_cmp key)) (block_at bs (bounds_upto key ks))
  lookup-laid key ks [] laid = refl
  lookup-laid key ks (b ∷ bs) laid = lookup-parted key b ks bs laid

  -- ---- an edit by a key: what comes before the key and what comes after it stays

  pub record EditsAt (key : List ℕ) (f : List (List ℕ × X) → List (List ℕ × X)) : Type 0 where
    pub left : (xs ys : List (List ℕ × X)) → AllByRecursion (λ e. key_cmp key e.0 ≡ Less) ys → f (xs ++ ys) ≡ f xs ++ ys
    pub right : (xs ys : List (List ℕ × X)) → AllByRecursion (λ e. key_cmp key e.0 ≡ Greater) xs → f (xs ++ ys) ≡ xs ++ f ys

  pub edits_insert : (key : List ℕ) (value : X) → EditsAt key (λ es. insert_entry key_cmp es key value)
  edits_insert key value = record { left = insert_entry-left key_cmp key value; right = insert_entry-right key_cmp key value }

  pub edits_remove : (key : List ℕ) → EditsAt key (remove_entry (is_at (key_cmp key)))
  edits_remove key = record {
    left = λ xs ys all. remove_entry-left (is_at (key_cmp key)) xs ys (none_Less key ys all);
    right = λ xs ys all. remove_entry-right (is_at (key_cmp key)) xs ys (none_Greater key xs all);
  }

  pub edits_set : (key : List ℕ) (value : X) → EditsAt key (λ es. set_value (is_at (key_cmp key)) es value)
  edits_set key value = record {
    left = λ xs ys all. set_value-left (is_at (key_cmp key)) value xs ys (none_Less key ys all);
    right = λ xs ys all. set_value-right (is_at (key_cmp key)) value xs ys (none_Greater key xs all);
  }

  edited-parted : (key : List ℕ) (f : List (List ℕ × X) → List (List ℕ × X)) → EditsAt key f → (first : List (List ℕ × X)) (ks : List (List ℕ)) (bs : List (List (List ℕ × X))) → AreParted first ks bs → f (first ++ block_entries bs) ≡ block_entries (edited (bounds_upto key ks) f (first ∷ bs))
  edited-parted key f edits first [] [] parted = ap f (append-nil first) ∙ sym (append-nil (f first))
  edited-parted key f edits first [] (b ∷ bs) parted = absurd parted
  edited-parted key f edits first (k ∷ ks) [] parted = absurd parted
  edited-parted key f edits first (k ∷ ks) (b ∷ bs) parted = elim (cases_Bool (key_lt key k)) [
    | inl before ↦
        edits.left first (b ++ block_entries bs) (all_Less key k before (b ++ block_entries bs) parted.1)
        ∙ sym (ap (λ t. block_entries (edited (cond t 0 (suc (bounds_upto key ks))) f (first ∷ b ∷ bs))) before)
    | inr from ↦
        edits.right first (b ++ block_entries bs) (all_Greater key k from first parted.0)
        ∙ ap (λ l. first ++ l) (edited-parted key f edits b ks bs parted.3)
        ∙ sym (ap (λ t. block_entries (edited (cond t 0 (suc (bounds_upto key ks))) f (first ∷ b ∷ bs))) from)
  ]

  -- an edit in the block to which the key belongs is one among all entries
  pub edited-laid : (key : List ℕ) (f : List (List ℕ × X) → List (List ℕ × X)) → EditsAt key f → (ks : List (List ℕ)) (bs : List (List (List ℕ × X))) → AreLaid ks bs → 0 < length bs → f (block_entries bs) ≡ block_entries (edited (bounds_upto key ks) f bs)
  edited-laid key f edits ks [] laid some = absurd (omega arith)
  edited-laid key f edits ks (b ∷ bs) laid some = edited-parted key f edits b ks bs laid
