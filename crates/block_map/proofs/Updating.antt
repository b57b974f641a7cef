-- What an entry that is put into a list in order, or taken out of one, makes of a map's look-ups.
use Rattle.std.proofs.Common.{◌≡◌, ℕ, zero, suc, ◌+◌, ◌-◌, ◌<◌, Less, Result, Ok, Err, Some, None, true≢false, is_some, List, [], ◌∷◌, ◌++◌, length, length-append, remove, refl, sym, ap, ◌∙◌, subst, arith}
use Rattle.std.proofs.lemmas.Cmp.{nat_list_cmp_total}
use Rattle.std.proofs.lemmas.List.Edits.{length-insert, length-remove, remove-append_left, remove-append_right}
use Rattle.std.specs.BTreeMap.{BTreeMap, IsOrdered, Updates, insert_entry, is_at}
use Rattle.std.specs.List.Sorted.{IsStrictlySortedBy}
use Rattle.std.specs.Map.{keys_of, lookup}
use Rattle.std_collections.specs.Layout.BTreeMap.{seek}
use Rattle.std_collections.proofs.Entries.{keys_set_value_at}
use Rattle.std_collections.proofs.Pairwise.{Pairwise-remove, from_sorted, to_sorted}
use Rattle.std_collections.proofs.Seek.{found_at, insert_entry-Ok, insert_entry_err, seek_err, sorted_insert}
use Rattle.std_collections.proofs.TreeMap.Lookup.{Updates-insert, updates_set}
use Rattle.kv_core.specs.Bytes.{key_cmp}
use Rattle.block_map.specs.Blocks.{block_at, edited, block_entries}

module _ {X : Type 0} (key : List ℕ) (value : X) where
  pub updates_inserted : (m n : BTreeMap (List ℕ) X) → IsOrdered key_cmp m → n.entries ≡ insert_entry key_cmp m.entries key value → Updates key_cmp m n key (Some value)
  updates_inserted m n sorted is = by (seek (key_cmp key) m.entries) refl
    where
      by : (r : Result ℕ ℕ) → seek (key_cmp key) m.entries ≡ r → Updates key_cmp m n key (Some value)
      by (Ok i) at =
          let found = found_at (key_cmp key) m.entries i at in
          updates_set nat_list_cmp_total (key_cmp key) (nat_list_cmp_total.congr key) m n value found.there
          (is ∙ sym (insert_entry-Ok key_cmp key value m.entries i at) ∙ found.writes value)
      by (Err i) at = Updates-insert nat_list_cmp_total key value m n i sorted (sym at) (is ∙ sym (insert_entry_err key_cmp key value m.entries i at))

  pub sorted_inserted : (es : List (List ℕ × X)) → IsStrictlySortedBy key_cmp (keys_of es) → IsStrictlySortedBy key_cmp (keys_of (insert_entry key_cmp es key value))
  sorted_inserted es sorted = by (seek (key_cmp key) es) refl
    where
      by : (r : Result ℕ ℕ) → seek (key_cmp key) es ≡ r → IsStrictlySortedBy key_cmp (keys_of (insert_entry key_cmp es key value))
      by (Ok i) at = subst (IsStrictlySortedBy key_cmp) (sym (keys_set_value_at es i value) ∙ ap keys_of (insert_entry-Ok key_cmp key value es i at)) sorted
      by (Err i) at = subst (λ l. IsStrictlySortedBy key_cmp (keys_of l)) (insert_entry_err key_cmp key value es i at) (sorted_insert key_cmp key value nat_list_cmp_total es i sorted at)

  -- a new key adds an entry
  pub length_inserted : (es : List (List ℕ × X)) → lookup (is_at (key_cmp key)) es ≡ None → length (insert_entry key_cmp es key value) ≡ length es + 1
  length_inserted es absent = by (seek (key_cmp key) es) refl
    where
      by : (r : Result ℕ ℕ) → seek (key_cmp key) es ≡ r → length (insert_entry key_cmp es key value) ≡ length es + 1
      by (Ok i) at = absurd (true≢false (sym (found_at (key_cmp key) es i at).there ∙ ap is_some absent))
      by (Err i) at = let within = (seek_err (key_cmp key) es i at).0 in sym (ap length (insert_entry_err key_cmp key value es i at)) ∙ length-insert es i (key, value) within

module _ {X : Type 0} where
  -- a list in order stays so without an entry
  pub sorted_removed : (es : List (List ℕ × X)) (i : ℕ) → IsStrictlySortedBy key_cmp (keys_of es) → IsStrictlySortedBy key_cmp (keys_of (remove es i))
  sorted_removed es i sorted = to_sorted key_cmp (keys_of (remove es i)) (Pairwise-remove (λ x y. key_cmp x y ≡ Less) es i (from_sorted key_cmp (keys_of es) sorted))

  -- where an entry of a block stands among all entries
  abbrev offset : ℕ → ℕ → List (List (List ℕ × X)) → ℕ
  offset block place [] = place
  offset zero place (b ∷ bs) = place
  offset (suc block) place (b ∷ bs) = length b + offset block place bs

  entries-removed : (block place : ℕ) (bs : List (List (List ℕ × X))) → place < length (block_at bs block) → block_entries (edited block (λ own. remove own place) bs) ≡ remove (block_entries bs) (offset block place bs)
  entries-removed block place [] within = absurd (omega arith)
  entries-removed zero place (b ∷ bs) within = sym (remove-append_left b (block_entries bs) place within)
  entries-removed (suc block) place (b ∷ bs) within =
      let same : (length b + offset block place bs) - length b ≡ offset block place bs = omega arith in
      ap (λ l. b ++ l) (entries-removed block place bs within ∙ sym (ap (remove (block_entries bs)) same))
      ∙ sym (remove-append_right b (block_entries bs) (length b) (length b + offset block place bs) refl (omega arith))

  offset-within : (block place : ℕ) (bs : List (List (List ℕ × X))) → place < length (block_at bs block) → offset block place bs < length (block_entries bs)
  offset-within block place [] within = absurd (omega arith)
  offset-within zero place (b ∷ bs) within = omega (arith, length-append b (block_entries bs))
  offset-within (suc block) place (b ∷ bs) within = omega (arith, offset-within block place bs within, length-append b (block_entries bs))

  -- entries without one of a block
  pub sorted_without : (block place : ℕ) (bs : List (List (List ℕ × X))) → place < length (block_at bs block) → IsStrictlySortedBy key_cmp (keys_of (block_entries bs)) → IsStrictlySortedBy key_cmp (keys_of (block_entries (edited block (λ own. remove own place) bs)))
  sorted_without block place bs within sorted = subst (λ l. IsStrictlySortedBy key_cmp (keys_of l)) (sym (entries-removed block place bs within)) (sorted_removed (block_entries bs) (offset block place bs) sorted)

  pub length_without : (block place : ℕ) (bs : List (List (List ℕ × X))) → place < length (block_at bs block) → length (block_entries (edited block (λ own. remove own place) bs)) + 1 ≡ length (block_entries bs)
  length_without block place bs within =
      let less = length-remove (block_entries bs) (offset block place bs) (offset-within block place bs within) in
      let same = ap length (entries-removed block place bs within) in
      omega arith
