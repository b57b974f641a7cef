-- What a key is in a map whose entries lie in blocks, by the key's block and its place there.
use Rattle.std.proofs.Common.{◌≡◌, ℕ, zero, suc, ◌<◌, ◌≤◌, ◌+◌, true, false, true≢false, is_some, Result, Ok, Err, Some, None, List, [], ◌∷◌, length, remove, set, slice_get, refl, sym, ap, ◌∙◌, subst, subst₂, arith}
use Rattle.std.proofs.lemmas.Cmp.{nat_list_cmp_total}
use Rattle.std.specs.BTreeMap.{BTreeMap, IsOrdered, Updates, UpdatesBy, WritesThrough, get, insert_entry, is_at}
use Rattle.std.specs.List.{AllByRecursion}
use Rattle.std.specs.List.Sorted.{IsStrictlySortedBy}
use Rattle.std.specs.Map.{keys_of, lookup, remove_entry, set_value, values_of}
use Rattle.std_collections.specs.BTreeMap.Comparable.{le_lt_trans}
use Rattle.std_collections.specs.Layout.BTreeMap.{seek}
use Rattle.std_collections.specs.Layout.Columns.{length-set_value_at, set_value_at}
use Rattle.std_collections.proofs.Entries.{keys-set_value, length-set_value, lookup-none, set_value_none}
use Rattle.std_collections.proofs.Seek.{found_at, insert_entry-Ok, missing_at, seek-Ok}
use Rattle.std_collections.proofs.TreeMap.Lookup.{absent, updates_remove, writes_through}
use Rattle.kv_core.specs.Bytes.{key_cmp, key_lt}
use Rattle.block_map.specs.Blocks.{IsWhole, block_at, edited, block_entries, bounds_upto, most, seen_map}
use Rattle.block_map.proofs.Dense.{dense_edited}
use Rattle.block_map.proofs.Edited.{KeepsBounds, block_there, each_at, each_edited, edited-same, laid_edited, set-edited}
use Rattle.block_map.proofs.Parted.{EditsAt, edited-laid, edits_insert, edits_remove, edits_set, lookup-laid, sorted_block}
use Rattle.block_map.proofs.Updating.{length_inserted, updates_inserted}

module _ {X : Type 0} where
  -- no blocks
  pub none_whole : IsWhole {X = X} [] []
  unfolding IsStrictlySortedBy
  none_whole = record { sorted = tt; laid = refl; filled = tt; fits = tt; dense = tt }

  -- a value that is written changes no key
  all_set : (P : List ℕ → Type 0) (i : ℕ) (w : X) (es : List (List ℕ × X)) → AllByRecursion (λ e. P e.0) es → AllByRecursion (λ e. P e.0) (set_value_at es i w)
  all_set P i w [] all = tt
  all_set P zero w (e ∷ es) all = (all.0, all.1)
  all_set P (suc i) w (e ∷ es) all = (all.0, all_set P i w es all.1)

  keeps_set : (place : ℕ) (w : X) → KeepsBounds (λ es. set_value_at es place w)
  keeps_set place w = record { before = λ k es all. all_set (λ q. key_lt q k ≡ true) place w es all; from = λ k es all. all_set (λ q. key_lt q k ≡ false) place w es all }

  -- a key without a value is none of a map's
  module _ (key : List ℕ) (m : BTreeMap (List ℕ) X) (sorted : IsOrdered key_cmp m) (none : get key_cmp m key ≡ None) where
    missed : (r : Result ℕ ℕ) → seek (key_cmp key) m.entries ≡ r → (i : ℕ) × (seek (key_cmp key) m.entries ≡ Err i)
    missed (Ok i) at = absurd (true≢false (sym (found_at (key_cmp key) m.entries i at).there ∙ ap is_some none))
    missed (Err i) at = (i, at)

    pub set_none : (w : X) → set_value (is_at (key_cmp key)) m.entries w ≡ m.entries
    set_none w =
        let at = missed (seek (key_cmp key) m.entries) refl in
        set_value_none (is_at (key_cmp key)) m.entries w (missing_at (key_cmp key) (le_lt_trans nat_list_cmp_total key) m.entries at.0 sorted at.1)

    pub remove_none : m.entries ≡ remove_entry (is_at (key_cmp key)) m.entries
    remove_none =
        let at = missed (seek (key_cmp key) m.entries) refl in (absent (key_cmp key) (le_lt_trans nat_list_cmp_total key) m at.0 sorted (sym at.1)).2

  module _ (key : List ℕ) (ks : List (List ℕ)) (bs : List (List (List ℕ × X))) (whole : IsWhole ks bs) (m : BTreeMap (List ℕ) X) (seen : seen_map bs ≡ m) (block : ℕ) (here : block ≡ bounds_upto key ks) where
    entries_are : block_entries bs ≡ m.entries
    entries_are = ap (λ n. n.entries) seen

    pub ordered : IsOrdered key_cmp m
    ordered = subst (IsOrdered key_cmp) seen whole.sorted

    get_in : get key_cmp m key ≡ lookup (is_at (key_cmp key)) (block_at bs block)
    get_in = sym (ap (lookup (is_at (key_cmp key))) entries_are) ∙ lookup-laid key ks bs whole.laid ∙ ap (λ b. lookup (is_at (key_cmp key)) (block_at bs b)) (sym here)

    -- an edit there is one of the map
    edits_in : (f g : List (List ℕ × X) → List (List ℕ × X)) → EditsAt key g → 0 < length bs → f (block_at bs block) ≡ g (block_at bs block) → block_entries (edited block f bs) ≡ g m.entries
    edits_in f g edits some same =
        ap block_entries (edited-same block f g bs same ∙ ap (λ b. edited b g bs) here) ∙ sym (edited-laid key g edits ks bs whole.laid some) ∙ ap g entries_are

    module _ (place : ℕ) (at : seek (key_cmp key) (block_at bs block) ≡ Err place) where
      pub gone : get key_cmp m key ≡ None
      gone =
          get_in
          ∙ lookup-none (is_at (key_cmp key)) (block_at bs block)
          (missing_at (key_cmp key) (le_lt_trans nat_list_cmp_total key) (block_at bs block) place (sorted_block bs block whole.sorted) at)

      -- nothing to write to
      pub none_through : (w : X) → WritesThrough key_cmp (key_cmp key) m w (seen_map bs)
      none_through w = writes_through nat_list_cmp_total (key_cmp key) (nat_list_cmp_total.congr key) m (seen_map bs) ordered w (entries_are ∙ sym (set_none key m ordered gone w))

      -- nothing to take out
      pub unmoved : m.entries ≡ remove_entry (is_at (key_cmp key)) m.entries
      unmoved = remove_none key m ordered gone

      pub none_updates : UpdatesBy key_cmp (key_cmp key) m m None
      none_updates = updates_remove nat_list_cmp_total (key_cmp key) (nat_list_cmp_total.congr key) m m ordered unmoved

      -- a new entry
      module _ (value : X) (new : List (List (List ℕ × X))) (put : block_entries new ≡ insert_entry key_cmp (block_entries bs) key value) where
        put_map : block_entries new ≡ insert_entry key_cmp m.entries key value
        put_map = put ∙ ap (λ es. insert_entry key_cmp es key value) entries_are

        pub put_updates : Updates key_cmp m (seen_map new) key (Some value)
        put_updates = updates_inserted key value m (seen_map new) ordered put_map

        pub put_count : length (block_entries new) ≡ length (block_entries bs) + 1
        put_count = ap length put ∙ length_inserted key value (block_entries bs) (ap (lookup (is_at (key_cmp key))) entries_are ∙ gone)

    module _ (place : ℕ) (at : seek (key_cmp key) (block_at bs block) ≡ Ok place) where
      pub place_within : place < length (block_at bs block)
      place_within = (seek-Ok (key_cmp key) (block_at bs block) place at).0

      some : 0 < length bs
      some = let inside = block_there bs block place place_within in omega arith

      pub value_is : (v : X) → slice_get (values_of (block_at bs block)) place ≡ Some v → Some v ≡ get key_cmp m key
      value_is v is = sym (get_in ∙ (found_at (key_cmp key) (block_at bs block) place at).value ∙ is)

      pub there : is_some (get key_cmp m key) ≡ true
      there = ap is_some get_in ∙ (found_at (key_cmp key) (block_at bs block) place at).there

      pub removes_in : block_entries (edited block (λ own. remove own place) bs) ≡ remove_entry (is_at (key_cmp key)) m.entries
      removes_in = edits_in (λ own. remove own place) (remove_entry (is_at (key_cmp key))) (edits_remove key) some (found_at (key_cmp key) (block_at bs block) place at).removes

      module _ (w : X) where
        pub sets_in : block_entries (edited block (λ own. set_value_at own place w) bs) ≡ set_value (is_at (key_cmp key)) m.entries w
        sets_in = edits_in (λ own. set_value_at own place w) (λ es. set_value (is_at (key_cmp key)) es w) (edits_set key w) some ((found_at (key_cmp key) (block_at bs block) place at).writes w)

        pub inserts_in : block_entries (edited block (λ own. set_value_at own place w) bs) ≡ insert_entry key_cmp m.entries key w
        inserts_in = edits_in (λ own. set_value_at own place w) (λ es. insert_entry key_cmp es key w) (edits_insert key w) some (insert_entry-Ok key_cmp key w (block_at bs block) place at)

        keys_stay : keys_of (block_entries (edited block (λ own. set_value_at own place w) bs)) ≡ keys_of (block_entries bs)
        keys_stay = ap keys_of sets_in ∙ keys-set_value (is_at (key_cmp key)) m.entries w ∙ sym (ap keys_of entries_are)

        longs : length (set_value_at (block_at bs block) place w) ≡ length (block_at bs block)
        longs = length-set_value_at (block_at bs block) place w

        pub set_whole : IsWhole ks (edited block (λ own. set_value_at own place w) bs)
        set_whole = record {
          sorted = subst (IsStrictlySortedBy key_cmp) (sym keys_stay) whole.sorted;
          laid = laid_edited (λ own. set_value_at own place w) (keeps_set place w) block ks bs whole.laid;
          filled = each_edited (λ b. 0 < length b) (λ own. set_value_at own place w) block bs whole.filled (λ h. subst (λ n. 0 < n) (sym longs) (each_at (λ b. 0 < length b) block bs whole.filled h));
          fits = each_edited (λ b. length b ≤ most) (λ own. set_value_at own place w) block bs whole.fits (λ h. subst (λ n. n ≤ most) (sym longs) (each_at (λ b. length b ≤ most) block bs whole.fits h));
          dense = dense_edited block (λ own. set_value_at own place w) bs whole.dense (omega (arith, longs));
        }

        pub set_count : length (block_entries (edited block (λ own. set_value_at own place w) bs)) ≡ length (block_entries bs)
        set_count = ap length sets_in ∙ length-set_value (is_at (key_cmp key)) m.entries w ∙ sym (ap length entries_are)

        module _ (new_ks : List (List ℕ)) (new : List (List (List ℕ × X))) (bounds_are : new_ks ≡ ks) (list_is : new ≡ edited block (λ own. set_value_at own place w) bs) where
          pub replaced_whole : IsWhole new_ks new
          replaced_whole = subst₂ (λ a b. IsWhole a b) (sym bounds_are) (sym list_is) set_whole

          pub replaced_count : length (block_entries new) ≡ length (block_entries bs)
          replaced_count = ap (λ l. length (block_entries l)) list_is ∙ set_count

          pub replaced_entries : block_entries new ≡ insert_entry key_cmp m.entries key w
          replaced_entries = ap block_entries list_is ∙ inserts_in

          pub replaced_updates : Updates key_cmp m (seen_map new) key (Some w)
          replaced_updates = updates_inserted key w m (seen_map new) ordered replaced_entries

          pub replaced_through : WritesThrough key_cmp (key_cmp key) m w (seen_map new)
          replaced_through = writes_through nat_list_cmp_total (key_cmp key) (nat_list_cmp_total.congr key) m (seen_map new) ordered w (ap block_entries list_is ∙ sets_in)

        -- the blocks after a value is written through a `&mut`
        pub lent_list : set bs block (set_value_at (block_at bs block) place w) ≡ edited block (λ own. set_value_at own place w) bs
        lent_list = set-edited bs block (set_value_at (block_at bs block) place w) ∙ edited-same block (λ _. set_value_at (block_at bs block) place w) (λ own. set_value_at own place w) bs refl

      module _ (new : List (List (List ℕ × X))) (taken : block_entries new ≡ block_entries (edited block (λ own. remove own place) bs)) where
        pub taken_updates : UpdatesBy key_cmp (key_cmp key) m (seen_map new) None
        taken_updates = updates_remove nat_list_cmp_total (key_cmp key) (nat_list_cmp_total.congr key) m (seen_map new) ordered (taken ∙ removes_in)
