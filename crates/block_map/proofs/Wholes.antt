-- Blocks stay whole: with an entry put into a block, with a full one cut in two, and without an entry.
use Rattle.std.proofs.Common.{◌≡◌, ℕ, zero, suc, ◌+◌, ◌<◌, ◌≤◌, true, false, Less, Equal, Greater, Result, Ok, Err, OnOk, OnErr, Some, true≢false, is_some, List, [], ◌∷◌, ◌++◌, length, length-append, get_or, insert, remove, set, slice_get, refl, sym, ap, ◌∙◌, subst, subst₂, arith, unwrap_or}
use Rattle.std.proofs.lemmas.List.Edits.{length-insert, length-remove}
use Rattle.std.specs.BTreeMap.{insert_entry}
use Rattle.std.specs.List.{AllByRecursion}
use Rattle.std.specs.List.Sorted.{IsStrictlySortedBy}
use Rattle.std.specs.Map.{keys_of}
use Rattle.std.specs.Ordering.{match_ordering}
use Rattle.std_collections.specs.Layout.BTreeMap.{seek}
use Rattle.std_collections.proofs.Seek.{insert_entry_err, seek_err}
use Rattle.kv_core.specs.Bytes.{key_cmp, key_lt}
use Rattle.block_map.specs.Blocks.{AreBefore, AreDense, AreFrom, AreLaid, Forks, Grows, IsWhole, block_at, edited, block_entries, cut_blocks, joined_blocks, joined_before, joined_bounds, joined_bounds_before, most, bounds_upto, without_empty}
use Rattle.block_map.proofs.Dense.{Loose, LooseTwice, dense_edited, dense_joined, filled_dense, loose_edited, loose_edited_twice, loose_forked, loose_forked_twice, loose_joined}
use Rattle.block_map.proofs.Edited.{KeepsBounds, KeepsBoundsAt, block_is, each_at, each_edited, edited-same, laid_edited, laid_put, set-edited}
use Rattle.block_map.proofs.Forked.{Parts, each_forked, entries-forked, laid_forked}
use Rattle.block_map.proofs.Joined.{entries-joined, filled_joined, fits_joined, laid_joined}
use Rattle.block_map.proofs.Keys.{before_first, from_first, sorted_right}
use Rattle.block_map.proofs.Parted.{edited-laid, edits_insert, sorted_block, upto-within}
use Rattle.block_map.proofs.Updating.{length_without, sorted_inserted, sorted_without}

module _ {X : Type 0} where
  -- all but how many a block has at least
  pub record IsSound (bounds : List (List ℕ)) (blocks : List (List (List ℕ × X))) : Type 0 where
    pub sorted : IsStrictlySortedBy key_cmp (keys_of (block_entries blocks))
    pub laid : AreLaid bounds blocks
    pub fits : AllByRecursion (λ block. length block ≤ most) blocks

  entries_before : (i : ℕ) (cs : List (List (List ℕ × X))) → block_entries (joined_before i cs) ≡ block_entries cs
  entries_before zero cs = refl
  entries_before (suc i) cs = entries-joined i cs

  sound_joined : (i : ℕ) (ks : List (List ℕ)) (bs : List (List (List ℕ × X))) → IsSound ks bs → IsSound (joined_bounds i ks bs) (joined_blocks i bs)
  sound_joined i ks bs sound = record {
    sorted = subst (λ l. IsStrictlySortedBy key_cmp (keys_of l)) (sym (entries-joined i bs)) sound.sorted;
    laid = laid_joined i ks bs sound.laid;
    fits = fits_joined i bs sound.fits;
  }

  module _ (key : List ℕ) (value : X) where
    all_put : (P : List ℕ → Type 0) (es : List (List ℕ × X)) → P key → AllByRecursion (λ e. P e.0) es → AllByRecursion (λ e. P e.0) (insert_entry key_cmp es key value)
    all_put P [] own all = (own, tt)
    all_put P (e ∷ es) own all = elim (key_cmp key e.0) as (λ r. AllByRecursion (λ f. P f.0) (match_ordering r ((key, value) ∷ e ∷ es) ((e.0, value) ∷ es) (e ∷ insert_entry key_cmp es key value))) [
      | Less ↦ (own, all)
      | Equal ↦ all
      | Greater ↦ (all.0, all_put P es own all.1)
    ]

    pub keeps_put : KeepsBoundsAt key (λ es. insert_entry key_cmp es key value)
    keeps_put = record {
      before = λ k h es all. all_put (λ q. key_lt q k ≡ true) es h all;
      from = λ k h es all. all_put (λ q. key_lt q k ≡ false) es h all;
    }

    module _ (ks : List (List ℕ)) (bs : List (List (List ℕ × X))) (whole : IsWhole ks bs) (some : 0 < length bs) where
      pub entries_put : block_entries (edited (bounds_upto key ks) (λ es. insert_entry key_cmp es key value) bs) ≡ insert_entry key_cmp (block_entries bs) key value
      entries_put = sym (edited-laid key (λ es. insert_entry key_cmp es key value) (edits_insert key value) ks bs whole.laid some)

      sorted_put : IsStrictlySortedBy key_cmp (keys_of (block_entries (edited (bounds_upto key ks) (λ es. insert_entry key_cmp es key value) bs)))
      sorted_put = subst (λ l. IsStrictlySortedBy key_cmp (keys_of l)) (sym entries_put) (sorted_inserted key value (block_entries bs) whole.sorted)

      laid_with : AreLaid ks (edited (bounds_upto key ks) (λ es. insert_entry key_cmp es key value) bs)
      laid_with = laid_put key (λ es. insert_entry key_cmp es key value) keeps_put ks bs whole.laid

      module _ (place : ℕ) (at : seek (key_cmp key) (block_at bs (bounds_upto key ks)) ≡ Err place) where
        pub put_is : insert (block_at bs (bounds_upto key ks)) place (key, value) ≡ insert_entry key_cmp (block_at bs (bounds_upto key ks)) key value
        put_is = insert_entry_err key_cmp key value (block_at bs (bounds_upto key ks)) place at

        pub place_within : place ≤ length (block_at bs (bounds_upto key ks))
        place_within = (seek_err (key_cmp key) (block_at bs (bounds_upto key ks)) place at).0

        longer : length (insert_entry key_cmp (block_at bs (bounds_upto key ks)) key value) ≡ length (block_at bs (bounds_upto key ks)) + 1
        longer = sym (ap length put_is) ∙ length-insert (block_at bs (bounds_upto key ks)) place (key, value) place_within

        -- ---- into a block that isn't full

        pub whole_put : length (block_at bs (bounds_upto key ks)) < most → IsWhole ks (edited (bounds_upto key ks) (λ es. insert_entry key_cmp es key value) bs)
        whole_put room = record {
          sorted = sorted_put;
          laid = laid_with;
          filled = each_edited (λ b. 0 < length b) (λ es. insert_entry key_cmp es key value) (bounds_upto key ks) bs whole.filled (λ _. omega (arith, longer));
          fits = each_edited (λ b. length b ≤ most) (λ es. insert_entry key_cmp es key value) (bounds_upto key ks) bs whole.fits (λ _. omega (arith, longer));
          dense = dense_edited (bounds_upto key ks) (λ es. insert_entry key_cmp es key value) bs whole.dense (omega (arith, longer));
        }

        -- ---- into a full one, which is cut in two

        module _ (bound : List ℕ) (new : List (List (List ℕ × X))) (full : length (block_at bs (bounds_upto key ks)) ≡ most) (forks : Forks (bounds_upto key ks) place key value bound bs new) where
          both_are : forks.left ++ forks.right ≡ insert_entry key_cmp (block_at bs (bounds_upto key ks)) key value
          both_are = forks.whole ∙ put_is

          edited_is : edited (bounds_upto key ks) (λ _. forks.left ++ forks.right) bs ≡ edited (bounds_upto key ks) (λ es. insert_entry key_cmp es key value) bs
          edited_is = edited-same (bounds_upto key ks) (λ _. forks.left ++ forks.right) (λ es. insert_entry key_cmp es key value) bs both_are

          entries_new : block_entries new ≡ insert_entry key_cmp (block_entries bs) key value
          entries_new = ap block_entries forks.list ∙ entries-forked (bounds_upto key ks) forks.left forks.right bs ∙ ap block_entries edited_is ∙ entries_put

          some_right : 0 < length forks.right
          some_right = by forks.right forks.begins
            where
              by : (es : List (List ℕ × X)) → slice_get (keys_of es) 0 ≡ Some bound → 0 < length es
              by [] is = absurd (true≢false (sym (ap is_some is)))
              by (e ∷ es) is = omega arith

          sorted_both : IsStrictlySortedBy key_cmp (keys_of (forks.left ++ forks.right))
          sorted_both = subst (λ l. IsStrictlySortedBy key_cmp (keys_of l)) (sym both_are) (sorted_inserted key value (block_at bs (bounds_upto key ks)) (sorted_block bs (bounds_upto key ks) whole.sorted))

          parts : Parts bound forks.left forks.right
          parts = by forks.right forks.begins sorted_both
            where
              head_is : (e : List ℕ × X) (es : List (List ℕ × X)) → slice_get (keys_of (e ∷ es)) 0 ≡ Some bound → e.0 ≡ bound
              head_is e es is = ap (λ o. unwrap_or o []) is

              by : (right : List (List ℕ × X)) → slice_get (keys_of right) 0 ≡ Some bound → IsStrictlySortedBy key_cmp (keys_of (forks.left ++ right)) → Parts bound forks.left right
              by [] is sorted = absurd (true≢false (sym (ap is_some is)))
              by (e ∷ es) is sorted = record {
                before = subst (λ k. AreBefore k forks.left) (head_is e es is) (before_first forks.left e es sorted);
                from = subst (λ k. AreFrom k (e ∷ es)) (head_is e es is) (from_first e es (sorted_right forks.left (e ∷ es) sorted));
                some_left = forks.some;
                some_right = omega arith;
              }

          over : most < length forks.left + length forks.right
          over = omega (arith, length-append forks.left forks.right, ap length both_are, longer, full)

          inside : bounds_upto key ks < length bs
          inside = upto-within key ks bs whole.laid some

          sound_new : IsSound (insert ks (bounds_upto key ks) bound) new
          sound_new = subst (IsSound (insert ks (bounds_upto key ks) bound)) (sym forks.list) (record {
            sorted = subst (λ l. IsStrictlySortedBy key_cmp (keys_of (block_entries l))) forks.list (subst (λ l. IsStrictlySortedBy key_cmp (keys_of l)) (sym entries_new) (sorted_inserted key value (block_entries bs) whole.sorted));
            laid = laid_forked bound forks.left forks.right parts (bounds_upto key ks) ks bs inside (subst (AreLaid ks) (sym edited_is) laid_with);
            fits = each_forked (λ b. length b ≤ most) (bounds_upto key ks) forks.left forks.right bs whole.fits forks.fits forks.rest_fits;
          })

          filled_new : AllByRecursion (λ b. 0 < length b) new
          filled_new = subst (AllByRecursion (λ b. 0 < length b)) (sym forks.list) (each_forked (λ b. 0 < length b) (bounds_upto key ks) forks.left forks.right bs whole.filled forks.some some_right)

          -- the new blocks, each joined with its other neighbour where both fit into one
          grown : (i : ℕ) → bounds_upto key ks ≡ i → IsWhole (joined_bounds_before i (joined_bounds (suc i) (insert ks (bounds_upto key ks) bound) new) (joined_blocks (suc i) new)) (joined_before i (joined_blocks (suc i) new))
          grown zero here =
              let sound = sound_joined 1 (insert ks (bounds_upto key ks) bound) new sound_new in
              record {
                sorted = sound.sorted;
                laid = sound.laid;
                filled = filled_joined 1 new filled_new;
                fits = sound.fits;
                dense = dense_joined 1 new (subst (Loose 1) (sym (forks.list ∙ ap (λ j. cut_blocks j forks.left forks.right bs) here)) (loose_forked forks.left forks.right bs whole.dense over));
              }
          grown (suc i) here =
              let sound = sound_joined (suc (suc i)) (insert ks (bounds_upto key ks) bound) new sound_new in
              let twice = sound_joined i (joined_bounds (suc (suc i)) (insert ks (bounds_upto key ks) bound) new) (joined_blocks (suc (suc i)) new) sound in
              record {
                sorted = twice.sorted;
                laid = twice.laid;
                filled = filled_joined i (joined_blocks (suc (suc i)) new) (filled_joined (suc (suc i)) new filled_new);
                fits = twice.fits;
                dense = dense_joined i (joined_blocks (suc (suc i)) new) (loose_joined i (suc (suc i)) new
                    (subst (LooseTwice i (suc (suc i))) (sym (forks.list ∙ ap (λ j. cut_blocks j forks.left forks.right bs) here)) (loose_forked_twice i forks.left forks.right bs whole.dense over)));
              }

          whole_grown : IsWhole (joined_bounds_before (bounds_upto key ks) (joined_bounds (suc (bounds_upto key ks)) (insert ks (bounds_upto key ks) bound) new) (joined_blocks (suc (bounds_upto key ks)) new)) (joined_before (bounds_upto key ks) (joined_blocks (suc (bounds_upto key ks)) new))
          whole_grown = grown (bounds_upto key ks) refl

          entries_grown : block_entries (joined_before (bounds_upto key ks) (joined_blocks (suc (bounds_upto key ks)) new)) ≡ insert_entry key_cmp (block_entries bs) key value
          entries_grown = entries_before (bounds_upto key ks) (joined_blocks (suc (bounds_upto key ks)) new) ∙ entries-joined (suc (bounds_upto key ks)) new ∙ entries_new

        module _ (full : length (block_at bs (bounds_upto key ks)) ≡ most) (new_ks : List (List ℕ)) (new_bs : List (List (List ℕ × X))) (grows : Grows (bounds_upto key ks) place key value ks bs new_ks new_bs) where
          pub grows_whole : IsWhole new_ks new_bs
          grows_whole = subst₂ (λ l m. IsWhole l m) (sym grows.bounds_are) (sym grows.blocks_are) (whole_grown grows.bound grows.cut full grows.forks)

          pub grows_entries : block_entries new_bs ≡ insert_entry key_cmp (block_entries bs) key value
          grows_entries = ap block_entries grows.blocks_are ∙ entries_grown grows.bound grows.cut full grows.forks

  -- ---- the same of a block by its place

  pub record IsPut (key : List ℕ) (value : X) (ks : List (List ℕ)) (bs old : List (List (List ℕ × X))) : Type 0 where
    pub whole : IsWhole ks bs
    pub entries : block_entries bs ≡ insert_entry key_cmp (block_entries old) key value

  module _ (key : List ℕ) (value : X) (ks : List (List ℕ)) (bs : List (List (List ℕ × X))) (whole : IsWhole ks bs) (some : 0 < length bs) (block place : ℕ) (here : block ≡ bounds_upto key ks) (at : seek (key_cmp key) (block_at bs block) ≡ Err place) where
    at_upto : seek (key_cmp key) (block_at bs (bounds_upto key ks)) ≡ Err place
    at_upto = subst (λ i. seek (key_cmp key) (block_at bs i) ≡ Err place) here at

    pub block_within : block < length bs
    block_within = subst (λ i. i < length bs) (sym here) (upto-within key ks bs whole.laid some)

    -- what is read of the block twice is as long, and no longer than a block may be
    pub even_in : (first own : List (List ℕ × X)) → first ≡ get_or bs block first → own ≡ get_or bs block own → (length own ≡ length first) × (length own ≤ most)
    even_in first own first_is own_is =
        let is = block_is bs block own block_within own_is in (
          ap length (is ∙ sym (block_is bs block first block_within first_is)),
          subst (λ l. length l ≤ most) (sym is) (each_at (λ b. length b ≤ most) block bs whole.fits block_within),
        )

    pub put_in : (own new : List (List ℕ × X)) → own ≡ get_or bs block own → new ≡ insert own place (key, value) → length own < most → IsPut key value ks (set bs block new) bs
    put_in own new is made room =
        let own_is : own ≡ block_at bs (bounds_upto key ks) = block_is bs block own block_within is ∙ ap (block_at bs) here in
        let new_is : new ≡ insert_entry key_cmp (block_at bs (bounds_upto key ks)) key value = made ∙ ap (λ l. insert l place (key, value)) own_is ∙ put_is key value ks bs whole some place at_upto in
        let list : set bs block new ≡ edited (bounds_upto key ks) (λ es. insert_entry key_cmp es key value) bs =
        set-edited bs block new ∙ ap (λ i. edited i (λ _. new) bs) here ∙ edited-same (bounds_upto key ks) (λ _. new) (λ es. insert_entry key_cmp es key value) bs new_is in
        record {
          whole = subst (IsWhole ks) (sym list) (whole_put key value ks bs whole some place at_upto (subst (λ l. length l < most) own_is room));
          entries = ap block_entries list ∙ entries_put key value ks bs whole some;
        }

    pub grow_in : (new_ks : List (List ℕ)) (new_bs : List (List (List ℕ × X))) → length (block_at bs block) ≡ most → Grows block place key value ks bs new_ks new_bs → IsPut key value new_ks new_bs bs
    grow_in new_ks new_bs full grows =
        let filled = subst (λ i. length (block_at bs i) ≡ most) here full in
        let so = subst (λ i. Grows i place key value ks bs new_ks new_bs) here grows in
        record { whole = grows_whole key value ks bs whole some place at_upto filled new_ks new_bs so; entries = grows_entries key value ks bs whole some place at_upto filled new_ks new_bs so }

    pub grown_whole : {E : Type 0} (r : Result (Unit {0}) E) (new_ks : List (List ℕ)) (new_bs : List (List (List ℕ × X))) → length (block_at bs block) ≡ most → OnOk r (Grows block place key value ks bs new_ks new_bs) → OnErr r (new_ks ≡ ks) → OnErr r (new_bs ≡ bs) → IsWhole new_ks new_bs
    grown_whole (Ok u) new_ks new_bs full ok err_bounds err = (grow_in new_ks new_bs full ok).whole
    grown_whole (Err e) new_ks new_bs full ok err_bounds err = subst₂ (λ l m. IsWhole l m) (sym err_bounds) (sym err) whole

  -- the first block
  one_whole : (key : List ℕ) (value : X) → IsWhole [] (((key, value) ∷ []) ∷ [])
  unfolding IsStrictlySortedBy
  one_whole key value = record { sorted = (tt, tt); laid = tt; filled = (omega arith, tt); fits = (omega arith, tt); dense = (tt, tt) }

  pub begun_whole : (key : List ℕ) (value : X) (ks new_ks : List (List ℕ)) (bs new_bs : List (List (List ℕ × X))) {E : Type 0} (r : Result (Unit {0}) E) → bs ≡ [] → IsWhole ks bs → new_ks ≡ ks → OnOk r (new_bs ≡ ((key, value) ∷ []) ∷ []) → OnErr r (new_bs ≡ []) → IsWhole new_ks new_bs
  begun_whole key value ks new_ks bs new_bs (Ok u) none whole bounds ok err =
      let no_bounds : ks ≡ [] = subst (AreLaid ks) none whole.laid in subst₂ (λ l m. IsWhole l m) (sym (bounds ∙ no_bounds)) (sym ok) (one_whole key value)
  begun_whole key value ks new_ks bs new_bs (Err e) none whole bounds ok err = subst₂ (λ l m. IsWhole l m) (sym bounds) (none ∙ sym err) whole

  -- ---- without an entry

  all_removed : (P : List ℕ → Type 0) (i : ℕ) (es : List (List ℕ × X)) → AllByRecursion (λ e. P e.0) es → AllByRecursion (λ e. P e.0) (remove es i)
  all_removed P zero [] all = tt
  all_removed P (suc i) [] all = tt
  all_removed P zero (e ∷ es) all = all.1
  all_removed P (suc i) (e ∷ es) all = (all.0, all_removed P i es all.1)

  keeps_removed : (place : ℕ) → KeepsBounds (λ (es : List (List ℕ × X)). remove es place)
  keeps_removed place = record { before = λ k es all. all_removed (λ q. key_lt q k ≡ true) place es all; from = λ k es all. all_removed (λ q. key_lt q k ≡ false) place es all }

  pub entries_without_empty : (bs : List (List (List ℕ × X))) → block_entries (without_empty bs) ≡ block_entries bs
  entries_without_empty [] = refl
  entries_without_empty ([] ∷ []) = refl
  entries_without_empty ([] ∷ b ∷ bs) = refl
  entries_without_empty ((e ∷ b) ∷ bs) = refl

  whole_settled : (ks : List (List ℕ)) (bs : List (List (List ℕ × X))) → IsSound ks bs → AreDense bs → IsWhole ks (without_empty bs)
  whole_settled ks [] sound dense = record { sorted = sound.sorted; laid = sound.laid; filled = tt; fits = tt; dense = tt }
  whole_settled [] ([] ∷ []) sound dense = record { sorted = sound.sorted; laid = refl; filled = tt; fits = tt; dense = tt }
  whole_settled (k ∷ ks) ([] ∷ []) sound dense = absurd sound.laid
  whole_settled ks ([] ∷ b ∷ bs) sound dense = record { sorted = sound.sorted; laid = sound.laid; filled = filled_dense ([] ∷ b ∷ bs) (omega arith) sound.fits dense; fits = sound.fits; dense = dense }
  whole_settled ks ((e ∷ b) ∷ []) sound dense = record { sorted = sound.sorted; laid = sound.laid; filled = (omega arith, tt); fits = sound.fits; dense = dense }
  whole_settled ks ((e ∷ b) ∷ c ∷ bs) sound dense = record { sorted = sound.sorted; laid = sound.laid; filled = filled_dense ((e ∷ b) ∷ c ∷ bs) (omega arith) sound.fits dense; fits = sound.fits; dense = dense }

  module _ (ks : List (List ℕ)) (bs : List (List (List ℕ × X))) (whole : IsWhole ks bs) (block place : ℕ) (within : place < length (block_at bs block)) where
    fewer : (es : List (List ℕ × X)) → length es ≤ most → place < length es → length (remove es place) ≤ most
    fewer es fits inside = omega (arith, length-remove es place inside)

    sound_less : IsSound ks (edited block (λ es. remove es place) bs)
    sound_less = record {
      sorted = sorted_without block place bs within whole.sorted;
      laid = laid_edited (λ es. remove es place) (keeps_removed place) block ks bs whole.laid;
      fits = each_edited (λ b. length b ≤ most) (λ es. remove es place) block bs whole.fits (λ h. fewer (block_at bs block) (each_at (λ b. length b ≤ most) block bs whole.fits h) within);
    }

    shrunk : (i : ℕ) → block ≡ i → IsWhole (joined_bounds_before i (joined_bounds i ks (edited block (λ es. remove es place) bs)) (joined_blocks i (edited block (λ es. remove es place) bs))) (without_empty (joined_before i (joined_blocks i (edited block (λ es. remove es place) bs))))
    shrunk zero here =
        whole_settled (joined_bounds 0 ks (edited block (λ es. remove es place) bs)) (joined_blocks 0 (edited block (λ es. remove es place) bs)) (sound_joined 0 ks (edited block (λ es. remove es place) bs) sound_less)
        (dense_joined 0 (edited block (λ es. remove es place) bs) (subst (λ j. Loose 0 (edited j (λ es. remove es place) bs)) (sym here) (loose_edited (λ es. remove es place) bs whole.dense)))
    shrunk (suc i) here =
        let sound = sound_joined (suc i) ks (edited block (λ es. remove es place) bs) sound_less in
        whole_settled (joined_bounds i (joined_bounds (suc i) ks (edited block (λ es. remove es place) bs)) (joined_blocks (suc i) (edited block (λ es. remove es place) bs))) (joined_blocks i (joined_blocks (suc i) (edited block (λ es. remove es place) bs)))
        (sound_joined i (joined_bounds (suc i) ks (edited block (λ es. remove es place) bs)) (joined_blocks (suc i) (edited block (λ es. remove es place) bs)) sound)
        (dense_joined i (joined_blocks (suc i) (edited block (λ es. remove es place) bs)) (loose_joined i (suc i) (edited block (λ es. remove es place) bs)
        (subst (λ j. LooseTwice i (suc i) (edited j (λ es. remove es place) bs)) (sym here) (loose_edited_twice i (λ es. remove es place) bs whole.dense))))

    pub whole_shrunk : IsWhole (joined_bounds_before block (joined_bounds block ks (edited block (λ es. remove es place) bs)) (joined_blocks block (edited block (λ es. remove es place) bs))) (without_empty (joined_before block (joined_blocks block (edited block (λ es. remove es place) bs))))
    whole_shrunk = shrunk block refl

    pub entries_shrunk : block_entries (without_empty (joined_before block (joined_blocks block (edited block (λ es. remove es place) bs)))) ≡ block_entries (edited block (λ es. remove es place) bs)
    entries_shrunk = entries_without_empty (joined_before block (joined_blocks block (edited block (λ es. remove es place) bs))) ∙ entries_before block (joined_blocks block (edited block (λ es. remove es place) bs)) ∙ entries-joined block (edited block (λ es. remove es place) bs)

    -- the same of the steps by which an entry is taken out
    pub removed_in : (own new : List (List ℕ × X)) → own ≡ block_at bs block → new ≡ remove own place → set bs block new ≡ edited block (λ es. remove es place) bs
    removed_in own new is made = set-edited bs block new ∙ edited-same block (λ _. new) (λ es. remove es place) bs (made ∙ ap (λ l. remove l place) is)

    module _ (ls js ps ds : List (List (List ℕ × X))) (jks pks dks : List (List ℕ)) (l : ls ≡ edited block (λ es. remove es place) bs) (jk : jks ≡ joined_bounds block ks ls) (j : js ≡ joined_blocks block ls) (pk : pks ≡ joined_bounds_before block jks js) (p : ps ≡ joined_before block js) (dk : dks ≡ pks) (d : ds ≡ without_empty ps) where
      joined_are : js ≡ joined_blocks block (edited block (λ es. remove es place) bs)
      joined_are = j ∙ ap (joined_blocks block) l

      bounds_are : jks ≡ joined_bounds block ks (edited block (λ es. remove es place) bs)
      bounds_are = jk ∙ ap (joined_bounds block ks) l

      left_are : ds ≡ without_empty (joined_before block (joined_blocks block (edited block (λ es. remove es place) bs)))
      left_are = d ∙ ap without_empty (p ∙ ap (joined_before block) joined_are)

      pub removal_whole : IsWhole dks ds
      removal_whole = subst₂ (λ a b. IsWhole a b) (sym (dk ∙ pk ∙ (λ i. joined_bounds_before block (bounds_are i) (joined_are i)))) (sym left_are) whole_shrunk

      pub removal_entries : block_entries ds ≡ block_entries (edited block (λ es. remove es place) bs)
      removal_entries = ap block_entries left_are ∙ entries_shrunk

      pub removal_count : length (block_entries ds) + 1 ≡ length (block_entries bs)
      removal_count = let one = length_without block place bs within in let same = ap length removal_entries in omega arith
