-- Entries are told by their bytes, as they are by the cells that the bytes are unpacked as.
use Rattle.std.specs.Prelude.{◌≡◌, ℕ, ◌+◌, ◌-◌, ◌≤◌, Bool, true, false, ◌&&◌, ◌==◌, nat_le, List, [], ◌++◌, length, take, drop, Option, Some, None, option_map, option_and_then, if◌then◌else◌, cond, All, refl, unwrap_or}
use Rattle.std.specs.declared.cmp.Ordering.{Ordering}
use Rattle.std.proofs.Common.{ap, sym, ◌∙◌, subst, arith, append_assoc}
use Rattle.std.proofs.Math.Seq.{drop-append_seam, take-append_seam}
use Rattle.std.proofs.Math.Bool.{and-false}
use Rattle.std.proofs.lemmas.Bool.{false≢true, leb-false, leb-true}
use Rattle.std.proofs.lemmas.List.{drop_all, length-append, length-drop, length-take-le, take-append-drop, take_all}
use Rattle.tuple_codec.specs.Order.{bytes_cmp}
use Rattle.tuple_codec.specs.Spelling.{spelling}
use Rattle.metadata.specs.declared.cells.Cell.{Cell}
use Rattle.metadata.specs.declared.cells.Kind.{Kind}
use Rattle.metadata.specs.declared.definition.TypeDefinition.{TypeDefinition}
use Rattle.metadata.specs.declared.index.IndexDefinition.{IndexDefinition}
use Rattle.metadata.specs.Cell.{IsCell, all_fit, items_of}
use Rattle.metadata.specs.Layout.{Pair, entries_prefix}
use Rattle.metadata.specs.Order.{cells_cmp}
use Rattle.metadata.specs.Stored.{AreStoredAs}
use Rattle.metadata.proofs.PackOrder.{packs_order}
use Rattle.planner.specs.Layout.{column_kinds, is_entry, is_primary_key}
use Rattle.planner.specs.Pack.{unpack}
use Rattle.planner.proofs.ReadBack.{cells_back}
use Rattle.plan_exec.specs.Decoding.{AreAfter, EndsWithKey, NoneAreAfter, is_pack_of, entry_key_in}
use Rattle.plan_exec.specs.Entry.{Entry, IsEntryAt, entry_with, unpacked}
use Rattle.plan_exec.specs.Reads.{stored_entry}
use Rattle.plan_exec.proofs.EntryCells.{fit_length, holds}

-- ---- entries

module _ (t : TypeDefinition) (i : IndexDefinition) (bytes : List ℕ) where
  abbrev cut : List Cell → Option (List Cell)
  cut cells = if is_entry t i cells then Some (drop (length i.columns) cells) else None

  -- NONE: where none of the cells that may be unpacked are those of an entry
  none_in : ((cells : List Cell) → unpack bytes ≡ Some cells → is_entry t i cells ≡ false) → entry_key_in t i bytes ≡ None
  none_in never = by (unpack bytes) refl
    where
      by : (o : Option (List Cell)) → unpack bytes ≡ o → option_and_then cut o ≡ None
      by None is = refl
      by (Some cells) is = ap (λ b. cond b (Some (drop (length i.columns) cells)) None) (never cells is)

  -- columns that aren't there have no entries
  pub none_of_columns : (kinds : List Kind) → kinds ≡ column_kinds t i → (length kinds ≡ length i.columns → ⊥) → entry_key_in t i bytes ≡ None
  none_of_columns kinds are differ = none_in (λ cells is. by cells (nat_le (length i.columns) (length cells)) refl)
    where
      few : (cells : List Cell) → drop (length i.columns) cells ≡ [] → is_entry t i cells ≡ false
      few cells none = ap (λ k. all_fit (column_kinds t i) (take (length i.columns) cells) && is_primary_key t k) none ∙ and-false (all_fit (column_kinds t i) (take (length i.columns) cells))

      many : (cells : List Cell) → length i.columns ≤ length cells → (b : Bool) → all_fit (column_kinds t i) (take (length i.columns) cells) ≡ b → (b && is_primary_key t (drop (length i.columns) cells)) ≡ false
      many cells enough false fit = refl
      many cells enough true fit =
          absurd (differ (ap length are ∙ sym (fit_length (column_kinds t i) (take (length i.columns) cells) fit) ∙ length-take-le (length i.columns) cells enough))

      by : (cells : List Cell) (b : Bool) → nat_le (length i.columns) (length cells) ≡ b → is_entry t i cells ≡ false
      by cells true enough = many cells (leb-true (length i.columns) (length cells) enough) (all_fit (column_kinds t i) (take (length i.columns) cells)) refl
      by cells false less = few cells (drop_all (length i.columns) cells (omega (arith, leb-false (length i.columns) (length cells) less)))

  module _ (kinds : List Kind) (are : kinds ≡ column_kinds t i) (count : length kinds ≡ length i.columns) where
    -- other cells than the columns'
    pub none_behind : NoneAreAfter kinds bytes → entry_key_in t i bytes ≡ None
    none_behind none = none_in (λ cells is. ap (λ b. b && is_primary_key t (drop (length i.columns) cells)) (ap (λ ks. all_fit ks (take (length i.columns) cells)) (sym are) ∙ ap (λ n. all_fit kinds (take n cells)) (sym count) ∙ none cells is))

    module _ (rest : List ℕ) (behind : AreAfter kinds rest bytes) where
      abbrev columns : List Cell
      columns = behind.cells

      many : length i.columns ≡ length columns
      many = sym count ∙ sym (fit_length kinds columns behind.fit)

      -- the cells behind them decide
      decided : (key : List Cell) → cut (columns ++ key) ≡ (if is_primary_key t key then Some key else None)
      decided key =
          let first : take (length i.columns) (columns ++ key) ≡ columns = ap (λ n. take n (columns ++ key)) many ∙ take-append_seam columns key in
          let others : drop (length i.columns) (columns ++ key) ≡ key = ap (λ n. drop n (columns ++ key)) many ∙ drop-append_seam columns key in
          let fit : all_fit (column_kinds t i) columns ≡ true = ap (λ ks. all_fit ks columns) (sym are) ∙ behind.fit in
          (λ j. if all_fit (column_kinds t i) (first j) && is_primary_key t (others j) then Some (others j) else None)
          ∙ ap (λ b. if b && is_primary_key t key then Some key else None) fit

      key_is : entry_key_in t i bytes ≡ option_and_then (λ key. if is_primary_key t key then Some key else None) (unpack rest)
      key_is = ap (option_and_then cut) behind.same ∙ by (unpack rest)
        where
          by : (o : Option (List Cell)) → option_and_then cut (option_map (λ more. columns ++ more) o) ≡ option_and_then (λ key. if is_primary_key t key then Some key else None) o
          by None = refl
          by (Some key) = decided key

      -- a primary key behind them
      pub key_behind : is_pack_of (is_primary_key t) rest ≡ true → EndsWithKey t i rest bytes
      key_behind is = by (unpack rest) refl is
        where
          by : (o : Option (List Cell)) → unpack rest ≡ o → holds (is_primary_key t) o ≡ true → EndsWithKey t i rest bytes
          by None packed so = absurd (false≢true so)
          by (Some key) packed so = record {
            before = behind.before;
            whole = behind.whole;
            key = key;
            found = key_is ∙ ap (option_and_then (λ key. if is_primary_key t key then Some key else None)) packed ∙ ap (λ b. if b then Some key else None) so;
            packed = packed;
          }

      -- none behind them
      pub no_key_behind : is_pack_of (is_primary_key t) rest ≡ false → entry_key_in t i bytes ≡ None
      no_key_behind is = key_is ∙ by (unpack rest) is
        where
          by : (o : Option (List Cell)) → holds (is_primary_key t) o ≡ false → option_and_then (λ key. if is_primary_key t key then Some key else None) o ≡ None
          by None so = refl
          by (Some key) so = ap (λ b. if b then Some key else None) so

-- ---- pairs

module _ (prefix : List ℕ) (t : TypeDefinition) (i : IndexDefinition) (pair : Pair) (bytes : List ℕ) (is : bytes ≡ drop (length (entries_prefix prefix i.number)) pair.0) where
  abbrev made : List Cell → Entry
  made key = record { key = pair.0; primary_key = key }

  -- a pair with a value stands for no entry
  pub with_value : (length pair.1 == 0) ≡ false → None ≡ stored_entry prefix t i pair
  with_value some = sym (ap (λ b. option_map made (if b then entry_key_in t i (drop (length (entries_prefix prefix i.number)) pair.0) else None)) some)

  module _ (empty : (length pair.1 == 0) ≡ true) where
    stored_is : stored_entry prefix t i pair ≡ option_map made (entry_key_in t i bytes)
    stored_is =
        ap (λ b. option_map made (if b then entry_key_in t i (drop (length (entries_prefix prefix i.number)) pair.0) else None)) empty
        ∙ ap (λ bs. option_map made (entry_key_in t i bs)) (sym is)

    pub no_entry : entry_key_in t i bytes ≡ None → None ≡ stored_entry prefix t i pair
    no_entry none = sym (stored_is ∙ ap (option_map made) none)

    module _ (rest : List ℕ) (ends : EndsWithKey t i rest bytes) where
      abbrev front : List ℕ
      front = take (length (entries_prefix prefix i.number)) pair.0 ++ ends.before

      whole : pair.0 ≡ front ++ rest
      whole =
          sym (take-append-drop (length (entries_prefix prefix i.number)) pair.0)
          ∙ ap (λ bs. take (length (entries_prefix prefix i.number)) pair.0 ++ bs) (sym is ∙ ends.whole)
          ∙ sym (append_assoc (take (length (entries_prefix prefix i.number)) pair.0) ends.before rest)

      lengths : length pair.0 ≡ length front + length rest
      lengths = ap length whole ∙ length-append front rest

      pub no_longer : length rest ≤ length pair.0
      no_longer = omega (arith, lengths)

      at_front : length pair.0 - length rest ≡ length front
      at_front = omega (arith, lengths)

      key_there : drop (length pair.0 - length rest) pair.0 ≡ rest
      key_there = (λ j. drop (at_front j) (whole j)) ∙ drop-append_seam front rest

      unpacked_there : unpack (drop (length pair.0 - length rest) pair.0) ≡ Some ends.key
      unpacked_there = ap unpack key_there ∙ ends.packed

      is_entry_at : IsEntryAt pair.0 (length pair.0 - length rest)
      is_entry_at = record {
        within = omega arith;
        packed = unpacked_there ∙ ap (λ o. Some (unwrap_or o [])) (sym unpacked_there);
      }

      module _ (key whole_key : List ℕ) (same : key ≡ pair.0) (whole_same : whole_key ≡ pair.0) where
        pub entry_there : IsEntryAt key (length whole_key - length rest)
        entry_there = subst (λ k. IsEntryAt k (length whole_key - length rest)) (sym same) (subst (λ w. IsEntryAt pair.0 (length w - length rest)) (sym whole_same) is_entry_at)

        pub the_entry : (entry : Entry) → entry ≡ entry_with key (length whole_key - length rest) → Some entry ≡ stored_entry prefix t i pair
        the_entry entry at =
            ap (λ e. Some e) (at ∙ (λ j. entry_with (same j) (length (whole_same j) - length rest)))
            ∙ ap (λ o. Some (made (unwrap_or o []))) unpacked_there ∙ sym (stored_is ∙ ap (option_map made) ends.found)

-- ---- an entry's primary key

module _ (key : List ℕ) (at : ℕ) (is : IsEntryAt key at) (entry : Entry) (same : entry_with key at ≡ entry) where
  stored_there : AreStoredAs (drop at key) (unpacked (drop at key))
  stored_there = (cells_back (drop at key) (unpacked (drop at key))).0 is.packed

  pub end_packed : (bytes : List ℕ) → bytes ≡ key → take (length bytes - at) (drop at bytes) ≡ spelling (items_of entry.primary_key)
  end_packed bytes whole =
      take_all (length bytes - at) (drop at bytes) (omega (arith, length-drop at bytes)) ∙ ap (drop at) whole ∙ stored_there.has_value
      ∙ ap (λ (e : Entry). spelling (items_of e.primary_key)) same

  pub end_cells : All IsCell entry.primary_key
  end_cells = subst (λ (e : Entry). All IsCell e.primary_key) same stored_there.cells

-- entries are ordered by the packs of their primary keys
pub packs_decide : (a b : List Cell) (x y : List ℕ) (order : Ordering) → order ≡ bytes_cmp x y → x ≡ spelling (items_of a) → y ≡ spelling (items_of b) → All IsCell a → All IsCell b → order ≡ cells_cmp a b
packs_decide a b x y order is one other a_known b_known = is ∙ (λ i. bytes_cmp (one i) (other i)) ∙ packs_order a b a_known b_known
