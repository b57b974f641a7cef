-- The keys of a store: which lie below the end of the keys, their order, and which lie in the range of a type.
use Rattle.std.proofs.Common.{◌≡◌, ℕ, ◌<◌, ◌^◌, Bool, true, false, not, ◌&&◌, ◌==◌, List, [], ◌∷◌, ◌++◌, refl, sym, ap, ◌∙◌, append_assoc, pos, drop, length}
use Rattle.std.specs.declared.cmp.Ordering.{Ordering}
use Rattle.std.specs.declared.cmp.Ordering.TheVariants.{Less, Equal, Greater}
use Rattle.std.specs.Ordering.{nat_cmp, ordering_then, is_lt, is_eq}
use Rattle.std.specs.FinMap.{nat_cmp-IsAntisymmetric}
use Rattle.std.proofs.lemmas.Bool.{and_parts, eqb-true, eqb-false}
use Rattle.tuple_codec.proofs.ByteOrder.{equal}
use Rattle.tuple_codec.specs.Item.{Item, int, IsTuple}
use Rattle.tuple_codec.specs.Order.{tuple_cmp}
use Rattle.tuple_codec.specs.Spelling.{spelling, int_spelling}
use Rattle.tuple_codec.specs.Spelling as written
use Rattle.tuple_codec.proofs.ByteOrder.{before_escape}
use Rattle.tuple_codec.proofs.IntOrder.{cmp_int, int_cmp_pos}
use Rattle.tuple_codec.proofs.TupleOrder.{outer_tail, tuple_order}
use Rattle.tuple_codec.proofs.Prefixes.{cmp_behind}
use Rattle.std.proofs.lemmas.List.{append-nil}
use Rattle.kv_core.specs.Bytes.{key_cmp, key_le, key_lt, end_of_keys}
use Rattle.kv_core.specs.Range.{KeyRange, contains, is_key_range}
use Rattle.kv_core.proofs.Order.{le_from_lt}
use Rattle.index_maint.specs.Layout.{entries_prefix}
use Rattle.index_maint.specs.Built.{position_of}
use Rattle.std.proofs.Math.Seq.{drop-append_seam}
use Rattle.record_store.specs.BuiltReading.{position_in}
use Rattle.record_store.specs.Building.{positions_range}
use Rattle.record_store.specs.Layout.{built_place, built_range, entries_range, packed_in, state_key, place, record_key, schema_key, states_range, type_range}

-- ---- below the end

not_below_nothing : (xs : List ℕ) → is_lt (key_cmp xs []) ≡ false
not_below_nothing [] = refl
not_below_nothing (x ∷ xs) = refl

-- what begins with a prefix below the end is below it
pub below_with : (prefix bytes : List ℕ) → key_lt prefix end_of_keys ≡ true → key_lt bytes end_of_keys ≡ true → key_lt (prefix ++ bytes) end_of_keys ≡ true
below_with [] bytes p b = b
below_with (x ∷ prefix) bytes p b = by_order (nat_cmp x 255) p
  where
    by_order : (o : Ordering) → is_lt (ordering_then o (key_cmp prefix [])) ≡ true → is_lt (ordering_then o (key_cmp (prefix ++ bytes) [])) ≡ true
    by_order Less h = refl
    by_order Equal h = let no : true ≡ false = sym h ∙ not_below_nothing prefix in absurd (cc)
    by_order Greater h = h

module _ (prefix : List ℕ) where
  pub schema_below : key_lt prefix end_of_keys ≡ true → key_lt (schema_key prefix) end_of_keys ≡ true
  unfolding int_spelling written.byte_count
  schema_below p = below_with prefix (0x14 ∷ []) p refl

  pub record_below : (key : List Item) → key_lt prefix end_of_keys ≡ true → key_lt (record_key prefix key) end_of_keys ≡ true
  unfolding int_spelling written.byte_count
  record_below key p = below_with prefix (0x15 ∷ 0x01 ∷ spelling key) p refl

  pub state_below : (number : ℕ) → key_lt prefix end_of_keys ≡ true → key_lt (state_key prefix number) end_of_keys ≡ true
  unfolding int_spelling written.byte_count
  state_below number p = below_with prefix (int_spelling (pos 5) ++ spelling (int (pos number) ∷ [])) p refl

  -- the bytes behind the prefix in the key of a place, and of a record
  pub record_key_is : (key : List Item) → place prefix 1 ++ spelling key ≡ record_key prefix key
  record_key_is key =
      append_assoc prefix (spelling (int (pos 1) ∷ [])) (spelling key)
      ∙ ap (λ s. prefix ++ s) (append_assoc (int_spelling (pos 1)) [] (spelling key))

  -- ---- order

  -- keys are ordered as their primary keys
  pub key_order : (t u : List Item) → IsTuple t → IsTuple u → key_cmp (record_key prefix t) (record_key prefix u) ≡ tuple_cmp t u
  key_order t u h k =
      cmp_behind prefix (spelling (int (pos 1) ∷ t)) (spelling (int (pos 1) ∷ u)) ∙ cmp_behind (int_spelling (pos 1)) (spelling t) (spelling u) ∙ tuple_order t u h.items k.items

  -- where the key of a record of type m stands against the begin and the end of the range of type n
  begin_cmp : (m n : ℕ) (ks : List Item) → m < 2 ^ 64 → n < 2 ^ 64 →
      key_cmp (record_key prefix (int (pos m) ∷ ks)) (record_key prefix (int (pos n) ∷ [])) ≡ ordering_then (nat_cmp m n) (key_cmp (spelling ks) [])
  begin_cmp m n ks hm hn =
      cmp_behind prefix (int_spelling (pos 1) ++ (int_spelling (pos m) ++ spelling ks)) (int_spelling (pos 1) ++ (int_spelling (pos n) ++ []))
      ∙ cmp_behind (int_spelling (pos 1)) (int_spelling (pos m) ++ spelling ks) (int_spelling (pos n) ++ [])
      ∙ cmp_int (pos m) (pos n) (spelling ks) [] hm hn
      ∙ ap (λ o. ordering_then o (key_cmp (spelling ks) [])) (int_cmp_pos m n)

  -- what stands behind the number of a type
  pub behind_type : (n : ℕ) (rest : List ℕ) → record_key prefix (int (pos n) ∷ []) ++ rest ≡ prefix ++ (int_spelling (pos 1) ++ (int_spelling (pos n) ++ rest))
  behind_type n rest =
      append_assoc prefix (int_spelling (pos 1) ++ (int_spelling (pos n) ++ [])) rest
      ∙ ap (λ s. prefix ++ s) (append_assoc (int_spelling (pos 1)) (int_spelling (pos n) ++ []) rest ∙ ap (λ s. int_spelling (pos 1) ++ s) (append_assoc (int_spelling (pos n)) [] rest))

  -- the end of the range of a type, behind the prefix
  pub end_is : (n : ℕ) → record_key prefix (int (pos n) ∷ []) ++ 255 ∷ [] ≡ prefix ++ (int_spelling (pos 1) ++ (int_spelling (pos n) ++ 255 ∷ []))
  end_is n = behind_type n (255 ∷ [])

  end_cmp : (m n : ℕ) (ks : List Item) → m < 2 ^ 64 → n < 2 ^ 64 →
      key_cmp (record_key prefix (int (pos m) ∷ ks)) (record_key prefix (int (pos n) ∷ []) ++ 255 ∷ []) ≡ ordering_then (nat_cmp m n) (key_cmp (spelling ks) (255 ∷ []))
  end_cmp m n ks hm hn =
      ap (key_cmp (record_key prefix (int (pos m) ∷ ks))) (end_is n)
      ∙ cmp_behind prefix (int_spelling (pos 1) ++ (int_spelling (pos m) ++ spelling ks)) (int_spelling (pos 1) ++ (int_spelling (pos n) ++ 255 ∷ []))
      ∙ cmp_behind (int_spelling (pos 1)) (int_spelling (pos m) ++ spelling ks) (int_spelling (pos n) ++ 255 ∷ [])
      ∙ cmp_int (pos m) (pos n) (spelling ks) (255 ∷ []) hm hn
      ∙ ap (λ o. ordering_then o (key_cmp (spelling ks) (255 ∷ []))) (int_cmp_pos m n)

  -- numbers that tie are the same
  tied : (m n : ℕ) → is_eq (nat_cmp m n) ≡ true → m ≡ n
  tied m n is = nat_cmp-IsAntisymmetric m n (equal_of (nat_cmp m n) is)
    where
      equal_of : (o : Ordering) → is_eq o ≡ true → o ≡ Equal
      equal_of Less h = cc
      equal_of Equal h = refl
      equal_of Greater h = cc

  -- the test of a tie is that of equality
  pub tied_numbers : (m n : ℕ) → is_eq (nat_cmp m n) ≡ (m == n)
  tied_numbers m n = by_test (m == n) refl
    where
      apart : (b : Bool) → is_eq (nat_cmp m n) ≡ b → (m ≡ n → ⊥) → b ≡ false
      apart false is differ = refl
      apart true is differ = absurd (differ (tied m n is))

      by_test : (b : Bool) → (m == n) ≡ b → is_eq (nat_cmp m n) ≡ b
      by_test true is = let same : m ≡ n = eqb-true m n is in ap is_eq (ap (nat_cmp m) (sym same) ∙ equal m)
      by_test false is = apart (is_eq (nat_cmp m n)) refl (eqb-false m n is)

  -- between the ends is what has the same number
  by_order : (o p q : Ordering) → is_lt p ≡ false → q ≡ Less → (not (is_lt (ordering_then o p)) && is_lt (ordering_then o q)) ≡ is_eq o
  by_order Less p q low high = refl
  by_order Equal p q low high = ap (λ b. not b && is_lt q) low ∙ ap is_lt high
  by_order Greater p q low high = refl

  -- TYPE: the keys in the range of a type are those of its records
  pub in_type_range : (m n : ℕ) (ks : List Item) → IsTuple (int (pos m) ∷ ks) → n < 2 ^ 64 →
      contains (type_range prefix n) (record_key prefix (int (pos m) ∷ ks)) ≡ (m == n)
  in_type_range m n ks t hn =
      (λ i. not (is_lt (begin_cmp m n ks t.items.0 hn i)) && is_lt (end_cmp m n ks t.items.0 hn i))
      ∙ by_order (nat_cmp m n) (key_cmp (spelling ks) []) (key_cmp (spelling ks) (255 ∷ [])) (not_below_nothing (spelling ks)) (before_escape (spelling ks) [] (outer_tail ks t.items.1))
      ∙ tied_numbers m n

  -- ---- ranges

  pub above_itself : (a x : List ℕ) → key_le a (a ++ x) ≡ true
  above_itself a x = ap (λ b. not b) (ap (λ k. is_lt (key_cmp (a ++ x) k)) (sym (append-nil a)) ∙ ap is_lt (cmp_behind a x []) ∙ not_below_nothing x)

  pub is_type_range : (n : ℕ) → key_lt prefix end_of_keys ≡ true → is_key_range (type_range prefix n) ≡ true
  unfolding int_spelling written.byte_count
  is_type_range n p =
      (λ i. above_itself (record_key prefix (int (pos n) ∷ [])) (255 ∷ []) i && key_le (record_key prefix (int (pos n) ∷ []) ++ 255 ∷ []) end_of_keys)
      ∙ le_from_lt (record_key prefix (int (pos n) ∷ []) ++ 255 ∷ []) end_of_keys
      (ap (λ k. key_lt k end_of_keys) (end_is n) ∙ below_with prefix (int_spelling (pos 1) ++ (int_spelling (pos n) ++ 255 ∷ [])) p refl)

  pub is_entries_range : (n : ℕ) → key_lt prefix end_of_keys ≡ true → is_key_range (entries_range prefix n) ≡ true
  unfolding int_spelling written.byte_count
  is_entries_range n p =
      let rest : List ℕ = int_spelling (pos 2) ++ (int_spelling (pos n) ++ []) in
      (λ i. above_itself (entries_prefix prefix n) (255 ∷ []) i && key_le (entries_prefix prefix n ++ 255 ∷ []) end_of_keys)
      ∙ le_from_lt (entries_prefix prefix n ++ 255 ∷ []) end_of_keys
      (ap (λ k. key_lt k end_of_keys) (append_assoc prefix rest (255 ∷ [])) ∙ below_with prefix (rest ++ 255 ∷ []) p refl)

  pub is_built_range : (n : ℕ) → key_lt prefix end_of_keys ≡ true → is_key_range (built_range prefix n) ≡ true
  unfolding int_spelling written.byte_count
  is_built_range n p =
      let rest : List ℕ = int_spelling (pos 6) ++ (int_spelling (pos n) ++ []) in
      (λ i. not (is_lt (cmp_behind (built_place prefix n) (255 ∷ []) (0 ∷ []) i)) && key_le (built_place prefix n ++ 255 ∷ []) end_of_keys)
      ∙ le_from_lt (built_place prefix n ++ 255 ∷ []) end_of_keys
      (ap (λ k. key_lt k end_of_keys) (append_assoc prefix rest (255 ∷ [])) ∙ below_with prefix (rest ++ 255 ∷ []) p refl)

  pub is_positions_range : (n : ℕ) (range : KeyRange) → key_lt prefix end_of_keys ≡ true → is_key_range range ≡ true → is_key_range (positions_range prefix n range) ≡ true
  unfolding int_spelling written.byte_count
  is_positions_range n range p lawful =
      (λ i. not (is_lt (cmp_behind (record_key prefix (int (pos n) ∷ [])) range.end range.begin i)) && key_le (record_key prefix (int (pos n) ∷ []) ++ range.end) end_of_keys)
      ∙ (λ i. (and_parts (key_le range.begin range.end) (key_le range.end end_of_keys) lawful).0 i && key_le (record_key prefix (int (pos n) ∷ []) ++ range.end) end_of_keys)
      ∙ le_from_lt (record_key prefix (int (pos n) ∷ []) ++ range.end) end_of_keys
      (ap (λ k. key_lt k end_of_keys) (behind_type n range.end) ∙ below_with prefix (int_spelling (pos 1) ++ (int_spelling (pos n) ++ range.end)) p refl)

  -- the position of a record of type n is what stands in its key after the number
  pub position_is : (n : ℕ) (cells : List Item) → position_in prefix n (record_key prefix (int (pos n) ∷ cells)) ≡ position_of (int (pos n) ∷ cells)
  position_is n cells =
      ap (drop (length (record_key prefix (int (pos n) ∷ [])))) (sym (behind_type n (spelling cells)))
      ∙ drop-append_seam (record_key prefix (int (pos n) ∷ [])) (spelling cells)

  -- what stands in the key of a record behind the place of records is the pack of its primary key
  pub packed_is : (key : List Item) → packed_in prefix (record_key prefix key) ≡ spelling key
  unfolding int_spelling written.byte_count
  packed_is key = ap (drop 2) (drop-append_seam prefix (0x15 ∷ 0x01 ∷ spelling key))

  -- the ends of the states' range, behind the prefix
  pub states_end_is : (b : ℕ) → place prefix 5 ++ b ∷ [] ≡ prefix ++ (0x15 ∷ 0x05 ∷ b ∷ [])
  unfolding int_spelling written.byte_count
  states_end_is b = append_assoc prefix (0x15 ∷ 0x05 ∷ []) (b ∷ [])

  pub is_states_range : key_lt prefix end_of_keys ≡ true → is_key_range (states_range prefix) ≡ true
  is_states_range p =
      (λ i. key_le (states_end_is 0 i) (states_end_is 255 i) && key_le (states_end_is 255 i) end_of_keys)
      ∙ (λ i. not (is_lt (cmp_behind prefix (0x15 ∷ 0x05 ∷ 255 ∷ []) (0x15 ∷ 0x05 ∷ 0 ∷ []) i)) && key_le (prefix ++ (0x15 ∷ 0x05 ∷ 255 ∷ [])) end_of_keys)
      ∙ le_from_lt (prefix ++ (0x15 ∷ 0x05 ∷ 255 ∷ [])) end_of_keys (below_with prefix (0x15 ∷ 0x05 ∷ 255 ∷ []) p refl)

-- ---- ends that a body makes

-- ends that are those of a lawful range are not refused
pub not_refused : (range : KeyRange) (begin end : List ℕ) → is_key_range range ≡ true → begin ≡ range.begin → end ≡ range.end → is_key_range (record { begin = begin; end = end }) ≡ false → ⊥
not_refused range begin end lawful b e none =
    let made : is_key_range (record { begin = begin; end = end }) ≡ true = (λ i. is_key_range (record { begin = b i; end = e i })) ∙ lawful in cc

pub below_as : (key other : List ℕ) → key ≡ other → key_lt other end_of_keys ≡ true → key_lt key end_of_keys ≡ true
below_as key other same below = ap (λ k. key_lt k end_of_keys) same ∙ below
