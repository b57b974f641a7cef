-- The pairs in the range of the states: they are those of the states, and tell them.
use Rattle.std.proofs.Common.{◌≡◌, ℕ, true, not, cond, ◌&&◌, ◌<◌, ◌^◌, arith, List, [], ◌∷◌, refl, sym, ap, ◌∙◌, Some, map, pos}
use Rattle.std.specs.declared.cmp.Ordering.{Ordering}
use Rattle.std.specs.declared.cmp.Ordering.TheVariants.{Less, Equal, Greater}
use Rattle.std.specs.List.{AllByRecursion}
use Rattle.std.specs.List.Sorted.{IsStrictlySortedBy}
use Rattle.std.specs.Map.{keys_of}
use Rattle.std.specs.Ordering.{is_lt}
use Rattle.std.specs.FinMap.{nat_cmp-IsAntisymmetric}
use Rattle.std.proofs.lemmas.Bool.{false_from_ne_true}
use Rattle.std.proofs.lemmas.Cmp.{nat_list_cmp_total, tied_itself}
use Rattle.tuple_codec.specs.Item.{IsTuple, int}
use Rattle.tuple_codec.specs.Spelling.{int_spelling, spelling}
use Rattle.tuple_codec.specs.Spelling as written
use Rattle.tuple_codec.specs.Subspace.{range_begin, subspace_key}
use Rattle.tuple_codec.proofs.ByteOrder.{less}
use Rattle.tuple_codec.proofs.Prefixes.{key_within}
use Rattle.kv_core.specs.Bytes.{key_cmp}
use Rattle.kv_core.specs.Map.{Map, pairs_in}
use Rattle.kv_core.specs.Range.{contains, entries_in}
use Rattle.kv_core.proofs.Stored.{pairs_in-stored}
use Rattle.metadata.specs.declared.index.State.{State}
use Rattle.metadata.specs.declared.index.State.TheVariants.{Readable, WriteOnly, Disabled}
use Rattle.record_store.specs.Store.{Store, listed_states}
use Rattle.record_store.specs.Layout.{place, state_key, state_pair, state_value, states_range}
use Rattle.record_store.specs.Holds.{Holds}
use Rattle.record_store.proofs.Held.{held_in}
use Rattle.record_store.proofs.Kept.{state_key_is}
use Rattle.record_store.proofs.Listed.{AreLow, AreRising, store_low, store_rising}
use Rattle.record_store.proofs.States.{state_order}

-- the tuple of a number of 64 bits
number_tuple : (number : ℕ) → number < 2 ^ 64 → IsTuple (int (pos number) ∷ [])
number_tuple number low = record { items = (low, tt); depth = omega arith }

module _ (prefix : List ℕ) where
  -- it is in the range of the states
  pub state_inside : (number : ℕ) → number < 2 ^ 64 → contains (states_range prefix) (state_key prefix number) ≡ true
  state_inside number low =
      let ends = (key_within (place prefix 5) (int (pos number) ∷ []) (number_tuple number low)).1 (λ no. cc) in
      ap (contains (states_range prefix)) (sym (state_key_is prefix number))
      ∙ (λ i. not (false_from_ne_true (is_lt (key_cmp (subspace_key (place prefix 5) (int (pos number) ∷ [])) (range_begin (place prefix 5))))
      (λ before. ends.0 (less_of (key_cmp (subspace_key (place prefix 5) (int (pos number) ∷ [])) (range_begin (place prefix 5))) before)) i)
      && is_lt (ends.1 i))
    where
      less_of : (o : Ordering) → is_lt o ≡ true → o ≡ Less
      less_of Less h = refl
      less_of Equal h = cc
      less_of Greater h = cc

  all_inside : (states : List (ℕ × State)) → AreLow states → entries_in (states_range prefix) (map (state_pair prefix) states) ≡ map (state_pair prefix) states
  all_inside [] low = refl
  all_inside (one ∷ states) low =
      ap (λ b. cond b (state_pair prefix one ∷ entries_in (states_range prefix) (map (state_pair prefix) states)) (entries_in (states_range prefix) (map (state_pair prefix) states))) (state_inside one.0 low.0)
      ∙ ap (λ ps. state_pair prefix one ∷ ps) (all_inside states low.1)

  -- the keys of states rise
  above : (one : ℕ × State) (states : List (ℕ × State)) → one.0 < 2 ^ 64 → AreLow states → AllByRecursion (λ later. one.0 < later.0) states →
      AllByRecursion (λ k. key_cmp (state_key prefix one.0) k ≡ Less) (keys_of (map (state_pair prefix) states))
  above one [] low all rising = tt
  above one (later ∷ states) low all rising = (state_order prefix one.0 later.0 low all.0 ∙ less one.0 later.0 rising.0, above one states low all.1 rising.1)

  keys_rise : (states : List (ℕ × State)) → AreLow states → AreRising states → IsStrictlySortedBy key_cmp (keys_of (map (state_pair prefix) states))
  unfolding IsStrictlySortedBy
  keys_rise [] low rising = tt
  keys_rise (one ∷ states) low rising = (above one states low.0 low.1 rising.0, keys_rise states low.1 rising.1)

  -- STATES: the pairs in the range of the states are those of the states, in order
  pub states_held : (m : Map) (store : Store) → Holds prefix m (Some store) → pairs_in m (states_range prefix) ≡ map (state_pair prefix) (listed_states store)
  states_held m store holds =
      let low = store_low store holds.lawful.schema in
      held_in prefix (place prefix 5) (map (state_pair prefix) (listed_states store)) m (states_range prefix) (0 ∷ []) (255 ∷ []) refl holds.states
      ∙ pairs_in-stored (map (state_pair prefix) (listed_states store)) (states_range prefix) (keys_rise (listed_states store) low (store_rising store holds.lawful.schema))
      ∙ all_inside (listed_states store) low

  -- ---- what pairs tell

  -- a value tells its state
  pub one_state : (a b : State) → state_value a ≡ state_value b → a ≡ b
  unfolding int_spelling written.byte_count
  one_state Readable Readable same = refl
  one_state Readable WriteOnly same = cc
  one_state Readable Disabled same = cc
  one_state WriteOnly Readable same = cc
  one_state WriteOnly WriteOnly same = refl
  one_state WriteOnly Disabled same = cc
  one_state Disabled Readable same = cc
  one_state Disabled WriteOnly same = cc
  one_state Disabled Disabled same = refl

  -- a key tells its number
  pub one_number : (m n : ℕ) → m < 2 ^ 64 → n < 2 ^ 64 → state_key prefix m ≡ state_key prefix n → m ≡ n
  one_number m n low high same =
      nat_cmp-IsAntisymmetric m n (sym (state_order prefix m n low high) ∙ ap (key_cmp (state_key prefix m)) (sym same) ∙ tied_itself nat_list_cmp_total (state_key prefix m))

  -- so pairs tell the states
  pub same_states : (states others : List (ℕ × State)) → AreLow states → AreLow others → map (state_pair prefix) states ≡ map (state_pair prefix) others → states ≡ others
  same_states [] [] low high same = refl
  same_states [] (other ∷ others) low high same = cc
  same_states (one ∷ states) [] low high same = cc
  same_states (one ∷ states) (other ∷ others) low high same =
      let first : state_pair prefix one ≡ state_pair prefix other = cc in
      let rest : map (state_pair prefix) states ≡ map (state_pair prefix) others = cc in
      let number = one_number one.0 other.0 low.0 high.0 (ap (λ (p : List ℕ × List ℕ). p.0) first) in
      let state = one_state one.1 other.1 (ap (λ (p : List ℕ × List ℕ). p.1) first) in
      λ i. (number i, state i) ∷ same_states states others low.1 high.1 rest i
