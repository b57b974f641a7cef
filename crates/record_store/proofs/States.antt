-- The pairs that stand for the states that are listed, where one of them is put or taken out.
use Rattle.std.proofs.Common.{◌≡◌, ℕ, Bool, true, false, not, cond, ◌==◌, ◌<◌, ◌^◌, List, [], ◌∷◌, ◌++◌, refl, sym, ap, subst, ◌∙◌, map, pos}
use Rattle.std.specs.declared.cmp.Ordering.{Ordering}
use Rattle.std.specs.declared.cmp.Ordering.TheVariants.{Less, Equal, Greater}
use Rattle.std.specs.BTreeMap.{insert_entry}
use Rattle.std.specs.Ordering.{is_eq, match_ordering, nat_cmp, ordering_then}
use Rattle.tuple_codec.specs.Spelling.{int_spelling}
use Rattle.tuple_codec.proofs.IntOrder.{cmp_int, int_cmp_pos}
use Rattle.tuple_codec.proofs.Prefixes.{cmp_behind}
use Rattle.kv_core.specs.Bytes.{key_cmp}
use Rattle.kv_core.specs.Map.{Map, after}
use Rattle.kv_core.specs.Range.{point, entries_outside}
use Rattle.kv_core.specs.declared.change.Mutation.TheVariants.{Set, ClearRange}
use Rattle.kv_core.proofs.Order.{tied_swap}
use Rattle.kv_core.proofs.Pairs.{contains-point-is}
use Rattle.kv_core.proofs.Stored.{stored, stored-set, stored-cleared}
use Rattle.metadata.specs.declared.index.State.{State}
use Rattle.metadata.specs.declared.index.State.TheVariants.{Readable}
use Rattle.metadata.specs.Index.{is_readable}
use Rattle.metadata.specs.Lawful.{IsLawfulSchema}
use Rattle.record_store.specs.Store.{Store, listed_by, listed_states, altered_at, state_of}
use Rattle.record_store.specs.Layout.{place, state_key, state_pair, state_value}
use Rattle.record_store.specs.Holds.{HasPairs, has_number}
use Rattle.record_store.proofs.Changed.{pairs_after}
use Rattle.record_store.proofs.Keys.{tied_numbers}
use Rattle.record_store.proofs.Listed.{AreLow, listed_out, listed_put, number_low, schema_apart, schema_rise, store_low, with_state, without_state}

-- ---- pairs

module _ (prefix : List ℕ) where
  -- the keys of states are ordered as the numbers
  pub state_order : (m n : ℕ) → m < 2 ^ 64 → n < 2 ^ 64 → key_cmp (state_key prefix m) (state_key prefix n) ≡ nat_cmp m n
  state_order m n low high =
      cmp_behind prefix (int_spelling (pos 5) ++ (int_spelling (pos m) ++ [])) (int_spelling (pos 5) ++ (int_spelling (pos n) ++ []))
      ∙ cmp_behind (int_spelling (pos 5)) (int_spelling (pos m) ++ []) (int_spelling (pos n) ++ [])
      ∙ cmp_int (pos m) (pos n) [] [] low high ∙ ap (λ o. ordering_then o Equal) (int_cmp_pos m n) ∙ then_equal (nat_cmp m n)
    where
      then_equal : (o : Ordering) → ordering_then o Equal ≡ o
      then_equal Less = refl
      then_equal Equal = refl
      then_equal Greater = refl

  -- a state put among the pairs
  states_inserted : (number : ℕ) (state : State) (states : List (ℕ × State)) → number < 2 ^ 64 → AreLow states →
      insert_entry key_cmp (map (state_pair prefix) states) (state_key prefix number) (state_value state) ≡ map (state_pair prefix) (with_state number state states)
  states_inserted number state [] low all = refl
  states_inserted number state (one ∷ states) low all =
      ap (λ o. match_ordering o (state_pair prefix (number, state) ∷ state_pair prefix one ∷ map (state_pair prefix) states) ((state_key prefix one.0, state_value state) ∷ map (state_pair prefix) states)
      (state_pair prefix one ∷ insert_entry key_cmp (map (state_pair prefix) states) (state_key prefix number) (state_value state))) (state_order number one.0 low all.0)
      ∙ by_order (nat_cmp number one.0) (states_inserted number state states low all.1)
    where
      by_order : (o : Ordering) → insert_entry key_cmp (map (state_pair prefix) states) (state_key prefix number) (state_value state) ≡ map (state_pair prefix) (with_state number state states) →
          match_ordering o (state_pair prefix (number, state) ∷ state_pair prefix one ∷ map (state_pair prefix) states) ((state_key prefix one.0, state_value state) ∷ map (state_pair prefix) states)
          (state_pair prefix one ∷ insert_entry key_cmp (map (state_pair prefix) states) (state_key prefix number) (state_value state))
          ≡ map (state_pair prefix) (match_ordering o ((number, state) ∷ one ∷ states) ((one.0, state) ∷ states) (one ∷ with_state number state states))
      by_order Less rest = refl
      by_order Equal rest = refl
      by_order Greater rest = ap (λ ps. state_pair prefix one ∷ ps) rest

  states_put_in : (number : ℕ) (state : State) (states : List (ℕ × State)) (m : Map) → number < 2 ^ 64 → AreLow states → HasPairs (place prefix 5) (map (state_pair prefix) states) m →
      HasPairs (place prefix 5) (map (state_pair prefix) (with_state number state states)) (after (Set (state_key prefix number) (state_value state)) m)
  states_put_in number state states m low all has =
      pairs_after prefix (place prefix 5) (map (state_pair prefix) states) (map (state_pair prefix) (with_state number state states)) m (Set (state_key prefix number) (state_value state))
      (ap stored (sym (states_inserted number state states low all)) ∙ stored-set (map (state_pair prefix) states) (state_key prefix number) (state_value state)) has

  -- a state taken out of the pairs
  states_outside : (number : ℕ) (states : List (ℕ × State)) → number < 2 ^ 64 → AreLow states →
      entries_outside (point (state_key prefix number)) (map (state_pair prefix) states) ≡ map (state_pair prefix) (without_state number states)
  states_outside number [] low all = refl
  states_outside number (one ∷ states) low all =
      ap (λ b. cond (not b) (state_pair prefix one ∷ entries_outside (point (state_key prefix number)) (map (state_pair prefix) states)) (entries_outside (point (state_key prefix number)) (map (state_pair prefix) states)))
      (contains-point-is (state_key prefix number) (state_key prefix one.0) ∙ tied_swap (state_key prefix number) (state_key prefix one.0) ∙ ap is_eq (state_order one.0 number all.0 low) ∙ tied_numbers prefix one.0 number)
      ∙ by_test (not (one.0 == number)) (states_outside number states low all.1)
    where
      by_test : (b : Bool) → entries_outside (point (state_key prefix number)) (map (state_pair prefix) states) ≡ map (state_pair prefix) (without_state number states) →
          cond b (state_pair prefix one ∷ entries_outside (point (state_key prefix number)) (map (state_pair prefix) states)) (entries_outside (point (state_key prefix number)) (map (state_pair prefix) states))
          ≡ map (state_pair prefix) (cond b (one ∷ without_state number states) (without_state number states))
      by_test true rest = ap (λ ps. state_pair prefix one ∷ ps) rest
      by_test false rest = rest

  states_cleared_in : (number : ℕ) (states : List (ℕ × State)) (m : Map) → number < 2 ^ 64 → AreLow states → HasPairs (place prefix 5) (map (state_pair prefix) states) m →
      HasPairs (place prefix 5) (map (state_pair prefix) (without_state number states)) (after (ClearRange (point (state_key prefix number))) m)
  states_cleared_in number states m low all has =
      pairs_after prefix (place prefix 5) (map (state_pair prefix) states) (map (state_pair prefix) (without_state number states)) m (ClearRange (point (state_key prefix number)))
      (ap stored (sym (states_outside number states low all)) ∙ stored-cleared (map (state_pair prefix) states) (point (state_key prefix number))) has

  -- PUT: the states that are listed, where one of them that isn't readable is put
  pub states_put : (number : ℕ) (state : State) (store : Store) (m : Map) → IsLawfulSchema store.schema → has_number store.schema.indexes number ≡ true → is_readable state ≡ false →
      HasPairs (place prefix 5) (map (state_pair prefix) (listed_states store)) m →
      HasPairs (place prefix 5) (map (state_pair prefix) (listed_by store.schema.indexes (altered_at number state (state_of store)))) (after (Set (state_key prefix number) (state_value state)) m)
  states_put number state store m lawful there other has =
      subst (λ ss. HasPairs (place prefix 5) (map (state_pair prefix) ss) (after (Set (state_key prefix number) (state_value state)) m))
      (listed_put 0 number state store.schema.indexes (state_of store) other (schema_rise store.schema lawful) there)
      (states_put_in number state (listed_states store) m (number_low store.schema.indexes number (schema_apart store.schema lawful) there) (store_low store lawful) has)

  -- CLEARED: where one is taken out
  pub states_cleared : (number : ℕ) (store : Store) (m : Map) → IsLawfulSchema store.schema → number < 2 ^ 64 → HasPairs (place prefix 5) (map (state_pair prefix) (listed_states store)) m →
      HasPairs (place prefix 5) (map (state_pair prefix) (listed_by store.schema.indexes (altered_at number Readable (state_of store)))) (after (ClearRange (point (state_key prefix number))) m)
  states_cleared number store m lawful low has =
      subst (λ ss. HasPairs (place prefix 5) (map (state_pair prefix) ss) (after (ClearRange (point (state_key prefix number))) m)) (listed_out number store.schema.indexes (state_of store))
      (states_cleared_in number (listed_states store) m low (store_low store lawful) has)
