-- The keys that a transaction compares: their mutations, and a read of a range that has some of them.
use Rattle.std.proofs.Common.{◌≡◌, ℕ, ◌+◌, ◌<◌, Bool, true, false, cond, not, ◌&&◌, ◌||◌, Option, None, Some, List, [], ◌∷◌, ◌++◌, arith, get_or, length, take, unwrap_or, inl, inr, refl, sym, ap, ◌∙◌}
use Rattle.std.proofs.lemmas.List.{take_more}
use Rattle.std.proofs.lemmas.List.Folds.{list_any-append}
use Rattle.std.proofs.lemmas.Bool.{cases_Bool}
use Rattle.std.proofs.lemmas.Map.Entries.{lookup-filter-keys}
use Rattle.std.proofs.lemmas.Map.Made.{is_some-lookup}
use Rattle.std.specs.BTreeMap.{BTreeMap, get as tree_get, is_at}
use Rattle.std.specs.FinMap.{get}
use Rattle.std.specs.List.{filter}
use Rattle.std.specs.Map.{keys_of}
use Rattle.std.specs.Option.{is_some}
use Rattle.std.specs.Ordering.{is_eq, is_le}
use Rattle.kv_core.specs.Bytes.{has_key, key_cmp}
use Rattle.kv_core.specs.Map.{Map, pairs_in, value_after_all}
use Rattle.kv_core.specs.Range.{KeyRange, contains, covers}
use Rattle.kv_core.specs.Read.{limited, read_of}
use Rattle.kv_core.specs.declared.change.Mutation.{Mutation}
use Rattle.kv_core.proofs.Changes.{pairs_in-same}
use Rattle.kv_core.proofs.Order.{tied_keys, tied_swap}
use Rattle.kv_core.proofs.Stored.{in_bounds}
use Rattle.txn.specs.Own.{OwnState, IsUnder, compared_at, compared_in, known, left_of, sum_at, under, worth_of}

abbrev Tree : Type 0
Tree = BTreeMap (List ℕ) (List Mutation)

-- one more mutation of a key, after those that were taken out
pub noted_more : (old mid new : Tree) (k k' : List ℕ) (taken : Option (List Mutation)) (noted : List Mutation) (c : Mutation) → taken ≡ tree_get key_cmp old k →
    noted ≡ unwrap_or taken [] ++ c ∷ [] → k' ≡ k → ((q : List ℕ) → tree_get key_cmp mid q ≡ cond (is_eq (key_cmp k q)) None (tree_get key_cmp old q)) →
    ((q : List ℕ) → tree_get key_cmp new q ≡ cond (is_eq (key_cmp k' q)) (Some noted) (tree_get key_cmp mid q)) →
    (q : List ℕ) → compared_at new q ≡ cond (is_eq (key_cmp k q)) (compared_at old q ++ c ∷ []) (compared_at old q)
noted_more old mid new k k' taken noted c was is same gone put q =
    ap (λ o. unwrap_or o []) (put q ∙ (λ i. cond (is_eq (key_cmp (same i) q)) (Some noted) (gone q i)))
    ∙ elim (cases_Bool (is_eq (key_cmp k q))) [
      | inl here ↦
          ap (λ b. unwrap_or (cond b (Some noted) (cond b None (tree_get key_cmp old q))) []) here
          ∙ is ∙ ap (λ o. unwrap_or o [] ++ c ∷ []) (was ∙ ap (tree_get key_cmp old) (tied_keys k q here))
          ∙ sym (ap (λ b. cond b (compared_at old q ++ c ∷ []) (compared_at old q)) here)
      | inr other ↦
          ap (λ b. unwrap_or (cond b (Some noted) (cond b None (tree_get key_cmp old q))) []) other
          ∙ sym (ap (λ b. cond b (compared_at old q ++ c ∷ []) (compared_at old q)) other)
    ]

-- the mutations of a key forgotten
pub forgotten : (old new : Tree) (k : List ℕ) → ((q : List ℕ) → tree_get key_cmp new q ≡ cond (is_eq (key_cmp k q)) None (tree_get key_cmp old q)) →
    (q : List ℕ) → compared_at new q ≡ cond (is_eq (key_cmp k q)) [] (compared_at old q)
forgotten old new k gone q =
    ap (λ o. unwrap_or o []) (gone q)
    ∙ elim (is_eq (key_cmp k q)) as (λ b. unwrap_or (cond b None (tree_get key_cmp old q)) [] ≡ cond b [] (compared_at old q)) [ true ↦ refl | false ↦ refl ]

-- the entries that a map gives of a range
pub compared_between : (range : KeyRange) (b e : List ℕ) (es : List (List ℕ × List Mutation)) → b ≡ range.begin → e ≡ range.end →
    filter (λ x. is_le (key_cmp b x.0) && not (is_le (key_cmp e x.0))) es ≡ compared_in range es
compared_between range b e es p q =
    (λ i. filter (λ x. is_le (key_cmp (p i) x.0) && not (is_le (key_cmp (q i) x.0))) es) ∙ (λ i. filter (λ x. in_bounds range x.0 i) es)

-- a list of no elements is empty
pub no_elements : {X : Type 0} (xs : List X) → length xs ≡ 0 → xs ≡ []
no_elements [] e = refl
no_elements (x ∷ xs) e = absurd (omega (arith, e))

-- which keys of a range are compared
pub compared_has : (range : KeyRange) (compared : Tree) (q : List ℕ) →
    has_key (keys_of (compared_in range compared.entries)) q ≡ is_some (cond (contains range q) (tree_get key_cmp compared q) None)
compared_has range compared q =
    sym (is_some-lookup (is_at (key_cmp q)) (compared_in range compared.entries))
    ∙ ap is_some (lookup-filter-keys (is_at (key_cmp q)) (contains range) (contains range q) (λ k t. ap (contains range) (sym (tied_keys q k t))) compared.entries)

-- the mutations of a range's keys forgotten
pub forgotten_range : (range : KeyRange) (old new : Tree) (keys : List (List ℕ)) → keys ≡ keys_of (compared_in range old.entries) →
    ((q : List ℕ) → compared_at new q ≡ cond (has_key keys q) [] (compared_at old q)) →
    (q : List ℕ) → compared_at new q ≡ cond (contains range q) [] (compared_at old q)
forgotten_range range old new keys is gone q =
    gone q ∙ ap (λ b. cond b [] (compared_at old q)) (ap (λ ks. has_key ks q) is ∙ compared_has range old q) ∙ either (contains range q) (tree_get key_cmp old q)
  where
    either : (b : Bool) (o : Option (List Mutation)) → cond (is_some (cond b o None)) [] (unwrap_or o []) ≡ cond b [] (unwrap_or o [])
    either true None = refl
    either true (Some ms) = refl
    either false o = refl

-- a value that is left already is left again
left-left : (cleared : List KeyRange) (q : List ℕ) (before : Option (List ℕ)) → left_of cleared q (left_of cleared q before) ≡ left_of cleared q before
left-left cleared q before = elim (covers cleared q) as (λ b. cond b None (cond b None before) ≡ cond b None before) [ true ↦ refl | false ↦ refl ]

-- a key that isn't compared has no mutations of its own
none_at : (o : Option (List Mutation)) → is_some o ≡ false → unwrap_or o [] ≡ []
none_at None h = refl
none_at (Some ms) h = cc

pub uncompared_at : (compared : Tree) (q : List ℕ) → is_some (tree_get key_cmp compared q) ≡ false → compared_at compared q ≡ []
uncompared_at compared q none = none_at (tree_get key_cmp compared q) none

-- where no key of a range is compared, each of them is known
pub known_in : (own : OwnState) (range : KeyRange) (keys : List (List ℕ)) → keys ≡ keys_of (compared_in range own.compared.entries) → keys ≡ [] →
    (q : List ℕ) → contains range q ≡ true → (before : Option (List ℕ)) → under own q before ≡ known own q before
known_in own range keys is none q inside before =
    let missing : is_some (tree_get key_cmp own.compared q) ≡ false =
    sym (ap (λ b. is_some (cond b (tree_get key_cmp own.compared q) None)) inside) ∙ sym (compared_has range own.compared q) ∙ ap (λ ks. has_key ks q) (sym is ∙ none) in
    ap (λ ms. value_after_all ms q (known own q before)) (uncompared_at own.compared q missing)

-- a read where all own pairs of the range are put over the stored ones, and then the values at compared keys
pub merged_compared : (own : OwnState) (base m left laid : Map) (range : KeyRange) (keys : List (List ℕ)) (limit : ℕ) (b : Bool) → keys ≡ keys_of (compared_in range own.compared.entries) →
    IsUnder own base m → ((q : List ℕ) → contains range q ≡ true → get left q ≡ left_of own.cleared q (get base q)) →
    ((q : List ℕ) → contains range q ≡ true → get laid q ≡ cond (has_key keys q) (under own q (get left q)) (worth_of (get own.written q) (sum_at own.sums q) (get left q))) →
    read_of laid range limit b ≡ read_of m range limit b
merged_compared own base m left laid range keys limit b is under_is tell lays = ap (limited limit b) (pairs_in-same laid m range same)
  where
    known_left : (q : List ℕ) → contains range q ≡ true → known own q (get left q) ≡ known own q (get base q)
    known_left q inside =
        ap (λ o. worth_of (get own.written q) (sum_at own.sums q) o) (ap (left_of own.cleared q) (tell q inside) ∙ left-left own.cleared q (get base q))

    same : (q : List ℕ) → contains range q ≡ true → get laid q ≡ get m q
    same q inside = lays q inside ∙ elim (cases_Bool (has_key keys q)) [
      | inl here ↦
          ap (λ t. cond t (under own q (get left q)) (worth_of (get own.written q) (sum_at own.sums q) (get left q))) here
          ∙ ap (value_after_all (compared_at own.compared q) q) (known_left q inside) ∙ sym (under_is q)
      | inr other ↦
          let missing : is_some (tree_get key_cmp own.compared q) ≡ false =
          sym (ap (λ t. is_some (cond t (tree_get key_cmp own.compared q) None)) inside) ∙ sym (compared_has range own.compared q) ∙ ap (λ ks. has_key ks q) (sym is) ∙ other in
          ap (λ t. cond t (under own q (get left q)) (worth_of (get own.written q) (sum_at own.sums q) (get left q))) other
          ∙ ap (λ o. worth_of (get own.written q) (sum_at own.sums q) o) (tell q inside)
          ∙ sym (ap (λ ms. value_after_all ms q (known own q (get base q))) (uncompared_at own.compared q missing))
          ∙ sym (under_is q)
    ]

-- the first keys and one more
has_more : (keys : List (List ℕ)) (i : ℕ) (k q : List ℕ) → i < length keys → k ≡ get_or keys i k → has_key (take (i + 1) keys) q ≡ (has_key (take i keys) q || (is_eq (key_cmp q k) || false))
has_more keys i k q below is =
    ap (λ ks. has_key ks q) (take_more keys i k below) ∙ list_any-append (λ own. is_eq (key_cmp q own)) (take i keys) (get_or keys i k ∷ [])
    ∙ ap (λ x. has_key (take i keys) q || (is_eq (key_cmp q x) || false)) (sym is)

both : {X : Type 0} (a b : Bool) (x y : X) → cond a x (cond b x y) ≡ cond (b || (a || false)) x y
both true true x y = refl
both true false x y = refl
both false true x y = refl
both false false x y = refl

-- one key more is forgotten
pub forgot_more : (keys : List (List ℕ)) (i : ℕ) (k q : List ℕ) (was now after : List Mutation) → i < length keys → k ≡ get_or keys i k → now ≡ cond (has_key (take i keys) q) [] was →
    after ≡ cond (is_eq (key_cmp k q)) [] now → after ≡ cond (has_key (take (i + 1) keys) q) [] was
forgot_more keys i k q was now after below is before step =
    step ∙ ap (cond (is_eq (key_cmp k q)) []) before ∙ ap (λ b. cond b [] (cond (has_key (take i keys) q) [] was)) (tied_swap k q)
    ∙ both (is_eq (key_cmp q k)) (has_key (take i keys) q) [] was ∙ ap (λ b. cond b [] was) (sym (has_more keys i k q below is))

-- one compared key more is put over
pub put_more : (own : OwnState) (keys : List (List ℕ)) (i : ℕ) (k q : List ℕ) (left : Map) (value first old new : Option (List ℕ)) → i < length keys → k ≡ get_or keys i k →
    value ≡ under own k (get left k) → old ≡ cond (has_key (take i keys) q) (under own q (get left q)) first → new ≡ cond (is_eq (key_cmp q k)) value old →
    new ≡ cond (has_key (take (i + 1) keys) q) (under own q (get left q)) first
put_more own keys i k q left value first old new below is value_is before step =
    step ∙ own_value ∙ ap (cond (is_eq (key_cmp q k)) (under own q (get left q))) before
    ∙ both (is_eq (key_cmp q k)) (has_key (take i keys) q) (under own q (get left q)) first
    ∙ ap (λ b. cond b (under own q (get left q)) first) (sym (has_more keys i k q below is))
  where
    own_value : cond (is_eq (key_cmp q k)) value old ≡ cond (is_eq (key_cmp q k)) (under own q (get left q)) old
    own_value = elim (cases_Bool (is_eq (key_cmp q k))) [
      | inl here ↦
          ap (λ b. cond b value old) here ∙ value_is ∙ ap (λ x. under own x (get left x)) (sym (tied_keys q k here))
          ∙ sym (ap (λ b. cond b (under own q (get left q)) old) here)
      | inr other ↦ ap (λ b. cond b value old) other ∙ sym (ap (λ b. cond b (under own q (get left q)) old) other)
    ]
