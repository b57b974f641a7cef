-- A list of keys and a list of their values, edited at one place, as one list of entries.
use Rattle.std.proofs.Common.{◌≡◌, ℕ, zero, suc, ◌-◌, ◌<◌, ◌≤◌, List, [], ◌∷◌, ◌++◌, length, get_or, set, take, drop, slice_range, insert, remove, zip, None, Some, slice_get, refl, ap, ◌∙◌, sym, arith, eqb, eqb-true, true, false, true≢false}
use Rattle.std.specs.Map.{keys_of, values_of}
use Rattle.std_collections.specs.Layout.Columns.{set_value_at}
use Rattle.std_collections.proofs.Zip.{keys_of-zip, length-zip_even, slice_get_at, values_of-zip, zip-append, zip-set_value, zip-take}

module _ {K X : Type 0} where
  pub zip-drop : (i : ℕ) (ks : List K) (vs : List X) → length vs ≡ length ks → zip (drop i ks) (drop i vs) ≡ drop i (zip ks vs)
  zip-drop zero ks vs even = refl
  zip-drop (suc i) [] vs even = refl
  zip-drop (suc i) (k ∷ ks) [] even = absurd (omega arith)
  zip-drop (suc i) (k ∷ ks) (v ∷ vs) even = zip-drop i ks vs (omega arith)

  pub zip-insert : (i : ℕ) (ks : List K) (vs : List X) (k : K) (v : X) → length vs ≡ length ks → zip (insert ks i k) (insert vs i v) ≡ insert (zip ks vs) i (k, v)
  zip-insert zero ks vs k v even = refl
  zip-insert (suc i) [] [] k v even = refl
  zip-insert (suc i) [] (w ∷ vs) k v even = absurd (omega arith)
  zip-insert (suc i) (l ∷ ks) [] k v even = absurd (omega arith)
  zip-insert (suc i) (l ∷ ks) (w ∷ vs) k v even = ap (λ es. (l, w) ∷ es) (zip-insert i ks vs k v (omega arith))

  pub zip-remove : (i : ℕ) (ks : List K) (vs : List X) → length vs ≡ length ks → zip (remove ks i) (remove vs i) ≡ remove (zip ks vs) i
  zip-remove zero [] [] even = refl
  zip-remove (suc i) [] [] even = refl
  zip-remove i [] (w ∷ vs) even = absurd (omega arith)
  zip-remove i (l ∷ ks) [] even = absurd (omega arith)
  zip-remove zero (l ∷ ks) (w ∷ vs) even = refl
  zip-remove (suc i) (l ∷ ks) (w ∷ vs) even = ap (λ es. (l, w) ∷ es) (zip-remove i ks vs (omega arith))

pub slice_get_none : {A : Type 0} (xs : List A) (i : ℕ) → length xs ≤ i → slice_get xs i ≡ None
slice_get_none [] i past = refl
slice_get_none (x ∷ xs) zero past = absurd (omega arith)
slice_get_none (x ∷ xs) (suc i) past = slice_get_none xs i (omega arith)

-- ---- a block's keys and values against the entries that it is seen as
module _ {K X : Type 0} (ks : List K) (vs : List X) (es : List (K × X)) (even : length vs ≡ length ks) (is : zip ks vs ≡ es) where
  pub entry_count : length es ≡ length ks
  entry_count = sym (ap length is) ∙ length-zip_even ks vs even

  pub keys_are : ks ≡ keys_of es
  keys_are = sym (keys_of-zip ks vs even) ∙ ap keys_of is

  pub values_are : vs ≡ values_of es
  values_are = sym (values_of-zip ks vs even) ∙ ap values_of is

  pub value_there : (i : ℕ) (v : X) → i < length es → v ≡ get_or vs i v → slice_get (values_of es) i ≡ Some v
  value_there i v within at = sym (ap (λ l. slice_get l i) values_are) ∙ slice_get_at vs i v (omega (arith, entry_count)) at

  pub inserted_is : (i : ℕ) (k : K) (v : X) → zip (insert ks i k) (insert vs i v) ≡ insert es i (k, v)
  inserted_is i k v = zip-insert i ks vs k v even ∙ ap (λ l. insert l i (k, v)) is

  pub removed_is : (i : ℕ) → zip (remove ks i) (remove vs i) ≡ remove es i
  removed_is i = zip-remove i ks vs even ∙ ap (λ l. remove l i) is

  pub written_is : (i : ℕ) (v : X) → zip ks (set vs i v) ≡ set_value_at es i v
  written_is i v = zip-set_value ks vs i v ∙ ap (λ l. set_value_at l i v) is

  pub taken_is : (i : ℕ) → zip (take i ks) (take i vs) ≡ take i es
  taken_is i = zip-take i ks vs ∙ ap (take i) is

  pub dropped_is : (i : ℕ) → zip (drop i ks) (drop i vs) ≡ drop i es
  dropped_is i = zip-drop i ks vs even ∙ ap (drop i) is

  pub part_is : (from to : ℕ) → zip (slice_range ks from to) (slice_range vs from to) ≡ slice_range es from to
  part_is from to = zip-take (to - from) (drop from ks) (drop from vs) ∙ ap (take (to - from)) (dropped_is from)

  pub appended_is : (ls : List K) (ws : List X) (fs : List (K × X)) → zip ls ws ≡ fs → zip (ks ++ ls) (vs ++ ws) ≡ es ++ fs
  appended_is ls ws fs more = zip-append ks vs ls ws even ∙ (λ i. is i ++ more i)

-- whether a list has no items
pub none_there : (n : ℕ) → eqb n 0 ≡ true → n ≡ 0
none_there n h = eqb-true n 0 h

pub some_there : (n : ℕ) → eqb n 0 ≡ false → 0 < n
some_there zero h = absurd (true≢false h)
some_there (suc n) h = omega arith
