-- Pairs of a list and of a map: one that is looked up is a member, and a member is found.
use Rattle.std.specs.Prelude.{◌≡◌, ◌⊎◌, ℕ, Bool, true, false, cond, List, [], ◌∷◌, map, Some, refl}
use Rattle.std.specs.FinMap.{entries, entries_sorted, from_entries, get, get-entries, get-from_entries}
use Rattle.std.specs.FinMap.Entries.{find, is_sorted}
use Rattle.std.specs.Ordering.{is_eq}
use Rattle.std.specs.Cmp.Lexicographic.{nat_list_cmp_total}
use Rattle.std.proofs.Common.{ap, sym, ◌∙◌, subst, inl, inr}
use Rattle.std.proofs.lemmas.Cmp.{tied_itself}
use Rattle.std.proofs.lemmas.Option.{same_Some}
use Rattle.tuple_codec.specs.Subspace.{BeginsWith}
use Rattle.kv_core.specs.Bytes.{key_cmp}
use Rattle.kv_core.specs.Map.{Map}
use Rattle.kv_core.proofs.Lists.{is_true}
use Rattle.kv_core.proofs.Order.{tied_keys}
use Rattle.metadata.specs.Layout.{Pair}
use Rattle.record_store.specs.Holds.{HasPairs}
use Rattle.planner.proofs.Residual.{Member, here, there}
use Rattle.planner.proofs.Scans.{front_or_later}
use Rattle.planner.proofs.Sorted.{Rise}
use Rattle.planner.proofs.Sound.{find_member, rising as rises_from}

-- ---- look-ups in lists of pairs

-- what is found is a pair of the list
pub found_pair : (q v : List ℕ) (es : List Pair) → find key_cmp q es ≡ Some v → Member (q, v) es
found_pair q v [] e = cc
found_pair q v (p ∷ es) e = by (is_eq (key_cmp q p.0)) refl (λ h. found_pair q v es h) e
  where
    by : (b : Bool) → is_eq (key_cmp q p.0) ≡ b → (find key_cmp q es ≡ Some v → Member (q, v) es) → cond b (Some p.1) (find key_cmp q es) ≡ Some v → Member (q, v) (p ∷ es)
    by true tie more h =
        let same : p ≡ (q, v) = (λ i. (sym (tied_keys q p.0 tie) i, same_Some p.1 v h i)) in
        subst (λ x. Member x (p ∷ es)) same here
    by false tie more h = there (more h)

-- a pair of the list is found, where all with its key are that pair
pub pair_found : (p : Pair) (es : List Pair) → Member p es → ((q : Pair) → Member q es → q.0 ≡ p.0 → q ≡ p) → find key_cmp p.0 es ≡ Some p.1
pair_found p [] m one = elim m [ ]
pair_found p (e ∷ es) m one = by (is_eq (key_cmp p.0 e.0)) refl (front_or_later p e es m) (λ k. pair_found p es k (λ q l same. one q (there l) same))
  where
    by : (b : Bool) → is_eq (key_cmp p.0 e.0) ≡ b → (p ≡ e) ⊎ Member p es → (Member p es → find key_cmp p.0 es ≡ Some p.1) → cond b (Some e.1) (find key_cmp p.0 es) ≡ Some p.1
    by true tie w more = ap (λ x. Some x.1) (one e here (sym (tied_keys p.0 e.0 tie)))
    by false tie (inl same) more = absurd (let itself : is_eq (key_cmp p.0 e.0) ≡ true = ap (λ x. is_eq (key_cmp p.0 x.0)) (sym same) ∙ ap is_eq (tied_itself nat_list_cmp_total p.0) in cc)
    by false tie (inr k) more = more k

-- ---- the pairs of a map

module _ (m : Map) where
  pub in_order : is_sorted key_cmp (entries m) ≡ true
  in_order = is_true (is_sorted key_cmp (entries m)) (entries_sorted m)

  -- RISING: the pairs' keys rise
  pub rise_of : Rise (entries m)
  rise_of = rises_from (entries m) in_order

  -- a map has a pair where its value is found
  map_has : (p : Pair) → get m p.0 ≡ Some p.1 → Member p (entries m)
  map_has p e = found_pair p.0 p.1 (entries m) (sym (get-entries m p.0) ∙ e)

  map_gives : (p : Pair) → Member p (entries m) → get m p.0 ≡ Some p.1
  map_gives p e = get-entries m p.0 ∙ find_member (entries m) rise_of p e

  -- where a map has just these pairs at the keys that begin so, its pairs there are these
  pub just_these : (begin : List ℕ) (es : List Pair) → HasPairs begin es m → (p : Pair) → BeginsWith begin p.0 → Member p (entries m) → Member p es
  just_these begin es has p (bytes, is) k =
      found_pair p.0 p.1 es (sym (get-from_entries nat_list_cmp_total es p.0) ∙ ap (get (from_entries es)) is ∙ sym (has bytes) ∙ ap (get m) (sym is) ∙ map_gives p k)

  pub all_these : (begin : List ℕ) (es : List Pair) → HasPairs begin es m →
      (p : Pair) → BeginsWith begin p.0 → Member p es → ((q : Pair) → Member q es → q.0 ≡ p.0 → q ≡ p) → Member p (entries m)
  all_these begin es has p (bytes, is) k one =
      map_has p (ap (get m) is ∙ has bytes ∙ ap (get (from_entries es)) (sym is) ∙ get-from_entries nat_list_cmp_total es p.0 ∙ pair_found p es k one)

-- ---- members of lists

pub member_of_map : {A B : Type 0} (f : A → B) (xs : List A) (y : B) → Member y (map f xs) → (x : A) × Member x xs × (y ≡ f x)
member_of_map f [] y m = elim m [ ]
member_of_map {A = A} f (x ∷ xs) y m = by (front_or_later y (f x) (map f xs) m) (member_of_map f xs y)
  where
    by : (y ≡ f x) ⊎ Member y (map f xs) → (Member y (map f xs) → (z : A) × Member z xs × (y ≡ f z)) → (z : A) × Member z (x ∷ xs) × (y ≡ f z)
    by (inl e) more = (x, here, e)
    by (inr k) more = let w = more k in (w.0, there w.1, w.2)

pub member_map : {A B : Type 0} (f : A → B) (xs : List A) (x : A) → Member x xs → Member (f x) (map f xs)
member_map f [] x m = elim m [ ]
member_map f (y ∷ xs) x here = here
member_map f (y ∷ xs) x (there k) = there (member_map f xs x k)
