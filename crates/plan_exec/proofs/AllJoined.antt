-- The courses of a list that find things by rising keys, joined: what the first one finds whose keys all have is found.
use Rattle.std.specs.Prelude.{◌≡◌, Bool, true, false, cond, ◌&&◌, List, [], ◌∷◌, filter, map, Option, Some, None, option_map, refl}
use Rattle.std.specs.Cmp.{Equal-is}
use Rattle.std.specs.Option.{option_zip}
use Rattle.std.specs.Ordering.{eq_by_cmp}
use Rattle.std.specs.Result.{result_ok}
use Rattle.std.proofs.Common.{ap, sym, ◌∙◌, subst}
use Rattle.std.proofs.lemmas.Option.{same_Some}
use Rattle.std.proofs.lemmas.Map.Views.{any-filter_same}
use Rattle.metadata.specs.declared.cells.Cell.{Cell}
use Rattle.metadata.specs.Order.{cells_cmp}
use Rattle.query.proofs.CellLaws.{cells_cmp-IsAntisymmetric}
use Rattle.planner.specs.Meaning.{keys_in_all, of_each}
use Rattle.planner.proofs.Ranges.{Each}
use Rattle.plan_exec.specs.Course.{Course, all_joined, outcome_of}
use Rattle.plan_exec.proofs.InOrder.{IsInKeyOrder}
use Rattle.plan_exec.proofs.JoinedCourses.{joined_in_order, joined_ok, with_keys_of}
use Rattle.plan_exec.proofs.MergedCourses.{FindsInOrder}
use Rattle.plan_exec.proofs.Shares.{Key, all_have, has}

-- ---- lists

-- a test of what is made of things is a test of the things
mapped_where : {A B : Type 0} (f : A → B) (p : B → Bool) (xs : List A) → filter p (map f xs) ≡ map f (filter (λ x. p (f x)) xs)
mapped_where f p [] = refl
mapped_where {A = A} {B = B} f p (x ∷ xs) = by (p (f x)) (mapped_where f p xs)
  where
    by : (b : Bool) → filter p (map f xs) ≡ map f (filter (λ y. p (f y)) xs) → cond b (f x ∷ filter p (map f xs)) (filter p (map f xs)) ≡ map f (cond b (x ∷ filter (λ y. p (f y)) xs) (filter (λ y. p (f y)) xs))
    by true e = ap (λ ys. f x ∷ ys) e
    by false e = e

-- a test that all pass
where_all : {A : Type 0} (xs : List A) → filter (λ x. true) xs ≡ xs
where_all [] = refl
where_all (x ∷ xs) = ap (λ ys. x ∷ ys) (where_all xs)

-- of the keys that pass a test a list has a key where it has it and the key passes
has_where : (p : Key → Bool) (keys : List Key) (k : Key) → has (filter p keys) k ≡ (p k && has keys k)
has_where p keys k = any-filter_same (eq_by_cmp cells_cmp k) p (p k) (λ l e. ap p (sym (cells_cmp-IsAntisymmetric k l ((Equal-is (cells_cmp k l)).0 e)))) keys

module _ {A : Type 0} (key : A → List Cell) where
  -- the keys of lists
  abbrev pub keys_by : List (List A) → List (List Key)
  keys_by lists = map (map key) lists

  -- what the first list has whose keys all others have too
  abbrev pub first_in_all : List (List A) → List A
  first_in_all [] = []
  first_in_all (xs ∷ more) = filter (λ x. all_have (keys_by more) (key x)) xs

  -- KEYS: their keys are those that all lists have
  pub keys_first_in_all : (lists : List (List A)) → map key (first_in_all lists) ≡ keys_in_all (keys_by lists)
  keys_first_in_all [] = refl
  keys_first_in_all (xs ∷ more) = sym (mapped_where key (all_have (keys_by more)) xs)

  -- of a list those are left whose keys are among those that all other lists have
  with_those : (xs : List A) (ys : List A) (more : List (List A)) → with_keys_of key key (first_in_all (ys ∷ more)) xs ≡ first_in_all (xs ∷ ys ∷ more)
  with_those xs ys more = λ i. filter (λ x. same (key x) i) xs
    where
      swapped : (a b : Bool) → (a && b) ≡ (b && a)
      swapped true true = refl
      swapped true false = refl
      swapped false true = refl
      swapped false false = refl

      same : (k : Key) → has (map key (first_in_all (ys ∷ more))) k ≡ all_have (keys_by (ys ∷ more)) k
      same k =
          ap (λ keys. has keys k) (keys_first_in_all (ys ∷ more)) ∙ has_where (all_have (keys_by more)) (map key ys) k
          ∙ swapped (all_have (keys_by more) k) (has (map key ys) k)

  -- ---- courses

  -- IN ORDER: what such courses find joined is in key order
  pub all_joined_in_order : (courses : List (Course A)) → Each (FindsInOrder key) courses → FindsInOrder key (all_joined key courses)
  all_joined_in_order [] e xs is = subst (IsInKeyOrder key) (same_Some [] xs is) refl
  all_joined_in_order (course ∷ []) e xs is = e.0 xs is
  all_joined_in_order (course ∷ other ∷ courses) e xs is = joined_in_order key key course (all_joined key (other ∷ courses)) e.0 (all_joined_in_order (other ∷ courses) e.1) xs is

  -- ALL JOINED: if no course of a list is damaged, what the first one finds is found where all others find its key too
  pub all_joined_ok : (courses : List (Course A)) → Each (FindsInOrder key) courses →
      result_ok (outcome_of (all_joined key courses)).found ≡ option_map first_in_all (of_each (λ c. result_ok (outcome_of c).found) courses)
  all_joined_ok [] e = refl
  all_joined_ok (course ∷ []) e = by (result_ok (outcome_of course).found)
    where
      by : (o : Option (List A)) → o ≡ option_map first_in_all (option_map (λ p. p.0 ∷ p.1) (option_zip o (Some [])))
      by None = refl
      by (Some xs) = ap (λ zs. Some zs) (sym (where_all xs))
  all_joined_ok (course ∷ other ∷ courses) e =
      joined_ok key key course (all_joined key (other ∷ courses)) e.0 (all_joined_in_order (other ∷ courses) e.1)
      ∙ ap (λ o. option_map (λ p. with_keys_of key key p.1 p.0) (option_zip (result_ok (outcome_of course).found) o)) (all_joined_ok (other ∷ courses) e.1)
      ∙ by (result_ok (outcome_of course).found) (result_ok (outcome_of other).found) (of_each (λ c. result_ok (outcome_of c).found) courses)
    where
      by : (o p : Option (List A)) (each : Option (List (List A))) →
          option_map (λ q. with_keys_of key key q.1 q.0) (option_zip o (option_map first_in_all (option_map (λ q. q.0 ∷ q.1) (option_zip p each))))
          ≡ option_map first_in_all (option_map (λ q. q.0 ∷ q.1) (option_zip o (option_map (λ q. q.0 ∷ q.1) (option_zip p each))))
      by None p each = refl
      by (Some xs) None each = refl
      by (Some xs) (Some ys) None = refl
      by (Some xs) (Some ys) (Some lists) = ap (λ zs. Some zs) (with_those xs ys lists)
