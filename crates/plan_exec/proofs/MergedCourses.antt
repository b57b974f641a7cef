-- Courses that find things by rising keys, merged: what they find is in key order, and a damage of one is one of all.
use Rattle.std.specs.Prelude.{◌≡◌, List, [], ◌∷◌, ◌++◌, Option, Some, None, option_map, refl}
use Rattle.std.specs.Option.{option_and_then, option_zip}
use Rattle.std.specs.Ordering.{match_ordering}
use Rattle.std.specs.Result.{result_ok}
use Rattle.std.specs.declared.cmp.Ordering.{Ordering}
use Rattle.std.specs.declared.cmp.Ordering.TheVariants.{Less, Equal, Greater}
use Rattle.std.proofs.Common.{ap, sym, ◌∙◌, subst, append-nil}
use Rattle.std.proofs.lemmas.Iterator.Adapters.{option_map_id}
use Rattle.metadata.specs.declared.cells.Cell.{Cell}
use Rattle.metadata.specs.Order.{cells_cmp}
use Rattle.planner.specs.Meaning.{in_key_order}
use Rattle.planner.proofs.Rows.{IsRising}
use Rattle.plan_exec.specs.Course.{Course, fails, finds, merged, merged_head, outcome_of, reads}
use Rattle.plan_exec.proofs.Courses.{all_found, outcome_ok}
use Rattle.plan_exec.proofs.InOrder.{IsInKeyOrder, left_next, order_from_rising, ordered_twice, right_next, rising_from_order, tied_next}

module _ {A : Type 0} (key : A → List Cell) where
  -- ---- two lists

  -- two lists merged as courses are: where the head of the first one is known
  abbrev merge_head : A → List A → (List A → List A) → List A → List A
  merge_head a xs rest [] = a ∷ xs
  merge_head a xs rest (b ∷ ys) = match_ordering (cells_cmp (key a) (key b)) (a ∷ rest (b ∷ ys)) (b ∷ rest ys) (b ∷ merge_head a xs rest ys)

  -- and from their beginning
  abbrev merge : List A → List A → List A
  merge [] ys = ys
  merge (a ∷ xs) ys = merge_head a xs (merge xs) ys

  -- with nothing a list stays as it is
  merge_nothing : (xs : List A) → merge xs [] ≡ xs
  merge_nothing [] = refl
  merge_nothing (x ∷ xs) = refl

  -- lists that rise are merged into key order
  merge_ordered : (xs ys : List A) → IsRising key xs → IsRising key ys → merge xs ys ≡ in_key_order key (xs ++ ys)
  merge_ordered [] ys r s = sym (order_from_rising key ys s)
  merge_ordered (x ∷ xs) ys r s = head (λ zs t. merge_ordered xs zs r.1 t) ys s
    where
      head : ((zs : List A) → IsRising key zs → merge xs zs ≡ in_key_order key (xs ++ zs)) → (ys : List A) → IsRising key ys → merge_head x xs (merge xs) ys ≡ in_key_order key ((x ∷ xs) ++ ys)
      head more [] s = sym (order_from_rising key (x ∷ xs) r) ∙ ap (in_key_order key) (sym (append-nil (x ∷ xs)))
      head more (y ∷ ys) s = by (cells_cmp (key x) (key y)) refl (head more ys s.1)
        where
          by : (o : Ordering) → cells_cmp (key x) (key y) ≡ o → merge_head x xs (merge xs) ys ≡ in_key_order key ((x ∷ xs) ++ ys) →
              match_ordering o (x ∷ merge xs (y ∷ ys)) (y ∷ merge xs ys) (y ∷ merge_head x xs (merge xs) ys) ≡ in_key_order key ((x ∷ xs) ++ y ∷ ys)
          by Less e later = ap (λ zs. x ∷ zs) (more (y ∷ ys) s) ∙ sym (left_next key x y xs ys r s e)
          by Equal e later = ap (λ zs. y ∷ zs) (more ys s.1) ∙ sym (tied_next key x y xs ys r s e)
          by Greater e later = ap (λ zs. y ∷ zs) later ∙ sym (right_next key x y xs ys r s e)

  -- ---- two courses

  -- behind a known head nothing is found where what follows it is damaged
  head_damaged : (a : A) (rest : Course A → Course A) → ((other : Course A) → all_found (rest other) ≡ None) → (other : Course A) → all_found (merged_head key a rest other) ≡ None
  head_damaged a rest more [] = ap (option_map (λ xs. a ∷ xs)) (more [])
  head_damaged a rest more (reads read ∷ other) = head_damaged a rest more other
  head_damaged a rest more (finds b ∷ other) = by (cells_cmp (key a) (key b)) (head_damaged a rest more other)
    where
      by : (o : Ordering) → all_found (merged_head key a rest other) ≡ None →
          all_found (match_ordering o (finds a ∷ rest (finds b ∷ other)) (finds b ∷ rest other) (finds b ∷ merged_head key a rest other)) ≡ None
      by Less later = ap (option_map (λ xs. a ∷ xs)) (more (finds b ∷ other))
      by Equal later = ap (option_map (λ xs. b ∷ xs)) (more other)
      by Greater later = ap (option_map (λ xs. b ∷ xs)) later
  head_damaged a rest more (fails k ∷ other) = refl

  -- where it is whole, the known head and what follows it are merged with what the other course finds
  head_found : (a : A) (rest : Course A → Course A) (xs : List A) → ((other : Course A) → all_found (rest other) ≡ option_map (merge xs) (all_found other)) → (other : Course A) →
      all_found (merged_head key a rest other) ≡ option_map (merge_head a xs (merge xs)) (all_found other)
  head_found a rest xs more [] = ap (option_map (λ zs. a ∷ zs)) (more [] ∙ ap (λ zs. Some zs) (merge_nothing xs))
  head_found a rest xs more (reads read ∷ other) = head_found a rest xs more other
  head_found a rest xs more (finds b ∷ other) = by (cells_cmp (key a) (key b)) refl (head_found a rest xs more other)
    where
      both : (o : Ordering) → cells_cmp (key a) (key b) ≡ o → (found : Option (List A)) →
          match_ordering o (option_map (λ zs. a ∷ zs) (option_map (merge xs) (option_map (λ ys. b ∷ ys) found))) (option_map (λ zs. b ∷ zs) (option_map (merge xs) found)) (option_map (λ zs. b ∷ zs) (option_map (merge_head a xs (merge xs)) found))
          ≡ option_map (merge_head a xs (merge xs)) (option_map (λ ys. b ∷ ys) found)
      both Less e None = refl
      both Equal e None = refl
      both Greater e None = refl
      both Less e (Some ys) = ap (λ o. Some (match_ordering o (a ∷ merge xs (b ∷ ys)) (b ∷ merge xs ys) (b ∷ merge_head a xs (merge xs) ys))) (sym e)
      both Equal e (Some ys) = ap (λ o. Some (match_ordering o (a ∷ merge xs (b ∷ ys)) (b ∷ merge xs ys) (b ∷ merge_head a xs (merge xs) ys))) (sym e)
      both Greater e (Some ys) = ap (λ o. Some (match_ordering o (a ∷ merge xs (b ∷ ys)) (b ∷ merge xs ys) (b ∷ merge_head a xs (merge xs) ys))) (sym e)

      by : (o : Ordering) → cells_cmp (key a) (key b) ≡ o → all_found (merged_head key a rest other) ≡ option_map (merge_head a xs (merge xs)) (all_found other) →
          all_found (match_ordering o (finds a ∷ rest (finds b ∷ other)) (finds b ∷ rest other) (finds b ∷ merged_head key a rest other)) ≡ option_map (merge_head a xs (merge xs)) (option_map (λ ys. b ∷ ys) (all_found other))
      by Less e later = ap (option_map (λ zs. a ∷ zs)) (more (finds b ∷ other)) ∙ both Less e (all_found other)
      by Equal e later = ap (option_map (λ zs. b ∷ zs)) (more other) ∙ both Equal e (all_found other)
      by Greater e later = ap (option_map (λ zs. b ∷ zs)) later ∙ both Greater e (all_found other)
  head_found a rest xs more (fails k ∷ other) = refl

  -- two courses find what the lists that they find come to merged, if neither is damaged
  merged_is : (course other : Course A) → all_found (merged key course other) ≡ option_and_then (λ xs. option_map (merge xs) (all_found other)) (all_found course)
  merged_is [] other = sym (option_map_id (all_found other))
  merged_is (reads read ∷ course) other = merged_is course other
  merged_is (finds a ∷ course) other = by (all_found course) refl (merged_is course)
    where
      by : (o : Option (List A)) → all_found course ≡ o → ((rest : Course A) → all_found (merged key course rest) ≡ option_and_then (λ xs. option_map (merge xs) (all_found rest)) o) →
          all_found (merged_head key a (merged key course) other) ≡ option_and_then (λ xs. option_map (merge xs) (all_found other)) (option_map (λ more. a ∷ more) o)
      by None n more = head_damaged a (merged key course) more other
      by (Some xs) s more = head_found a (merged key course) xs more other
  merged_is (fails k ∷ course) other = refl

  -- so do their outcomes
  merged_outcome : (course other : Course A) → result_ok (outcome_of (merged key course other)).found ≡ option_and_then (λ xs. option_map (merge xs) (result_ok (outcome_of other).found)) (result_ok (outcome_of course).found)
  merged_outcome course other =
      outcome_ok (merged key course other) ∙ merged_is course other
      ∙ (λ i. option_and_then (λ xs. option_map (merge xs) (sym (outcome_ok other) i)) (sym (outcome_ok course) i))

  -- ---- what is found

  -- what the course finds, if it isn't damaged, is in key order
  abbrev pub FindsInOrder : Course A → Type 0
  FindsInOrder course = (xs : List A) → result_ok (outcome_of course).found ≡ Some xs → IsInKeyOrder key xs

  -- MERGED: if neither of two courses is damaged, what both find is found in key order, and of two things with the same key
  -- the second course's
  pub merged_ok : (course other : Course A) → FindsInOrder course → FindsInOrder other →
      result_ok (outcome_of (merged key course other)).found ≡ option_map (λ p. in_key_order key (p.0 ++ p.1)) (option_zip (result_ok (outcome_of course).found) (result_ok (outcome_of other).found))
  merged_ok course other s t = merged_outcome course other ∙ by (result_ok (outcome_of course).found) (result_ok (outcome_of other).found) s t
    where
      by : (o p : Option (List A)) → ((xs : List A) → o ≡ Some xs → IsInKeyOrder key xs) → ((ys : List A) → p ≡ Some ys → IsInKeyOrder key ys) →
          option_and_then (λ xs. option_map (merge xs) p) o ≡ option_map (λ p. in_key_order key (p.0 ++ p.1)) (option_zip o p)
      by None p s t = refl
      by (Some xs) None s t = refl
      by (Some xs) (Some ys) s t = ap (λ zs. Some zs) (merge_ordered xs ys (rising_from_order key xs (s xs refl)) (rising_from_order key ys (t ys refl)))

  -- what is put in key order is in key order
  pub put_in_order : {X : Type 0} (f : X → List A) (o : Option X) (xs : List A) → option_map (λ x. in_key_order key (f x)) o ≡ Some xs → IsInKeyOrder key xs
  put_in_order f None xs e = absurd (cc)
  put_in_order f (Some x) xs e = let is : in_key_order key (f x) ≡ xs = cc in subst (IsInKeyOrder key) is (ordered_twice key (f x))
