-- Courses that find things by rising keys, joined: what the first one finds whose keys the other one has too is found in
-- key order, and a damage of one is one of both.
use Rattle.std.specs.Prelude.{◌≡◌, cond, ◌||◌, List, [], ◌∷◌, filter, map, Option, Some, None, option_map, refl}
use Rattle.std.specs.List.{list_any}
use Rattle.std.specs.Option.{option_and_then, option_zip}
use Rattle.std.specs.Ordering.{eq_by_cmp, is_eq, match_ordering}
use Rattle.std.specs.Result.{result_ok}
use Rattle.std.specs.declared.cmp.Ordering.{Ordering}
use Rattle.std.specs.declared.cmp.Ordering.TheVariants.{Less, Equal, Greater}
use Rattle.std.proofs.Common.{ap, sym, ◌∙◌, subst}
use Rattle.metadata.specs.declared.cells.Cell.{Cell}
use Rattle.metadata.specs.Order.{cells_cmp}
use Rattle.query.proofs.CellLaws.{cells_cmp_total, cells_cmp-IsAntisymmetric}
use Rattle.planner.proofs.Ranges.{Each}
use Rattle.planner.proofs.Residual.{each_map, each_of_map}
use Rattle.planner.proofs.Rows.{IsRising}
use Rattle.plan_exec.specs.Course.{Course, fails, finds, joined, joined_head, only_reads, outcome_of, reads}
use Rattle.plan_exec.proofs.Courses.{all_found, outcome_ok}
use Rattle.plan_exec.proofs.InOrder.{IsInKeyOrder, IsBelow, rising_from_order, turned_back, where_in_order}
use Rattle.plan_exec.proofs.MergedCourses.{FindsInOrder}
use Rattle.plan_exec.proofs.Shares.{absent, filter_none, has, itself, without}

module _ {A B : Type 0} (key : A → List Cell) (other_key : B → List Cell) where
  -- ---- two lists

  -- the elements whose keys another list has
  abbrev pub with_keys_of : List B → List A → List A
  with_keys_of ys xs = filter (λ x. list_any (eq_by_cmp cells_cmp (key x)) (map other_key ys)) xs

  -- two lists joined as courses are: where the head of the first one is known
  abbrev join_head : A → (List B → List A) → List B → List A
  join_head a rest [] = []
  join_head a rest (b ∷ ys) = match_ordering (cells_cmp (key a) (other_key b)) (rest (b ∷ ys)) (a ∷ rest ys) (join_head a rest ys)

  -- and from their beginning
  abbrev join : List A → List B → List A
  join [] ys = []
  join (a ∷ xs) ys = join_head a (join xs) ys

  -- a key below the first one of a list that rises isn't there
  below_keys : (k : List Cell) (y : B) (ys : List B) → cells_cmp k (other_key y) ≡ Less → IsRising other_key (y ∷ ys) → Each (IsBelow itself k) (map other_key (y ∷ ys))
  below_keys k y ys e s = (e, each_of_map (IsBelow itself k) other_key ys (each_map (λ z. cells_cmp (other_key y) (other_key z) ≡ Less) (λ z. cells_cmp k (other_key z) ≡ Less) (λ z f. cells_cmp_total.trans k (other_key y) (other_key z) e f) ys s.0))

  -- of lists that rise those elements are left whose keys both have
  join_shared : (xs : List A) (ys : List B) → IsRising key xs → IsRising other_key ys → join xs ys ≡ with_keys_of ys xs
  join_shared [] ys r s = refl
  join_shared (x ∷ xs) ys r s = head (λ zs t. join_shared xs zs r.1 t) ys s
    where
      head : ((zs : List B) → IsRising other_key zs → join xs zs ≡ with_keys_of zs xs) → (ys : List B) → IsRising other_key ys → join_head x (join xs) ys ≡ with_keys_of ys (x ∷ xs)
      head more [] s = sym (filter_none key (x ∷ xs))
      head more (y ∷ ys) s = by (cells_cmp (key x) (other_key y)) refl (head more ys s.1)
        where
          by : (o : Ordering) → cells_cmp (key x) (other_key y) ≡ o → join_head x (join xs) ys ≡ with_keys_of ys (x ∷ xs) →
              match_ordering o (join xs (y ∷ ys)) (x ∷ join xs ys) (join_head x (join xs) ys) ≡ with_keys_of (y ∷ ys) (x ∷ xs)
          by Less e later =
              more (y ∷ ys) s
              ∙ ap (λ t. cond t (x ∷ with_keys_of (y ∷ ys) xs) (with_keys_of (y ∷ ys) xs)) (sym (absent (key x) (map other_key (y ∷ ys)) (below_keys (key x) y ys e s)))
          by Equal e later =
              let same : key x ≡ other_key y = cells_cmp-IsAntisymmetric (key x) (other_key y) e in
              ap (λ zs. x ∷ zs) (more ys s.1 ∙ sym (without key (other_key y) (map other_key ys) xs (subst (λ k. Each (λ z. cells_cmp k (key z) ≡ Less) xs) same r.0)))
              ∙ ap (λ o. cond (is_eq o || has (map other_key ys) (key x)) (x ∷ with_keys_of (y ∷ ys) xs) (with_keys_of (y ∷ ys) xs)) (sym e)
          by Greater e later =
              let low : cells_cmp (other_key y) (key x) ≡ Less = turned_back (key x) (other_key y) e in
              later
              ∙ sym (without key (other_key y) (map other_key ys) (x ∷ xs)
              (low, each_map (λ z. cells_cmp (key x) (key z) ≡ Less) (λ z. cells_cmp (other_key y) (key z) ≡ Less) (λ z f. cells_cmp_total.trans (other_key y) (key x) (key z) low f) xs r.0))

  -- ---- two courses

  -- a course that is read to its end finds nothing, if it isn't damaged
  only_read : {X Y : Type 0} (course : Course X) → all_found {A = Y} (only_reads course) ≡ option_map (λ xs. []) (all_found course)
  only_read [] = refl
  only_read (reads read ∷ course) = only_read course
  only_read {X = X} {Y = Y} (finds a ∷ course) = only_read {Y = Y} course ∙ by (all_found course)
    where
      by : (o : Option (List X)) → option_map {U = List Y} (λ xs. []) o ≡ option_map (λ xs. []) (option_map (λ more. a ∷ more) o)
      by None = refl
      by (Some xs) = refl
  only_read (fails k ∷ course) = refl

  -- behind a known head nothing is found where what follows it is damaged
  head_damaged : (a : A) (course : Course A) (rest : Course B → Course A) → ((other : Course B) → all_found (rest other) ≡ None) → all_found course ≡ None → (other : Course B) → all_found (joined_head key other_key a course rest other) ≡ None
  head_damaged a course rest more n [] = only_read course ∙ ap (option_map (λ xs. [])) n
  head_damaged a course rest more n (reads read ∷ other) = head_damaged a course rest more n other
  head_damaged a course rest more n (finds b ∷ other) = by (cells_cmp (key a) (other_key b)) (head_damaged a course rest more n other)
    where
      by : (o : Ordering) → all_found (joined_head key other_key a course rest other) ≡ None →
          all_found (match_ordering o (rest (finds b ∷ other)) (finds a ∷ rest other) (joined_head key other_key a course rest other)) ≡ None
      by Less later = more (finds b ∷ other)
      by Equal later = ap (option_map (λ xs. a ∷ xs)) (more other)
      by Greater later = later
  head_damaged a course rest more n (fails k ∷ other) = refl

  -- where it is whole, the known head and what follows it are joined with what the other course finds
  head_found : (a : A) (course : Course A) (rest : Course B → Course A) (xs : List A) → ((other : Course B) → all_found (rest other) ≡ option_map (join xs) (all_found other)) → all_found course ≡ Some xs → (other : Course B) →
      all_found (joined_head key other_key a course rest other) ≡ option_map (join_head a (join xs)) (all_found other)
  head_found a course rest xs more s [] = only_read course ∙ ap (option_map (λ xs. [])) s
  head_found a course rest xs more s (reads read ∷ other) = head_found a course rest xs more s other
  head_found a course rest xs more s (finds b ∷ other) = by (cells_cmp (key a) (other_key b)) refl (head_found a course rest xs more s other)
    where
      both : (o : Ordering) → cells_cmp (key a) (other_key b) ≡ o → (found : Option (List B)) →
          match_ordering o (option_map (join xs) (option_map (λ ys. b ∷ ys) found)) (option_map (λ zs. a ∷ zs) (option_map (join xs) found)) (option_map (join_head a (join xs)) found)
          ≡ option_map (join_head a (join xs)) (option_map (λ ys. b ∷ ys) found)
      both Less e None = refl
      both Equal e None = refl
      both Greater e None = refl
      both Less e (Some ys) = ap (λ o. Some (match_ordering o (join xs (b ∷ ys)) (a ∷ join xs ys) (join_head a (join xs) ys))) (sym e)
      both Equal e (Some ys) = ap (λ o. Some (match_ordering o (join xs (b ∷ ys)) (a ∷ join xs ys) (join_head a (join xs) ys))) (sym e)
      both Greater e (Some ys) = ap (λ o. Some (match_ordering o (join xs (b ∷ ys)) (a ∷ join xs ys) (join_head a (join xs) ys))) (sym e)

      by : (o : Ordering) → cells_cmp (key a) (other_key b) ≡ o → all_found (joined_head key other_key a course rest other) ≡ option_map (join_head a (join xs)) (all_found other) →
          all_found (match_ordering o (rest (finds b ∷ other)) (finds a ∷ rest other) (joined_head key other_key a course rest other)) ≡ option_map (join_head a (join xs)) (option_map (λ ys. b ∷ ys) (all_found other))
      by Less e later = more (finds b ∷ other) ∙ both Less e (all_found other)
      by Equal e later = ap (option_map (λ zs. a ∷ zs)) (more other) ∙ both Equal e (all_found other)
      by Greater e later = later ∙ both Greater e (all_found other)
  head_found a course rest xs more s (fails k ∷ other) = refl

  -- two courses find what the lists that they find come to joined, if neither is damaged
  joined_is : (course : Course A) (other : Course B) → all_found (joined key other_key course other) ≡ option_and_then (λ xs. option_map (join xs) (all_found other)) (all_found course)
  joined_is [] other = only_read other
  joined_is (reads read ∷ course) other = joined_is course other
  joined_is (finds a ∷ course) other = by (all_found course) refl (joined_is course)
    where
      by : (o : Option (List A)) → all_found course ≡ o → ((rest : Course B) → all_found (joined key other_key course rest) ≡ option_and_then (λ xs. option_map (join xs) (all_found rest)) o) →
          all_found (joined_head key other_key a course (joined key other_key course) other) ≡ option_and_then (λ xs. option_map (join xs) (all_found other)) (option_map (λ more. a ∷ more) o)
      by None n more = head_damaged a course (joined key other_key course) more n other
      by (Some xs) s more = head_found a course (joined key other_key course) xs more s other
  joined_is (fails k ∷ course) other = refl

  -- so do their outcomes
  joined_outcome : (course : Course A) (other : Course B) →
      result_ok (outcome_of (joined key other_key course other)).found ≡ option_and_then (λ xs. option_map (join xs) (result_ok (outcome_of other).found)) (result_ok (outcome_of course).found)
  joined_outcome course other =
      outcome_ok (joined key other_key course other) ∙ joined_is course other
      ∙ (λ i. option_and_then (λ xs. option_map (join xs) (sym (outcome_ok other) i)) (sym (outcome_ok course) i))

  -- ---- what is found

  -- JOINED: if neither of two courses is damaged, what the first one finds is found where the second one finds its key too
  pub joined_ok : (course : Course A) (other : Course B) → FindsInOrder key course → FindsInOrder other_key other →
      result_ok (outcome_of (joined key other_key course other)).found ≡ option_map (λ p. with_keys_of p.1 p.0) (option_zip (result_ok (outcome_of course).found) (result_ok (outcome_of other).found))
  joined_ok course other s t = joined_outcome course other ∙ by (result_ok (outcome_of course).found) (result_ok (outcome_of other).found) s t
    where
      by : (o : Option (List A)) (p : Option (List B)) → ((xs : List A) → o ≡ Some xs → IsInKeyOrder key xs) → ((ys : List B) → p ≡ Some ys → IsInKeyOrder other_key ys) →
          option_and_then (λ xs. option_map (join xs) p) o ≡ option_map (λ p. with_keys_of p.1 p.0) (option_zip o p)
      by None p s t = refl
      by (Some xs) None s t = refl
      by (Some xs) (Some ys) s t = ap (λ zs. Some zs) (join_shared xs ys (rising_from_order key xs (s xs refl)) (rising_from_order other_key ys (t ys refl)))

  -- IN ORDER: what two such courses find joined is in key order
  pub joined_in_order : (course : Course A) (other : Course B) → FindsInOrder key course → FindsInOrder other_key other → FindsInOrder key (joined key other_key course other)
  joined_in_order course other s t zs e = by (result_ok (outcome_of course).found) (result_ok (outcome_of other).found) s (sym (joined_ok course other s t) ∙ e)
    where
      by : (o : Option (List A)) (p : Option (List B)) → ((xs : List A) → o ≡ Some xs → IsInKeyOrder key xs) → option_map (λ p. with_keys_of p.1 p.0) (option_zip o p) ≡ Some zs → IsInKeyOrder key zs
      by None p s e = absurd (cc)
      by (Some xs) None s e = absurd (cc)
      by (Some xs) (Some ys) s e =
          let is : with_keys_of ys xs ≡ zs = cc in
          subst (IsInKeyOrder key) is (where_in_order key (λ x. list_any (eq_by_cmp cells_cmp (key x)) (map other_key ys)) xs (s xs refl))
