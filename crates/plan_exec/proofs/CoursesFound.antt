-- What courses find of a range, of one thing for each, of what is kept and of the first ones, where nothing is damaged.
use Rattle.std.specs.Prelude.{◌≡◌, ℕ, ◌-◌, Bool, true, false, cond, not, List, [], ◌∷◌, ◌++◌, filter, map, Option, Some, None, option_map, refl}
use Rattle.std.specs.Option.{option_and_then, option_zip}
use Rattle.std.specs.Ordering.{eq_by_cmp}
use Rattle.std.specs.Result.{result_ok}
use Rattle.std.proofs.Common.{ap, sym, ◌∙◌}
use Rattle.std.proofs.lemmas.Iterator.Adapters.{option_map_id}
use Rattle.kv_core.specs.Range.{KeyRange}
use Rattle.txn.specs.Cursor.{behind_last}
use Rattle.txn.specs.declared.cursor.TheConstants.{BATCH}
use Rattle.metadata.specs.declared.cells.Cell.{Cell}
use Rattle.metadata.specs.Layout.{Pair}
use Rattle.metadata.specs.Order.{cells_cmp}
use Rattle.planner.specs.Meaning.{first_of_each, of_each, pairs_scanned}
use Rattle.planner.specs.Range as planned
use Rattle.plan_exec.specs.Course.{Course, batches_course, fails, finds, first_course, for_each, found_or, kept_course, outcome_of, range_course, reads}
use Rattle.plan_exec.specs.Reads.{batches, pairs_within, scan_range}
use Rattle.plan_exec.proofs.Courses.{all_found, for_each_ok, found_for, outcome_ok}
use Rattle.plan_exec.proofs.InBatches.{flat, flat_cut}
use Rattle.plan_exec.proofs.KeyRanges.{scanned_within}
use Rattle.plan_exec.proofs.Meanings.{each_same, twice}

-- ---- ranges

-- things that are found before a course are found in front of what it finds
front_found : {A : Type 0} (xs : List A) (course : Course A) → all_found (map (λ a. finds a) xs ++ course) ≡ option_map (λ more. xs ++ more) (all_found course)
front_found [] course = sym (option_map_id (all_found course))
front_found (x ∷ xs) course = ap (option_map (λ more. x ∷ more)) (front_found xs course) ∙ twice (λ more. x ∷ more) (λ more. xs ++ more) (all_found course)

-- of batches all pairs are found
batches_found : (reversed : Bool) (range : KeyRange) (more : List (List Pair)) → all_found (batches_course reversed range more) ≡ Some (flat more)
batches_found reversed range [] = refl
batches_found reversed range (batch ∷ more) =
    front_found batch (batches_course reversed (behind_last range reversed batch) more)
    ∙ ap (option_map (λ ps. batch ++ ps)) (batches_found reversed (behind_last range reversed batch) more)

-- RANGE: the pairs of the range are found
pub range_found : (reversed : Bool) (range : KeyRange) (pairs : List Pair) → result_ok (outcome_of (range_course reversed range pairs)).found ≡ Some (pairs_within range reversed pairs)
range_found reversed range pairs =
    outcome_ok (range_course reversed range pairs)
    ∙ batches_found reversed range (batches (pairs_within range reversed pairs))
    ∙ ap (λ ps. Some ps) (flat_cut (BATCH - 1) (BATCH - 1) (pairs_within range reversed pairs))

-- ---- one thing for each

-- lists of what is given of each, at most one, one behind another
each_flat : {X A : Type 0} (h : X → Option A) (xs : List X) → option_map flat (of_each (λ x. option_map (λ a. a ∷ []) (h x)) xs) ≡ of_each h xs
each_flat h [] = refl
each_flat {X = X} {A = A} h (x ∷ xs) = by (h x) (of_each (λ y. option_map (λ a. a ∷ []) (h y)) xs) ∙ ap (λ o. option_map (λ p. p.0 ∷ p.1) (option_zip (h x) o)) (each_flat h xs)
  where
    by : (o : Option A) (each : Option (List (List A))) →
        option_map flat (option_map (λ p. p.0 ∷ p.1) (option_zip (option_map (λ a. a ∷ []) o) each)) ≡ option_map (λ p. p.0 ∷ p.1) (option_zip o (option_map flat each))
    by None each = refl
    by (Some a) None = refl
    by (Some a) (Some lists) = refl

-- EACH: where each thing's course finds what h gives of the thing, all find what h gives of each
pub for_each_gives : {X A : Type 0} (f : X → Course A) (h : X → Option A) → ((x : X) → result_ok (outcome_of (f x)).found ≡ option_map (λ a. a ∷ []) (h x)) → (course : Course X) →
    result_ok (outcome_of (for_each f course)).found ≡ option_and_then (of_each h) (result_ok (outcome_of course).found)
for_each_gives {X = X} {A = A} f h so course = for_each_ok f course ∙ by (result_ok (outcome_of course).found)
  where
    by : (o : Option (List X)) → option_and_then (found_for f) o ≡ option_and_then (of_each h) o
    by None = refl
    by (Some xs) = ap (option_map flat) (each_same (λ x. result_ok (outcome_of (f x)).found) (λ x. option_map (λ a. a ∷ []) (h x)) so xs) ∙ each_flat h xs

-- what is made of something is found, if it is
pub found_or_ok : {A : Type 0} (key : List ℕ) (o : Option A) → result_ok (outcome_of (found_or key o)).found ≡ option_map (λ a. a ∷ []) o
found_or_ok key None = refl
found_or_ok key (Some a) = refl

-- PAIRS: what h gives of each pair in a range is found
pub pairs_found : {A : Type 0} (h : Pair → Option A) (reversed : Bool) (key : List ℕ) (range : planned.PlanRange) (pairs : List Pair) →
    result_ok (outcome_of (for_each (λ pair. found_or pair.0 (h pair)) (range_course reversed (scan_range key range) pairs))).found ≡ of_each h (pairs_scanned (planned.behind key range) reversed pairs)
pairs_found h reversed key range pairs =
    for_each_gives (λ pair. found_or pair.0 (h pair)) h (λ pair. found_or_ok pair.0 (h pair)) (range_course reversed (scan_range key range) pairs)
    ∙ ap (option_and_then (of_each h)) (range_found reversed (scan_range key range) pairs)
    ∙ ap (of_each h) (scanned_within key range reversed pairs)

-- ---- what is kept

module _ {A : Type 0} where
  -- the things that pass the test are found
  kept_found : (keeps : A → Bool) (course : Course A) → all_found (kept_course keeps course) ≡ option_map (filter keeps) (all_found course)
  kept_found keeps [] = refl
  kept_found keeps (reads read ∷ course) = kept_found keeps course
  kept_found keeps (finds a ∷ course) = front (keeps a) (kept_course keeps course) ∙ ap (option_map (λ xs. cond (keeps a) (a ∷ xs) xs)) (kept_found keeps course) ∙ back (all_found course)
    where
      front : (t : Bool) (rest : Course A) → all_found (cond t (finds a ∷ []) [] ++ rest) ≡ option_map (λ xs. cond t (a ∷ xs) xs) (all_found rest)
      front true rest = refl
      front false rest = sym (option_map_id (all_found rest))

      back : (o : Option (List A)) → option_map (λ xs. cond (keeps a) (a ∷ xs) xs) (option_map (filter keeps) o) ≡ option_map (filter keeps) (option_map (λ more. a ∷ more) o)
      back None = refl
      back (Some xs) = refl
  kept_found keeps (fails key ∷ course) = refl

  -- KEPT: the things that pass the test are found
  pub kept_ok : (keeps : A → Bool) (course : Course A) → result_ok (outcome_of (kept_course keeps course)).found ≡ option_map (filter keeps) (result_ok (outcome_of course).found)
  kept_ok keeps course = outcome_ok (kept_course keeps course) ∙ kept_found keeps course ∙ ap (option_map (filter keeps)) (sym (outcome_ok course))

  -- FIRST: the first thing of each key is found
  pub first_ok : (key : A → List Cell) (course : Course A) → result_ok (outcome_of (first_course key course)).found ≡ option_map (first_of_each key) (result_ok (outcome_of course).found)
  first_ok key course = outcome_ok (first_course key course) ∙ so course ∙ ap (option_map (first_of_each key)) (sym (outcome_ok course))
    where
      next : (a : A) (o : Option (List A)) →
          option_map (λ more. a ∷ more) (option_map (filter (λ b. not (eq_by_cmp cells_cmp (key a) (key b)))) (option_map (first_of_each key) o)) ≡ option_map (first_of_each key) (option_map (λ more. a ∷ more) o)
      next a None = refl
      next a (Some xs) = refl

      so : (course : Course A) → all_found (first_course key course) ≡ option_map (first_of_each key) (all_found course)
      so [] = refl
      so (reads read ∷ course) = so course
      so (finds a ∷ course) =
          ap (option_map (λ more. a ∷ more))
          (kept_found (λ b. not (eq_by_cmp cells_cmp (key a) (key b))) (first_course key course)
          ∙ ap (option_map (filter (λ b. not (eq_by_cmp cells_cmp (key a) (key b))))) (so course))
          ∙ next a (all_found course)
      so (fails k ∷ course) = refl
