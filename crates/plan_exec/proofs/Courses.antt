-- What courses of events come to: one behind another, with a course in place of each thing found, and where nothing is
-- damaged.
use Rattle.std.specs.Prelude.{◌≡◌, List, [], ◌∷◌, ◌++◌, Option, Some, None, option_map, refl}
use Rattle.std.specs.Option.{option_and_then, option_zip}
use Rattle.std.specs.Result.{result_ok}
use Rattle.std.proofs.Common.{ap, sym, ◌∙◌}
use Rattle.planner.specs.Meaning.{of_each}
use Rattle.plan_exec.specs.Course.{Course, fails, finds, for_each, outcome_of, reads}
use Rattle.plan_exec.proofs.InBatches.{flat}
use Rattle.plan_exec.proofs.Meanings.{behind_no, made_ok}

-- ---- what is found where nothing is damaged

module _ {A : Type 0} where
  -- the things found, if nothing is damaged
  abbrev pub all_found : Course A → Option (List A)
  all_found [] = Some []
  all_found (reads read ∷ course) = all_found course
  all_found (finds a ∷ course) = option_map (λ more. a ∷ more) (all_found course)
  all_found (fails key ∷ course) = None

  -- FOUND: these are what the course's outcome has found
  pub outcome_ok : (course : Course A) → result_ok (outcome_of course).found ≡ all_found course
  outcome_ok [] = refl
  outcome_ok (reads read ∷ course) = outcome_ok course
  outcome_ok (finds a ∷ course) = made_ok (λ more. a ∷ more) (outcome_of course).found ∙ ap (option_map (λ more. a ∷ more)) (outcome_ok course)
  outcome_ok (fails key ∷ course) = refl

  -- the things found, before a damage and behind it
  abbrev pub things : Course A → List A
  things [] = []
  things (reads read ∷ course) = things course
  things (finds a ∷ course) = a ∷ things course
  things (fails key ∷ course) = things course

  -- of one course behind another both things are found, if neither is damaged
  pub found_append : (course other : Course A) → all_found (course ++ other) ≡ option_map (λ p. p.0 ++ p.1) (option_zip (all_found course) (all_found other))
  found_append [] other = behind_no (all_found other)
  found_append (reads read ∷ course) other = found_append course other
  found_append (finds a ∷ course) other = ap (option_map (λ more. a ∷ more)) (found_append course other) ∙ by (all_found course) (all_found other)
    where
      by : (o p : Option (List A)) → option_map (λ more. a ∷ more) (option_map (λ p. p.0 ++ p.1) (option_zip o p)) ≡ option_map (λ p. p.0 ++ p.1) (option_zip (option_map (λ more. a ∷ more) o) p)
      by None p = refl
      by (Some xs) None = refl
      by (Some xs) (Some ys) = refl
  found_append (fails key ∷ course) other = refl

-- ---- a course in place of each thing found

module _ {A B : Type 0} where
  -- what the courses for some things find, one behind another
  abbrev pub found_for : (A → Course B) → List A → Option (List B)
  found_for f xs = option_map flat (of_each (λ x. result_ok (outcome_of (f x)).found) xs)

  -- EACH: what is found is what the courses for the things find, one behind another, if nothing is damaged
  pub for_each_ok : (f : A → Course B) (course : Course A) → result_ok (outcome_of (for_each f course)).found ≡ option_and_then (found_for f) (result_ok (outcome_of course).found)
  for_each_ok f course = outcome_ok (for_each f course) ∙ so course ∙ ap (option_and_then (found_for f)) (sym (outcome_ok course))
    where
      one : (o : Option (List B)) (each : Option (List (List B))) →
          option_map (λ p. p.0 ++ p.1) (option_zip o (option_map flat each)) ≡ option_map flat (option_map (λ p. p.0 ∷ p.1) (option_zip o each))
      one None each = refl
      one (Some ys) None = refl
      one (Some ys) (Some yss) = refl

      none : (o : Option (List B)) → option_map (λ p. p.0 ++ p.1) (option_zip o None) ≡ None
      none None = refl
      none (Some ys) = refl

      next : (a : A) (o : Option (List A)) →
          option_map (λ p. p.0 ++ p.1) (option_zip (result_ok (outcome_of (f a)).found) (option_and_then (found_for f) o)) ≡ option_and_then (found_for f) (option_map (λ more. a ∷ more) o)
      next a None = none (result_ok (outcome_of (f a)).found)
      next a (Some xs) = one (result_ok (outcome_of (f a)).found) (of_each (λ x. result_ok (outcome_of (f x)).found) xs)

      so : (course : Course A) → all_found (for_each f course) ≡ option_and_then (found_for f) (all_found course)
      so [] = refl
      so (reads read ∷ course) = so course
      so (finds a ∷ course) =
          found_append (f a) (for_each f course)
          ∙ (λ i. option_map (λ p. p.0 ++ p.1) (option_zip (sym (outcome_ok (f a)) i) (so course i)))
          ∙ next a (all_found course)
      so (fails key ∷ course) = refl
