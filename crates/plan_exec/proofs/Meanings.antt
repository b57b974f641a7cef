-- What is given of each of a list, the primary keys in entries, and where there is damage.
use Rattle.std.specs.Prelude.{◌≡◌, ℕ, List, [], ◌∷◌, ◌++◌, map, Option, Some, None, option_map, Result, Ok, Err, refl}
use Rattle.std.specs.Option.{option_zip}
use Rattle.std.specs.Result.{result_err, result_map_both, result_ok}
use Rattle.std.proofs.Common.{ap, ◌∙◌}
use Rattle.metadata.specs.declared.cells.Cell.{Cell}
use Rattle.metadata.specs.declared.definition.TypeDefinition.{TypeDefinition}
use Rattle.metadata.specs.declared.index.IndexDefinition.{IndexDefinition}
use Rattle.metadata.specs.Layout.{Pair}
use Rattle.planner.specs.Layout.{entry_primary_key}
use Rattle.planner.specs.Meaning.{of_each}
use Rattle.plan_exec.specs.Reads.{stored_entry}
use Rattle.plan_exec.specs.Entry.{Entry}

-- ---- readings

pub made_ok : {A B : Type 0} (f : A → B) (r : Result A (List ℕ)) → result_ok (result_map_both f (λ key. key) r) ≡ option_map f (result_ok r)
made_ok f (Ok a) = refl
made_ok f (Err key) = refl

-- ---- what is given of each of a list

pub each_map : {X Y A : Type 0} (h : Y → Option A) (g : X → Y) (xs : List X) → of_each h (map g xs) ≡ of_each (λ x. h (g x)) xs
each_map h g [] = refl
each_map h g (x ∷ xs) = ap (λ o. option_map (λ p. p.0 ∷ p.1) (option_zip (h (g x)) o)) (each_map h g xs)

pub each_same : {X A : Type 0} (h g : X → Option A) → ((x : X) → h x ≡ g x) → (xs : List X) → of_each h xs ≡ of_each g xs
each_same h g same [] = refl
each_same h g same (x ∷ xs) = λ i. option_map (λ p. p.0 ∷ p.1) (option_zip (same x i) (each_same h g same xs i))

map_zip : {A B : Type 0} (f : A → B) (o : Option A) (rest : Option (List A)) →
    option_map (map f) (option_map (λ p. p.0 ∷ p.1) (option_zip o rest)) ≡ option_map (λ p. p.0 ∷ p.1) (option_zip (option_map f o) (option_map (map f) rest))
map_zip f None rest = refl
map_zip f (Some a) None = refl
map_zip f (Some a) (Some more) = refl

pub map_each : {X A B : Type 0} (f : A → B) (h : X → Option A) (xs : List X) → option_map (map f) (of_each h xs) ≡ of_each (λ x. option_map f (h x)) xs
map_each f h [] = refl
map_each f h (x ∷ xs) = map_zip f (h x) (of_each h xs) ∙ ap (λ o. option_map (λ p. p.0 ∷ p.1) (option_zip (option_map f (h x)) o)) (map_each f h xs)

pub twice : {A B C : Type 0} (g : B → C) (f : A → B) (o : Option A) → option_map g (option_map f o) ≡ option_map (λ a. g (f a)) o
twice g f None = refl
twice g f (Some a) = refl

-- of two lists one behind the other
pub behind_no : {A : Type 0} (o : Option (List A)) → o ≡ option_map (λ p. p.0 ++ p.1) (option_zip (Some []) o)
behind_no None = refl
behind_no (Some more) = refl

-- ---- entries

-- the primary keys in entries
abbrev pub keys_of : List Entry → List (List Cell)
keys_of entries = map (λ e. e.primary_key) entries

module _ (prefix : List ℕ) (pairs : List Pair) (t : TypeDefinition) where
  entry_key : (i : IndexDefinition) (pair : Pair) → option_map (λ (e : Entry). e.primary_key) (stored_entry prefix t i pair) ≡ entry_primary_key prefix t i pair
  entry_key i pair = by (entry_primary_key prefix t i pair)
    where
      by : (o : Option (List Cell)) → option_map (λ (e : Entry). e.primary_key) (option_map (λ key. record { key = pair.0; primary_key = key }) o) ≡ o
      by None = refl
      by (Some key) = refl

  -- the primary keys in the entries that pairs stand for
  pub keys_ok : (i : IndexDefinition) (found : List Pair) → option_map keys_of (of_each (stored_entry prefix t i) found) ≡ of_each (entry_primary_key prefix t i) found
  keys_ok i found =
      map_each (λ (e : Entry). e.primary_key) (stored_entry prefix t i) found
      ∙ each_same (λ p. option_map (λ (e : Entry). e.primary_key) (stored_entry prefix t i p)) (entry_primary_key prefix t i) (entry_key i) found

-- ---- damage

-- where there is damage there is no meaning
pub no_rows : {A : Type 0} (r : Result A (List ℕ)) (key : List ℕ) → result_err r ≡ Some key → result_ok r ≡ None
no_rows (Ok a) key is = cc
no_rows (Err other) key is = refl
