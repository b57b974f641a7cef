-- Names in tables.
use Rattle.std.proofs.Common.{◌≡◌, ◌≤◌, ℕ, List, [], ◌∷◌, codes, length, map, Bool, true, false, Option, Some, None, refl, sym, arith}
use Rattle.std.proofs.lemmas.Slice.Eq.{bytes_eq-Decides}
use Rattle.std.specs.Str.{bytes_eq}
use Rattle.std.proofs.lemmas.List.{length-map}
use Rattle.serde_json.specs.Data.{Data}
use Rattle.serde_json.specs.Find.{as_str}
use Rattle.serde_json.specs.View.{view}
use Rattle.serde_json.specs.declared.value.Value.{Value}
use Rattle.std.specs.Prelude.{option_map}
use Rattle.schedule.specs.declared.step.Step.TheVariants.{Perform}
use Rattle.script.specs.Steps.{command_on, command_with, numbered_step, step_of_number, step_with_part}

differs : (word name : List ℕ) → (name ≡ word → ⊥) → bytes_eq word name ≡ false
differs word name other = by (bytes_eq word name) refl
  where
    by : (b : Bool) → bytes_eq word name ≡ b → bytes_eq word name ≡ false
    by true is = absurd (other (sym ((bytes_eq-Decides word name).0 is)))
    by false is = is

-- a name that no step of a number has
pub no_step_of_number : (name : List ℕ) (number : ℕ) → (name ≡ codes "begin" → ⊥) → (name ≡ codes "execute" → ⊥) → (name ≡ codes "commit" → ⊥) → (name ≡ codes "abandon" → ⊥)
    → (name ≡ codes "resolve" → ⊥) → (name ≡ codes "log" → ⊥) → (name ≡ codes "pull" → ⊥) → step_of_number name number ≡ None
no_step_of_number name number n1 n2 n3 n4 n5 n6 n7 =
    rw (differs _ name n1, differs _ name n2, differs _ name n3, differs _ name n4, differs _ name n5, differs _ name n6, differs _ name n7)

-- a name that no command with one part has
pub no_command_with : (name : List ℕ) (part : Data) → (name ≡ codes "create" → ⊥) → (name ≡ codes "type" → ⊥) → (name ≡ codes "query" → ⊥) → (name ≡ codes "plan" → ⊥) → (name ≡ codes "index" → ⊥)
    → (name ≡ codes "drop" → ⊥) → (name ≡ codes "disable" → ⊥) → (name ≡ codes "write_only" → ⊥) → (name ≡ codes "readable" → ⊥) → (name ≡ codes "state" → ⊥) → command_with name part ≡ None
no_command_with name part n1 n2 n3 n4 n5 n6 n7 n8 n9 n10 =
    rw (differs _ name n1, differs _ name n2, differs _ name n3, differs _ name n4, differs _ name n5, differs _ name n6, differs _ name n7, differs _ name n8, differs _ name n9, differs _ name n10)

-- a name that no command with an owner has
pub no_command_on : (name : List ℕ) (owner part : Data) → (name ≡ codes "save" → ⊥) → (name ≡ codes "load" → ⊥) → (name ≡ codes "remove" → ⊥) → (name ≡ codes "aggregate" → ⊥) → (name ≡ codes "build" → ⊥)
    → (name ≡ codes "field" → ⊥) → command_on name owner part ≡ None
no_command_on name owner part n1 n2 n3 n4 n5 n6 = by (as_str owner) refl
  where
    by : (o : Option (List ℕ)) → as_str owner ≡ o → command_on name owner part ≡ None
    by None is = rw (is)
    by (Some t) is = rw (is, differs _ name n1, differs _ name n2, differs _ name n3, differs _ name n4, differs _ name n5, differs _ name n6)

-- a step with one part whose name isn't that of a beginning performs a command
pub performs_with : (name : List ℕ) (number : ℕ) (part : Data) → (name ≡ codes "begin" → ⊥) → step_with_part name number part ≡ option_map (Perform number) (command_with name part)
performs_with name number part other = rw (differs (codes "begin") name other) refl

-- no step has three parts behind its number
three_parts : (name : List ℕ) (number : ℕ) (parts : List Data) → 3 ≤ length parts → numbered_step name number parts ≡ None
three_parts name number [] many = absurd (omega (arith, many))
three_parts name number (a ∷ []) many = absurd (omega (arith, many))
three_parts name number (a ∷ b ∷ []) many = absurd (omega (arith, many))
three_parts name number (a ∷ b ∷ c ∷ parts) many = refl

pub no_numbered_step : (name : List ℕ) (number : ℕ) (parts : List Value) → 3 ≤ length parts → numbered_step name number (map view parts) ≡ None
no_numbered_step name number parts many = three_parts name number (map view parts) (rw (length-map) many)
