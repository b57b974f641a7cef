-- Definitions of types are told to be the same exactly where they are equal.
use Rattle.std.proofs.Common.{◌≡◌, Bool, false, ◌&&◌, List, [], ◌∷◌, refl, ap, ◌∙◌, length, arith}
use Rattle.std.specs.Prelude.{◌≢◌}
use Rattle.std.specs.Bool.{Decides}
use Rattle.std.specs.List.{list_all, zip}
use Rattle.std.specs.Str.{bytes_eq}
use Rattle.std.proofs.lemmas.Bool.Decides.{Decides-and, Decides-eqb, Decides-like}
use Rattle.std.proofs.lemmas.Slice.Eq.{bytes_eq-Decides}
use Rattle.metadata.specs.declared.cells.Kind.{Kind}
use Rattle.metadata.specs.declared.cells.Kind.TheVariants.{Int, Text, Bytes}
use Rattle.metadata.specs.declared.definition.Field.{Field}
use Rattle.metadata.specs.declared.definition.TypeDefinition.{TypeDefinition}
use Rattle.metadata.proofs.CellKinds.{and-false}
use Rattle.metadata.specs.Same.{all_same, equal_field, same_kind, same_type}

kinds : (a b : Kind) → Decides (same_kind a b) (a ≡ b)
kinds Int Int = (λ e. refl, λ e. refl)
kinds Int Text = (λ e. cc, λ e. cc)
kinds Int Bytes = (λ e. cc, λ e. cc)
kinds Text Int = (λ e. cc, λ e. cc)
kinds Text Text = (λ e. refl, λ e. refl)
kinds Text Bytes = (λ e. cc, λ e. cc)
kinds Bytes Int = (λ e. cc, λ e. cc)
kinds Bytes Text = (λ e. cc, λ e. cc)
kinds Bytes Bytes = (λ e. refl, λ e. refl)

fields_one : (a b : Field) → Decides (equal_field a b) (a ≡ b)
fields_one a b =
    Decides-like (equal_field a b) (λ both i. record { name = both.0 i; kind = both.1 i }) (λ e. (ap (λ (f : Field). f.name) e, ap (λ (f : Field). f.kind) e))
    (Decides-and (bytes_eq a.name b.name) (same_kind a.kind b.kind) (bytes_eq-Decides a.name b.name) (kinds a.kind b.kind))

lists : {X : Type 0} (same : X → X → Bool) → ((a b : X) → Decides (same a b) (a ≡ b)) → (xs ys : List X) → Decides (all_same same xs ys) (xs ≡ ys)
lists same each [] [] = (λ e. refl, λ e. refl)
lists same each [] (y ∷ ys) = (λ e. cc, λ e. cc)
lists same each (x ∷ xs) [] = (λ e. cc, λ e. cc)
lists same each (x ∷ xs) (y ∷ ys) =
    Decides-like (all_same same (x ∷ xs) (y ∷ ys)) (λ both i. both.0 i ∷ both.1 i) (λ e. (cc, cc))
    (Decides-and (same x y) (all_same same xs ys) (each x y) (lists same each xs ys))

-- SAME: the test of definitions is that of equality
pub same_type-Decides : (a b : TypeDefinition) → Decides (same_type a b) (a ≡ b)
same_type-Decides a b =
    Decides-like (same_type a b)
    (λ all i. record { number = all.0.0.0.0 i; name = all.0.0.0.1 i; fields = all.0.0.1 i; key = all.0.1 i; first_fields = all.1 i })
    (λ e. (
      (((ap (λ (t : TypeDefinition). t.number) e, ap (λ (t : TypeDefinition). t.name) e), ap (λ (t : TypeDefinition). t.fields) e), ap (λ (t : TypeDefinition). t.key) e),
      ap (λ (t : TypeDefinition). t.first_fields) e,
    ))
    (Decides-and _ _
    (Decides-and _ _ (Decides-and _ _ (Decides-and _ _ (Decides-eqb a.number b.number) (bytes_eq-Decides a.name b.name)) (lists equal_field fields_one a.fields b.fields)) (bytes_eq-Decides a.key b.key))
    (Decides-eqb a.first_fields b.first_fields))

-- as many of both, and each the same as that beside it
pub all_same-zip : {X : Type 0} (same : X → X → Bool) (xs ys : List X) → length xs ≡ length ys → list_all (λ (p : X × X). same p.0 p.1) (zip xs ys) ≡ all_same same xs ys
all_same-zip same [] [] as_many = refl
all_same-zip same [] (y ∷ ys) as_many = absurd (omega arith)
all_same-zip same (x ∷ xs) [] as_many = absurd (omega arith)
all_same-zip same (x ∷ xs) (y ∷ ys) as_many = ap (λ b. same x y && b) (all_same-zip same xs ys (omega arith))

-- another number of them
pub all_same-unequal : {X : Type 0} (same : X → X → Bool) (xs ys : List X) → length xs ≢ length ys → all_same same xs ys ≡ false
all_same-unequal same [] [] other = absurd (other refl)
all_same-unequal same [] (y ∷ ys) other = refl
all_same-unequal same (x ∷ xs) [] other = refl
all_same-unequal same (x ∷ xs) (y ∷ ys) other = ap (λ b. same x y && b) (all_same-unequal same xs ys (omega arith)) ∙ and-false (same x y)
