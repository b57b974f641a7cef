-- A field appended to the first type of a name, by the place of that type.
use Rattle.std.proofs.Common.{◌≡◌, ◌<◌, ◌≤◌, ℕ, zero, suc, Bool, true, false, not, cond, List, [], ◌∷◌, ◌++◌, length, take, get_or, set, refl, sym, ap, ◌∙◌, arith}
use Rattle.std.specs.List.{list_all}
use Rattle.std.specs.Str.{bytes_eq}
use Rattle.std.proofs.lemmas.List.{get_or_default, take_all}
use Rattle.metadata.specs.declared.definition.Field.{Field}
use Rattle.metadata.specs.declared.definition.TypeDefinition.{TypeDefinition}
use Rattle.metadata.specs.Change.{appended, appended_at}
use Rattle.metadata.proofs.WrittenItems.{both}

is_false : (b : Bool) → not b ≡ true → b ≡ false
is_false true e = sym e
is_false false e = refl

-- the first type of the name stands at the place behind those that have others
pub appended_there : (name : List ℕ) (field : Field) (types : List TypeDefinition) (place : ℕ) (d : TypeDefinition) → place < length types →
    list_all (λ (type : TypeDefinition). not (bytes_eq type.name name)) (take place types) ≡ true → bytes_eq (get_or types place d).name name ≡ true →
    appended_at name field types ≡ set types place (appended (get_or types place d) field)
appended_there name field [] place d inside others here = absurd (omega (arith, inside))
appended_there name field (type ∷ types) zero d inside others here = ap (λ b. cond b (appended type field ∷ types) (type ∷ appended_at name field types)) here
appended_there name field (type ∷ types) (suc place) d inside others here =
    let parts = both (not (bytes_eq type.name name)) (list_all (λ (own : TypeDefinition). not (bytes_eq own.name name)) (take place types)) others in
    ap (λ b. cond b (appended type field ∷ types) (type ∷ appended_at name field types)) (is_false (bytes_eq type.name name) parts.0)
    ∙ ap (λ rest. type ∷ rest) (appended_there name field types place d (omega (arith, inside)) parts.1 here)

-- where each type has another name none has a field more
pub appended_nowhere : (name : List ℕ) (field : Field) (types : List TypeDefinition) → list_all (λ (type : TypeDefinition). not (bytes_eq type.name name)) types ≡ true → appended_at name field types ≡ types
appended_nowhere name field [] others = refl
appended_nowhere name field (type ∷ types) others =
    let parts = both (not (bytes_eq type.name name)) (list_all (λ (own : TypeDefinition). not (bytes_eq own.name name)) types) others in
    ap (λ b. cond b (appended type field ∷ types) (type ∷ appended_at name field types)) (is_false (bytes_eq type.name name) parts.0) ∙ ap (λ rest. type ∷ rest) (appended_nowhere name field types parts.1)

-- the same of the type that stands at the place, whose fields are those with one more
pub appended_set : (name : List ℕ) (field : Field) (types own : List TypeDefinition) (place : ℕ) (first one : TypeDefinition) (fields : List Field) → own ≡ types → place < length types →
    list_all (λ (type : TypeDefinition). not (bytes_eq type.name name)) (take place types) ≡ true → first ≡ get_or own place first → one ≡ get_or own place one → bytes_eq first.name name ≡ true →
    fields ≡ one.fields ++ field ∷ [] → set own place (record one { fields = fields }) ≡ appended_at name field types
appended_set name field types own place first one fields same inside others its here named more =
    let is : one ≡ get_or types place one = here ∙ ap (λ ts. get_or ts place one) same in
    let its_name : bytes_eq (get_or types place one).name name ≡ true =
    ap (λ (t : TypeDefinition). bytes_eq t.name name) (get_or_default types place one first inside ∙ ap (λ ts. get_or ts place first) (sym same) ∙ sym its) ∙ named in
    (λ i. set (same i) place (record one { fields = more i }))
    ∙ ap (λ t. set types place (appended t field)) is
    ∙ sym (appended_there name field types place one inside others its_name)

pub appended_past : (name : List ℕ) (field : Field) (types : List TypeDefinition) (place : ℕ) → length types ≤ place → list_all (λ (type : TypeDefinition). not (bytes_eq type.name name)) (take place types) ≡ true →
    appended_at name field types ≡ types
appended_past name field types place past others =
    appended_nowhere name field types (ap (list_all (λ (type : TypeDefinition). not (bytes_eq type.name name))) (sym (take_all place types past)) ∙ others)
