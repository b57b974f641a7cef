-- Schemas whose types have the same names refuse the same requests for types, and number them alike.
use Rattle.std.proofs.Common.{◌≡◌, ◌+◌, ℕ, Bool, true, false, not, cond, ◌||◌, ◌==◌, List, [], ◌∷◌, Some, length, map, refl, sym, ap, ◌∙◌}
use Rattle.std.specs.Prelude.{find, is_some, nat_lt}
use Rattle.std.specs.List.{list_all, list_any}
use Rattle.std.specs.Str.{bytes_eq}
use Rattle.std.proofs.lemmas.List.{length-map}
use Rattle.metadata.specs.declared.definition.TypeDefinition.{TypeDefinition}
use Rattle.metadata.specs.declared.definition.TypeRequest.{TypeRequest}
use Rattle.metadata.specs.declared.refusal.Refusal.TheVariants.{BadName, NameTaken, UnknownField, BadSchema, TooMany}
use Rattle.metadata.specs.Change.{field_names, first_test_refusal, has_twice, has_unknown, is_name, places_of, same_field, type_asked, type_refusal}
use Rattle.metadata.specs.Lawful.{at_once}
use Rattle.metadata.specs.Schema.{Schema}
use Rattle.metadata.proofs.Lists.{list_any-map}

-- the names of types
abbrev pub type_names : List TypeDefinition → List (List ℕ)
type_names types = map (λ (type : TypeDefinition). type.name) types

pub names-at_once : (types : List TypeDefinition) → type_names (map at_once types) ≡ type_names types
names-at_once [] = refl
names-at_once (type ∷ types) = ap (λ names. type.name ∷ names) (names-at_once types)

-- one of a list is found where one passes
some-find : {X : Type 0} (p : X → Bool) (xs : List X) → is_some (find p xs) ≡ list_any p xs
some-find p [] = refl
some-find p (x ∷ xs) = elim (p x) as (λ b. is_some (cond b (Some x) (find p xs)) ≡ (b || list_any p xs)) [ true ↦ refl | false ↦ some-find p xs ]

find-alike : (a b : List TypeDefinition) (name : List ℕ) → type_names a ≡ type_names b →
    is_some (find (λ (type : TypeDefinition). bytes_eq type.name name) a) ≡ is_some (find (λ (type : TypeDefinition). bytes_eq type.name name) b)
find-alike a b name same =
    some-find (λ (type : TypeDefinition). bytes_eq type.name name) a
    ∙ sym (list_any-map (λ own. bytes_eq own name) (λ (type : TypeDefinition). type.name) a)
    ∙ ap (list_any (λ own. bytes_eq own name)) same
    ∙ list_any-map (λ own. bytes_eq own name) (λ (type : TypeDefinition). type.name) b
    ∙ sym (some-find (λ (type : TypeDefinition). bytes_eq type.name name) b)

pub length-alike : (a b : List TypeDefinition) → type_names a ≡ type_names b → length a ≡ length b
length-alike a b same = sym (length-map a (λ (type : TypeDefinition). type.name)) ∙ ap length same ∙ length-map b (λ (type : TypeDefinition). type.name)

pub refusal-alike : (s t : Schema) (request : TypeRequest) → type_names s.types ≡ type_names t.types → type_refusal s request ≡ type_refusal t request
refusal-alike s t request same = λ i. first_test_refusal (
    (not (list_all is_name (request.name ∷ field_names request.fields)), BadName)
    ∷ (find-alike s.types t.types request.name same i || has_twice same_field request.fields, NameTaken)
    ∷ (has_unknown request.fields request.key, UnknownField)
    ∷ (length request.key == 0 || has_twice bytes_eq request.key, BadSchema)
    ∷ (nat_lt 31 (length-alike s.types t.types same i) || nat_lt 32 (length request.fields) || nat_lt 8 (length request.key), TooMany)
    ∷ [])

pub asked-alike : (s t : Schema) (request : TypeRequest) → type_names s.types ≡ type_names t.types → type_asked s request ≡ type_asked t request
asked-alike s t request same = λ i. record {
  number = length-alike s.types t.types same i + 1;
  name = request.name;
  fields = request.fields;
  key = places_of request.fields request.key;
  first_fields = length request.fields;
}
