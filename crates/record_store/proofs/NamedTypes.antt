-- A lawful schema's types are found by their own names, and the type of each of its indexes is one of them.
use Rattle.std.proofs.Common.{◌≡◌, ◌<◌, ℕ, zero, suc, arith, Bool, true, false, cond, not, ◌||◌, ◌==◌, List, [], ◌∷◌, ◌++◌, length, refl, sym, ap, subst, ◌∙◌, Option, Some, None, Result, Ok, Err, is_some}
use Rattle.std.specs.Prelude.{get_or, map, nat_lt}
use Rattle.std.specs.List.{AllByRecursion, Contains, find, list_all}
use Rattle.std.specs.Option.{option_map, option_map_or}
use Rattle.std.specs.Str.{bytes_eq}
use Rattle.std.proofs.lemmas.Bool.{and_parts, eqb-true}
use Rattle.std.proofs.lemmas.Slice.Eq.{bytes_eq-Decides}
use Rattle.metadata.specs.declared.definition.TypeDefinition.{TypeDefinition}
use Rattle.metadata.specs.declared.definition.TypeRequest.{TypeRequest}
use Rattle.metadata.specs.declared.index.IndexDefinition.{IndexDefinition}
use Rattle.metadata.specs.declared.refusal.Refusal.{Refusal}
use Rattle.metadata.specs.declared.refusal.Refusal.TheVariants.{BadName, NameTaken, UnknownField, BadSchema, TooMany}
use Rattle.metadata.specs.Change.{add_types, empty_schema, field_names, first_test_refusal, has_twice, has_unknown}
use Rattle.metadata.specs.Change.{is_name, same_field, type_asked, type_refusal, types_alone, with_type}
use Rattle.metadata.specs.Lawful.{IsLawfulSchema, at_once, is_index, is_index_over}
use Rattle.metadata.specs.Schema.{Schema, find_type, type_at}
use Rattle.metadata.specs.Stored.{IsTypeOf}
use Rattle.metadata.proofs.StoredApart.{named_typed}
use Rattle.metadata.proofs.TestedIndexes.{tested}
use Rattle.record_store.proofs.NewIndexes.{all_append}

-- ---- lists

-- what is found stays found where more stands behind
found_still : {X : Type 0} (p : X → Bool) (xs more : List X) (x : X) → find p xs ≡ Some x → find p (xs ++ more) ≡ Some x
found_still p [] more x is = absurd (cc)
found_still p (y ∷ xs) more x is = by_test (p y) is (found_still p xs more x)
  where
    by_test : (b : Bool) → cond b (Some y) (find p xs) ≡ Some x → (find p xs ≡ Some x → find p (xs ++ more) ≡ Some x) → cond b (Some y) (find p (xs ++ more)) ≡ Some x
    by_test true some go = some
    by_test false some go = go some

-- the last one is found where none before it is
found_last : {X : Type 0} (p : X → Bool) (xs : List X) (x : X) → find p xs ≡ None → p x ≡ true → find p (xs ++ x ∷ []) ≡ Some x
found_last p [] x none is = ap (λ b. cond b (Some x) None) is
found_last p (y ∷ xs) x none is = by_test (p y) none (found_last p xs x)
  where
    by_test : (b : Bool) → cond b (Some y) (find p xs) ≡ None → (find p xs ≡ None → p x ≡ true → find p (xs ++ x ∷ []) ≡ Some x) → cond b (Some y) (find p (xs ++ x ∷ [])) ≡ Some x
    by_test true some go = absurd (cc)
    by_test false some go = go some is

-- what holds of all holds of what is found
found_has : {X : Type 0} (P : X → Type 0) (p : X → Bool) (xs : List X) (x : X) → find p xs ≡ Some x → AllByRecursion P xs → P x
found_has P p [] x is all = absurd (cc)
found_has P p (y ∷ xs) x is all = by_test (p y) is (λ more. found_has P p xs x more all.1)
  where
    by_test : (b : Bool) → cond b (Some y) (find p xs) ≡ Some x → (find p xs ≡ Some x → P x) → P x
    by_test true some go = let same : y ≡ x = cc in subst P same all.0
    by_test false some go = go some

-- a test that all pass is passed by one that is there
passes : {X : Type 0} (p : X → Bool) (xs : List X) (x : X) (k : ℕ) → k < length xs → get_or xs k x ≡ x → list_all p xs ≡ true → p x ≡ true
passes p [] x k within is all = absurd (omega (arith, within))
passes p (y ∷ xs) x zero within is all = ap p (sym is) ∙ (and_parts (p y) (list_all p xs) all).0
passes p (y ∷ xs) x (suc k) within is all = passes p xs x k (omega (arith, within)) is (and_parts (p y) (list_all p xs) all).1

-- ---- names

-- each type is found by its name
abbrev AreNamed : List TypeDefinition → List TypeDefinition → Type 0
AreNamed types some = AllByRecursion (λ (t : TypeDefinition). find (λ (one : TypeDefinition). bytes_eq one.name t.name) types ≡ Some t) some

named_more : (types : List TypeDefinition) (new : TypeDefinition) → find (λ (one : TypeDefinition). bytes_eq one.name new.name) types ≡ None → AreNamed types types → AreNamed (types ++ new ∷ []) (types ++ new ∷ [])
named_more types new none named =
    all_append (λ (t : TypeDefinition). find (λ (one : TypeDefinition). bytes_eq one.name t.name) (types ++ new ∷ []) ≡ Some t) types new (each types named)
    (found_last (λ (one : TypeDefinition). bytes_eq one.name new.name) types new none ((bytes_eq-Decides new.name new.name).1 refl))
  where
    each : (some : List TypeDefinition) → AreNamed types some → AreNamed (types ++ new ∷ []) some
    each [] all = tt
    each (t ∷ some) all = (found_still (λ (one : TypeDefinition). bytes_eq one.name t.name) types (new ∷ []) t all.0, each some all.1)

-- a type that isn't refused has a name of its own
name_free : (schema : Schema) (request : TypeRequest) → type_refusal schema request ≡ None → find_type schema request.name ≡ None
name_free schema request is =
    by_tests (not (list_all is_name (request.name ∷ field_names request.fields))) (find_type schema request.name) (has_twice same_field request.fields)
    (
    (has_unknown request.fields request.key, UnknownField)
    ∷ (length request.key == 0 || has_twice bytes_eq request.key, BadSchema)
    ∷ (nat_lt 31 (length schema.types) || nat_lt 32 (length request.fields) || nat_lt 8 (length request.key), TooMany)
    ∷ []) is
  where
    by_tests : (bad : Bool) (found : Option TypeDefinition) (twice : Bool) (rest : List (Bool × Refusal)) → first_test_refusal ((bad, BadName) ∷ (is_some found || twice, NameTaken) ∷ rest) ≡ None → found ≡ None
    by_tests true found twice rest none = absurd (cc)
    by_tests false None twice rest none = refl
    by_tests false (Some t) twice rest none = absurd (cc)

named_all : (schema end : Schema) (requests : List TypeRequest) → AreNamed schema.types schema.types → add_types schema requests ≡ Ok end → AreNamed end.types end.types
named_all schema end [] named made = let same : schema ≡ end = cc in subst (λ (s : Schema). AreNamed s.types s.types) same named
named_all schema end (request ∷ requests) named made = by_refusal (type_refusal schema request) refl made (λ next are rest. named_all next end requests are rest)
  where
    by_refusal : (o : Option Refusal) → type_refusal schema request ≡ o →
        ◌≡◌ {A = Result Schema Refusal} (elim (elim o as (λ _. Result Schema Refusal) [ None ↦ Ok (with_type schema request) | Some refusal ↦ Err refusal ]) as (λ _. Result Schema Refusal) [ Err refusal ↦ Err refusal | Ok next ↦ add_types next requests ]) (Ok end) →
        ((next : Schema) → AreNamed next.types next.types → add_types next requests ≡ Ok end → AreNamed end.types end.types) → AreNamed end.types end.types
    by_refusal None is rest go = go (with_type schema request) (named_more schema.types (type_asked schema request) (name_free schema request is) named) rest
    by_refusal (Some refusal) is rest go = absurd (cc)

-- a test of what doesn't depend on the first fields finds the same of types as if all of their fields had been there
found_at_once : (test : TypeDefinition → Bool) → ((t : TypeDefinition) → test (at_once t) ≡ test t) → (types : List TypeDefinition) → find test (map at_once types) ≡ option_map at_once (find test types)
found_at_once test alike [] = refl
found_at_once test alike (t ∷ types) = ap (λ b. cond b (Some (at_once t)) (find test (map at_once types))) (alike t) ∙ by_test (test t) (found_at_once test alike types)
  where
    by_test : (b : Bool) → find test (map at_once types) ≡ option_map at_once (find test types) → cond b (Some (at_once t)) (find test (map at_once types)) ≡ option_map at_once (cond b (Some t) (find test types))
    by_test true rest = refl
    by_test false rest = rest

-- NAMED: a type of a lawful schema is found by its name
pub typed_named : (schema : Schema) (type : TypeDefinition) → IsLawfulSchema schema → IsTypeOf schema type → find_type schema type.name ≡ Some type
typed_named schema type lawful typed =
    by_found (find_type schema type.name) refl
    (sym (found_at_once (λ (t : TypeDefinition). bytes_eq t.name type.name) (λ t. refl) schema.types)
    ∙ found_has (λ (t : TypeDefinition). find (λ (one : TypeDefinition). bytes_eq one.name t.name) whole ≡ Some t) (λ (t : TypeDefinition). t.number == type.number) whole (at_once type)
    (found_at_once (λ (t : TypeDefinition). t.number == type.number) (λ t. refl) schema.types ∙ ap (option_map at_once) typed)
    (named_all empty_schema (types_alone whole) lawful.requests tt lawful.types))
  where
    whole : List TypeDefinition
    whole = map at_once schema.types

    -- types of one number are the same
    by_found : (found : Option TypeDefinition) → find_type schema type.name ≡ found → option_map at_once found ≡ Some (at_once type) → find_type schema type.name ≡ Some type
    by_found None is none = absurd (cc)
    by_found (Some other) is same =
        let one : at_once other ≡ at_once type = cc in
        let number : other.number ≡ type.number = ap (λ (t : TypeDefinition). t.number) one in
        is ∙ sym (named_typed schema type.name other lawful is) ∙ ap (type_at schema.types) number ∙ typed

-- OVER: the type of an index of a lawful schema is there
pub index_typed : (schema : Schema) (index : IndexDefinition) → IsLawfulSchema schema → Contains schema.indexes index → type_at schema.types index.type_number ≡ None → ⊥
index_typed schema index lawful there none =
    let is : is_index schema.types index ≡ true = passes (is_index schema.types) schema.indexes index there.0 there.1 there.2 (tested schema lawful.indexes).each in
    let over : option_map_or (is_index_over index) (type_at schema.types index.type_number) false ≡ true = (and_parts _ (option_map_or (is_index_over index) (type_at schema.types index.type_number) false) is).1 in
    let no : false ≡ true = sym (ap (λ o. option_map_or (is_index_over index) o false) none) ∙ over in absurd (cc)

-- a type that is found by its number has it
pub found_number : (types : List TypeDefinition) (number : ℕ) (type : TypeDefinition) → type_at types number ≡ Some type → type.number ≡ number
found_number [] number type is = absurd (cc)
found_number (t ∷ types) number type is = by_test (t.number == number) refl is (found_number types number type)
  where
    by_test : (b : Bool) → (t.number == number) ≡ b → cond b (Some t) (find (λ (one : TypeDefinition). one.number == number) types) ≡ Some type → (find (λ (one : TypeDefinition). one.number == number) types ≡ Some type → type.number ≡ number) → type.number ≡ number
    by_test true has some go = let same : t ≡ type = cc in ap (λ (one : TypeDefinition). one.number) (sym same) ∙ eqb-true t.number number has
    by_test false has some go = go some

-- so it is one of the schema's
pub found_typed : (schema : Schema) (number : ℕ) (type : TypeDefinition) → type_at schema.types number ≡ Some type → IsTypeOf schema type
found_typed schema number type is = ap (type_at schema.types) (found_number schema.types number type is) ∙ is
