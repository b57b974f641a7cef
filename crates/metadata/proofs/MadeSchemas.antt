-- What stands of a schema that types made: from the items that they are in the first form they are read again.
use Rattle.std.proofs.Common.{◌≡◌, ◌≤◌, ◌<◌, ◌+◌, ℕ, Bool, true, false, not, ◌&&◌, List, [], ◌∷◌, ◌++◌, Option, Some, None, Result, Ok, Err, length, map, refl, sym, ap, subst, ◌∙◌, arith}
use Rattle.std.specs.Prelude.{◌==◌, ◌||◌, is_some, nat_lt}
use Rattle.std.specs.List.{AllByRecursion, list_all}
use Rattle.std.specs.Str.{bytes_eq}
use Rattle.std.specs.Result.{is_ok}
use Rattle.std.specs.Option.{option_map, option_and_then}
use Rattle.std.proofs.lemmas.Bool.{le-leb, ltb-false, true≢false}
use Rattle.std.proofs.lemmas.List.Folds.{list_all-append}
use Rattle.std.proofs.lemmas.List.{append_assoc, append-nil, length-append, map-append}
use Rattle.tuple_codec.specs.Item.{AreItems, items_list, items_from}
use Rattle.metadata.specs.declared.definition.TypeDefinition.{TypeDefinition}
use Rattle.metadata.specs.declared.definition.TypeRequest.{TypeRequest}
use Rattle.metadata.specs.declared.refusal.Refusal.{Refusal}
use Rattle.metadata.specs.declared.refusal.Refusal.TheVariants.{BadName, NameTaken, UnknownField, BadSchema, TooMany}
use Rattle.metadata.specs.Change.{add_type, add_types, empty_schema, field_names, first_test_refusal, has_twice}
use Rattle.metadata.specs.Change.{has_unknown, is_name, places_of, same_field, schema_of, type_asked, type_refusal}
use Rattle.metadata.specs.Change.{types_alone, with_type}
use Rattle.metadata.specs.Schema.{Schema, find_type}
use Rattle.metadata.specs.Written.{field_item, number_item, type_item}
use Rattle.metadata.specs.Lawful.{at_once, is_grown}
use Rattle.metadata.proofs.IndexItems.{IsSmall}
use Rattle.metadata.proofs.KnownPlaces.{columns_known}
use Rattle.metadata.specs.Reading.{all_read, asked_of, name_of, request_of}
use Rattle.metadata.proofs.AllRead.{all_read-more}
use Rattle.metadata.proofs.ReadBack.{fields_back, listed-items_of, names_back, neither}
use Rattle.metadata.proofs.WrittenItems.{is_item-type, are_items-more}

-- what the tests of a type leave
pub record Passed (schema : Schema) (request : TypeRequest) : Type 0 where
  pub names : list_all is_name (request.name ∷ field_names request.fields) ≡ true
  pub known : has_unknown request.fields request.key ≡ false
  pub types : length schema.types < 32
  pub fields : length request.fields ≤ 32

no_refusal : (why : Refusal) → ◌≡◌ {A = Option Refusal} (Some why) None → ⊥
no_refusal why is = true≢false (ap is_some is)

all_passed : (a b c d e : Bool) → first_test_refusal ((a, BadName) ∷ (b, NameTaken) ∷ (c, UnknownField) ∷ (d, BadSchema) ∷ (e, TooMany) ∷ []) ≡ None → (a ≡ false) × (c ≡ false) × (e ≡ false)
all_passed false false false false false is = (refl, refl, refl)
all_passed true b c d e is = absurd (no_refusal _ is)
all_passed false true c d e is = absurd (no_refusal _ is)
all_passed false false true d e is = absurd (no_refusal _ is)
all_passed false false false true e is = absurd (no_refusal _ is)
all_passed false false false false true is = absurd (no_refusal _ is)

pub turned : (test : Bool) → not test ≡ false → test ≡ true
turned true is = refl
turned false is = absurd (true≢false is)

pub passed : (schema : Schema) (request : TypeRequest) → type_refusal schema request ≡ None → Passed schema request
passed schema request is =
    let tests = all_passed
    (not (list_all is_name (request.name ∷ field_names request.fields)))
    (is_some (find_type schema request.name) || has_twice same_field request.fields)
    (has_unknown request.fields request.key)
    (length request.key == 0 || has_twice bytes_eq request.key)
    (nat_lt 31 (length schema.types) || nat_lt 32 (length request.fields) || nat_lt 8 (length request.key)) is in
    let many = neither (nat_lt 31 (length schema.types) || nat_lt 32 (length request.fields)) (nat_lt 8 (length request.key)) tests.2 in
    let few = neither (nat_lt 31 (length schema.types)) (nat_lt 32 (length request.fields)) many.0 in
    let few_types = ltb-false 31 (length schema.types) few.0 in
    let few_fields = ltb-false 32 (length request.fields) few.1 in
    record { names = turned _ tests.0; known = tests.1; types = omega arith; fields = few_fields }

-- the request is read from the type that it made
request_back : (schema : Schema) (request : TypeRequest) → Passed schema request → request_of (type_item false (type_asked schema request)) ≡ Some request
request_back schema request p =
    let name = request.name in
    let places = map number_item (places_of request.fields request.key) in
    let fields = map field_item request.fields in
    ap (λ items. asked_of name items (items_list (items_from places))) (listed-items_of fields)
    ∙ ap (λ items. asked_of name fields items) (listed-items_of places)
    ∙ ap (option_and_then (λ fields_read. option_map (λ key. record { name = name; fields = fields_read; key = key }) (all_read (name_of fields_read) places))) (fields_back request.fields)
    ∙ ap (option_map (λ key. record { name = name; fields = request.fields; key = key })) (names_back request.fields request.key p.fields p.known)

schema_or : Schema → Result Schema Refusal → Schema
schema_or default (Ok schema) = schema
schema_or default (Err refusal) = default

pub ok_same : (a b : Schema) → ◌≡◌ {A = Result Schema Refusal} (Ok a) (Ok b) → a ≡ b
unfolding schema_or
ok_same a b is = ap (schema_or a) is

pub err_other : (refusal : Refusal) (schema : Schema) → ◌≡◌ {A = Result Schema Refusal} (Err refusal) (Ok schema) → ⊥
err_other refusal schema is = true≢false (sym (ap is_ok is))

-- types are numbered on from the number after this one
abbrev pub AreNumbered : ℕ → List TypeDefinition → Type 0
AreNumbered n [] = Unit {0}
AreNumbered n (type ∷ types) = (type.number ≡ n + 1) × AreNumbered (n + 1) types

numbered_push : (n : ℕ) (types : List TypeDefinition) (type : TypeDefinition) → AreNumbered n types → type.number ≡ n + length types + 1 → AreNumbered n (types ++ type ∷ [])
numbered_push n [] type are is = (omega (arith, is), tt)
numbered_push n (first ∷ types) type are is = (are.0, numbered_push (n + 1) types type are.1 (omega (arith, is)))

-- what is kept as types are added
record Kept (schema : Schema) (requests : List TypeRequest) : Type 0 where
  alone : schema ≡ types_alone schema.types
  small : AllByRecursion IsSmall schema.types
  numbered : AreNumbered 0 schema.types
  items : AreItems (items_from (map (type_item false) schema.types))
  few : length schema.types ≤ 32
  read : all_read request_of (map (type_item false) schema.types) ≡ Some requests
  whole : map at_once schema.types ≡ schema.types
  grown : list_all is_grown schema.types ≡ true

all_more : (types : List TypeDefinition) (type : TypeDefinition) → AllByRecursion IsSmall types → IsSmall type → AllByRecursion IsSmall (types ++ type ∷ [])
all_more [] type small one = (one, tt)
all_more (first ∷ types) type small one = (small.0, all_more types type small.1 one)

-- the type that a request asks for has all of its fields at first, and its key's places among them
pub asked_grown : (schema : Schema) (request : TypeRequest) → Passed schema request → is_grown (type_asked schema request) ≡ true
asked_grown schema request p = λ i. le-leb (length request.fields) (length request.fields) (omega arith) i && (columns_known request.fields request.key p.known).1 i

kept_more : (schema : Schema) (before : List TypeRequest) (request : TypeRequest) → Kept schema before → Passed schema request → Kept (with_type schema request) (before ++ request ∷ [])
kept_more schema before request k p =
    let type = type_asked schema request in
    let spread = map-append (type_item false) schema.types (type ∷ []) in
    record {
      alone = ap (λ (s : Schema). record s { types = schema.types ++ type ∷ [] }) k.alone;
      small = all_more schema.types type k.small (let few = p.types in record { number = omega (arith, few); fields = p.fields });
      numbered = numbered_push 0 schema.types type k.numbered (omega arith);
      items = subst (λ items. AreItems (items_from items)) (sym spread) (are_items-more (map (type_item false) schema.types) (type_item false type) k.items (is_item-type schema request p.names p.types p.fields));
      few = let p_few = p.types in omega (arith, length-append schema.types (type ∷ []));
      read = ap (all_read request_of) spread ∙ all_read-more request_of (map (type_item false) schema.types) (type_item false type) before request k.read (request_back schema request p);
      whole = map-append at_once schema.types (type ∷ []) ∙ ap (λ ts. ts ++ type ∷ []) k.whole;
      grown = list_all-append is_grown schema.types (type ∷ []) ∙ (λ i. k.grown i && (asked_grown schema request p i && true));
    }

kept_one : (schema next : Schema) (before : List TypeRequest) (request : TypeRequest) (refusal : Option Refusal) → type_refusal schema request ≡ refusal
    → ◌≡◌ {A = Result Schema Refusal} (elim refusal [ None ↦ Ok (with_type schema request) | Some why ↦ Err why ]) (Ok next) → Kept schema before → Kept next (before ++ request ∷ [])
kept_one schema next before request None is made k = subst (λ s. Kept s (before ++ request ∷ [])) (ok_same _ _ made) (kept_more schema before request k (passed schema request is))
kept_one schema next before request (Some why) is made k = absurd (err_other _ _ made)

kept_behind : (schema end : Schema) (before : List TypeRequest) (request : TypeRequest) (requests : List TypeRequest) (outcome : Result Schema Refusal) → add_type schema request ≡ outcome → Kept schema before
    → ◌≡◌ {A = Result Schema Refusal} (elim outcome [ Err refusal ↦ Err refusal | Ok next ↦ add_types next requests ]) (Ok end)
    → ((next : Schema) → Kept next (before ++ request ∷ []) → add_types next requests ≡ Ok end → Kept end ((before ++ request ∷ []) ++ requests))
    → Kept end (before ++ request ∷ requests)
kept_behind schema end before request requests (Err refusal) is k made more = absurd (err_other _ _ made)
kept_behind schema end before request requests (Ok next) is k made more =
    subst (Kept end) (append_assoc before (request ∷ []) requests) (more next (kept_one schema next before request (type_refusal schema request) refl is k) made)

kept_all : (schema end : Schema) (before requests : List TypeRequest) → Kept schema before → add_types schema requests ≡ Ok end → Kept end (before ++ requests)
kept_all schema end before [] k made = subst (λ s. Kept s (before ++ [])) (ok_same _ _ made) (subst (Kept schema) (sym (append-nil before)) k)
kept_all schema end before (request ∷ requests) k made =
    kept_behind schema end before request requests (add_type schema request) refl k made (λ next next_kept rest. kept_all next end (before ++ request ∷ []) requests next_kept rest)

kept : (schema : Schema) (requests : List TypeRequest) → schema_of requests ≡ Ok schema → Kept schema requests
kept schema requests made = kept_all empty_schema schema [] requests (record { alone = refl; small = tt; numbered = tt; items = tt; few = omega arith; read = refl; whole = refl; grown = refl }) made

-- a schema that requests made has types alone
pub made_alone : (schema : Schema) (requests : List TypeRequest) → schema_of requests ≡ Ok schema → schema ≡ types_alone schema.types
made_alone schema requests made = (kept schema requests made).alone

-- and they are numbered from 1 in order
pub made_numbered : (schema : Schema) (requests : List TypeRequest) → schema_of requests ≡ Ok schema → AreNumbered 0 schema.types
made_numbered schema requests made = (kept schema requests made).numbered

-- and their numbers are small
pub made_small : (schema : Schema) (requests : List TypeRequest) → schema_of requests ≡ Ok schema → AllByRecursion IsSmall schema.types
made_small schema requests made = (kept schema requests made).small

-- and all of their fields were there at first
pub made_whole : (schema : Schema) (requests : List TypeRequest) → schema_of requests ≡ Ok schema → map at_once schema.types ≡ schema.types
made_whole schema requests made = (kept schema requests made).whole

pub made_grown : (schema : Schema) (requests : List TypeRequest) → schema_of requests ≡ Ok schema → list_all is_grown schema.types ≡ true
made_grown schema requests made = (kept schema requests made).grown

-- and they are read again from the items that they are in the first form
pub made_items : (schema : Schema) (requests : List TypeRequest) → schema_of requests ≡ Ok schema → AreItems (items_from (map (type_item false) schema.types))
made_items schema requests made = (kept schema requests made).items

pub made_read : (schema : Schema) (requests : List TypeRequest) → schema_of requests ≡ Ok schema → all_read request_of (map (type_item false) schema.types) ≡ Some requests
made_read schema requests made = (kept schema requests made).read

pub made_few : (schema : Schema) (requests : List TypeRequest) → schema_of requests ≡ Ok schema → length schema.types ≤ 32
made_few schema requests made = (kept schema requests made).few
