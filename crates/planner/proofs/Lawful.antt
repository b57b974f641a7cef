-- What a lawful schema tells of its types and indexes: names that differ, keys and columns that are places of fields, small numbers.
use Rattle.std.specs.Prelude.{◌≡◌, ◌≢◌, refl, ℕ, ◌+◌, ◌<◌, ◌≤◌, ◌^◌, Bool, true, false, not, ◌||◌, ◌==◌, List, [], ◌∷◌, length, map, Some, None, Ok, Err, Option, Result, pos, nat_lt, is_some, AllPairs}
use Rattle.std.specs.List.{filter_map, list_any, list_all}
use Rattle.std.specs.Option.{option_map_or}
use Rattle.std.specs.Str.{bytes_eq}
use Rattle.std.proofs.Common.{ap, sym, ◌∙◌, subst, arith}
use Rattle.std.specs.Cmp.{first_so, second_so}
use Rattle.std.proofs.lemmas.Slice.Eq.{bytes_eq-Decides}
use Rattle.std.proofs.lemmas.Bool.{ltb-true, ltb-false, lt-ltb}
use Rattle.std.proofs.lemmas.List.Quantifiers.{position-Some}
use Rattle.metadata.specs.declared.definition.Field.{Field}
use Rattle.metadata.specs.declared.definition.TypeDefinition.{TypeDefinition}
use Rattle.metadata.specs.declared.definition.TypeRequest.{TypeRequest}
use Rattle.metadata.specs.declared.index.IndexDefinition.{IndexDefinition}
use Rattle.metadata.specs.declared.cells.Kind.TheVariants as kind
use Rattle.metadata.specs.declared.refusal.Refusal.{Refusal}
use Rattle.metadata.specs.declared.refusal.Refusal.TheVariants.{BadName, NameTaken, UnknownField, BadSchema, TooMany}
use Rattle.metadata.specs.Cell.{is_word}
use Rattle.metadata.specs.Change.{add_types, empty_schema, field_names, first_test_refusal, has_twice, has_unknown}
use Rattle.metadata.specs.Change.{is_name, places_of, same_field, type_asked, type_refusal, types_alone, with_type}
use Rattle.metadata.specs.IndexChange.{is_int}
use Rattle.metadata.specs.Lawful.{IsLawfulSchema, at_once, is_index, is_index_over}
use Rattle.metadata.specs.Schema.{Schema, find_type, kind_at, place_of, type_at}
use Rattle.metadata.proofs.TestedIndexes.{tested}
use Rattle.planner.proofs.Ranges.{Each}
use Rattle.planner.proofs.Residual.{Member, each_append, each_member}
use Rattle.planner.proofs.Lists.{Pairwise, all_pairs}

-- a type's fields have different names, its key is of its fields, and its number is one of a cell
pub record IsSoundType (t : TypeDefinition) : Type 0 where
  pub names_differ : AllPairs (λ f g. f.name ≢ g.name) t.fields
  pub has_key : Each (λ p. p < length t.fields) t.key
  pub number_fits : is_word (pos t.number) ≡ true

-- ---- what an unrefused request tells

first_none : (b : Bool) (r : Refusal) (tests : List (Bool × Refusal)) → first_test_refusal ((b, r) ∷ tests) ≡ None → (b ≡ false) × (first_test_refusal tests ≡ None)
first_none true r tests e = cc
first_none false r tests e = (refl, e)

second_false : (a b : Bool) → (a || b) ≡ false → b ≡ false
second_false true b e = cc
second_false false b e = e

first_false : (a b : Bool) → (a || b) ≡ false → a ≡ false
first_false true b e = cc
first_false false b e = refl

apart_from : (f : Field) (fields : List Field) → list_any (same_field f) fields ≡ false → Each (λ g. f.name ≢ g.name) fields
apart_from f [] e = tt
apart_from f (g ∷ fields) e = (
  (λ same. let twice : bytes_eq f.name g.name ≡ true = (bytes_eq-Decides f.name g.name).1 same in let none : bytes_eq f.name g.name ≡ false = first_false (same_field f g) _ e in cc),
  apart_from f fields (second_false (same_field f g) _ e),
)

names_apart : (fields : List Field) → has_twice same_field fields ≡ false → Pairwise (λ f g. f.name ≢ g.name) fields
names_apart [] e = tt
names_apart (f ∷ fields) e = (apart_from f fields (first_false (list_any (same_field f) fields) _ e), names_apart fields (second_false (list_any (same_field f) fields) _ e))

no_field : Field
no_field = record { name = []; kind = kind.Int }

places_within : (fields : List Field) (names : List (List ℕ)) → Each (λ p. p < length fields) (places_of fields names)
places_within fields [] = tt
places_within fields (name ∷ names) = by (place_of fields name) refl (places_within fields names)
  where
    by : (o : Option ℕ) → place_of fields name ≡ o → Each (λ p. p < length fields) (places_of fields names) → Each (λ p. p < length fields) (filter_map (place_of fields) (name ∷ names))
    by None e more = let same : places_of fields names ≡ filter_map (place_of fields) (name ∷ names) = cc in subst (Each (λ p. p < length fields)) same more
    by (Some p) e more = let same : p ∷ places_of fields names ≡ filter_map (place_of fields) (name ∷ names) = cc in subst (Each (λ q. q < length fields)) same ((position-Some (λ f. bytes_eq f.name name) fields p no_field e).0, more)

five_none : (a b c d e : Bool) (p q r s t : Refusal) → first_test_refusal ((a, p) ∷ (b, q) ∷ (c, r) ∷ (d, s) ∷ (e, t) ∷ []) ≡ None → (b ≡ false) × (e ≡ false)
five_none true b c d e p q r s t h = cc
five_none false true c d e p q r s t h = cc
five_none false false true d e p q r s t h = cc
five_none false false false true e p q r s t h = cc
five_none false false false false true p q r s t h = cc
five_none false false false false false p q r s t h = (refl, refl)

asked_sound : (schema : Schema) (request : TypeRequest) → type_refusal schema request ≡ None → IsSoundType (type_asked schema request)
asked_sound schema request none =
    let two = five_none (not (list_all is_name (request.name ∷ field_names request.fields))) (is_some (find_type schema request.name) || has_twice same_field request.fields) (has_unknown request.fields request.key)
    (length request.key == 0 || has_twice bytes_eq request.key) (nat_lt 31 (length schema.types) || nat_lt 32 (length request.fields) || nat_lt 8 (length request.key)) BadName NameTaken UnknownField BadSchema TooMany none in
    record {
      names_differ = all_pairs (λ f g. f.name ≢ g.name) request.fields (names_apart request.fields (second_false (is_some (find_type schema request.name)) (has_twice same_field request.fields) two.0));
      has_key = places_within request.fields request.key;
      number_fits = small (length schema.types) (first_false (nat_lt 31 (length schema.types)) (nat_lt 32 (length request.fields)) (first_false (nat_lt 31 (length schema.types) || nat_lt 32 (length request.fields)) (nat_lt 8 (length request.key)) two.1));
    }
  where
    small : (n : ℕ) → nat_lt 31 n ≡ false → is_word (pos (n + 1)) ≡ true
    small n few = lt-ltb (n + 1) (2 ^ 63) (let low : n ≤ 31 = ltb-false 31 n few in omega (arith, low))

-- each type that requests make is sound
made_sound : (requests : List TypeRequest) (schema made : Schema) → add_types schema requests ≡ Ok made → Each IsSoundType schema.types → Each IsSoundType made.types
made_sound [] schema made e each = subst (λ s. Each IsSoundType s.types) (same schema made e) each
  where
    same : (a b : Schema) → ◌≡◌ {A = Result Schema Refusal} (Ok a) (Ok b) → a ≡ b
    same a b e = cc
made_sound (request ∷ requests) schema made e each = by (type_refusal schema request) refl e (λ next ok grown. made_sound requests next made ok grown)
  where
    added : Option Refusal → Result Schema Refusal
    added o = elim o [ None ↦ Ok (with_type schema request) | Some refusal ↦ Err refusal ]

    rest : Result Schema Refusal → Result Schema Refusal
    rest r = elim r [ Err refusal ↦ Err refusal | Ok next ↦ add_types next requests ]

    err_other : (refusal : Refusal) (schema : Schema) → ◌≡◌ {A = Result Schema Refusal} (Err refusal) (Ok schema) → ⊥
    err_other refusal schema e = cc

    by : (o : Option Refusal) → type_refusal schema request ≡ o → add_types schema (request ∷ requests) ≡ Ok made →
        ((next : Schema) → add_types next requests ≡ Ok made → Each IsSoundType next.types → Each IsSoundType made.types) → Each IsSoundType made.types
    by (Some refusal) is ok go = absurd (err_other refusal made (ap (λ o. rest (added o)) (sym is) ∙ ok))
    by None is ok go = go (with_type schema request) (ap (λ o. rest (added o)) (sym is) ∙ ok) (each_append IsSoundType schema.types (type_asked schema request ∷ []) each (asked_sound schema request is, tt))

-- how many fields a type was added with doesn't matter
sound_as : (types : List TypeDefinition) → Each IsSoundType (map at_once types) → Each IsSoundType types
sound_as [] each = tt
sound_as (t ∷ types) each = (record { names_differ = each.0.names_differ; has_key = each.0.has_key; number_fits = each.0.number_fits }, sound_as types each.1)

module _ (schema : Schema) (lawful : IsLawfulSchema schema) where
  pub types_sound : Each IsSoundType schema.types
  types_sound = sound_as schema.types (made_sound lawful.requests empty_schema (types_alone (map at_once schema.types)) lawful.types tt)

  each_index : Each (λ i. is_index schema.types i ≡ true) schema.indexes
  each_index = all_so schema.indexes (tested schema lawful.indexes).each
    where
      all_so : (is : List IndexDefinition) → list_all (is_index schema.types) is ≡ true → Each (λ i. is_index schema.types i ≡ true) is
      all_so [] e = tt
      all_so (i ∷ is) e = (first_so _ _ e, all_so is (second_so (is_index schema.types i) _ e))

  all_within : (n : ℕ) (places : List ℕ) → list_all (λ place. nat_lt place n) places ≡ true → Each (λ p. p < n) places
  all_within n [] e = tt
  all_within n (p ∷ places) e = (ltb-true p n (first_so _ _ e), all_within n places (second_so (nat_lt p n) _ e))

  -- the columns of an index are of its type's fields
  pub columns_within : (t : TypeDefinition) (i : IndexDefinition) → Member i schema.indexes → type_at schema.types i.type_number ≡ Some t → Each (λ p. p < length t.fields) i.columns
  columns_within t i m its =
      let good : is_index schema.types i ≡ true = each_member (λ j. is_index schema.types j ≡ true) each_index m in
      let over : is_index_over i t ≡ true = ap (λ o. option_map_or (is_index_over i) o false) (sym its) ∙ second_so _ _ good in
      all_within (length t.fields) i.columns (first_so _ _ (first_so _ (option_map_or (λ place. is_int (kind_at t.fields place)) i.summed true) over))
