-- An index that is added is one over its type, and a lawful schema with it is lawful.
use Rattle.std.proofs.Common.{◌≡◌, ◌≤◌, ◌<◌, ◌+◌, ℕ, Bool, true, false, not, cond, ◌&&◌, ◌||◌, ◌==◌, List, [], ◌∷◌, ◌++◌, Option, Some, None, Result, Ok, Err, length, refl, sym, ap, subst, ◌∙◌, arith, get_or}
use Rattle.std.specs.Prelude.{nat_eq, nat_le, nat_lt, is_some, find}
use Rattle.std.specs.List.{cons_option, list_all, list_any}
use Rattle.std.specs.Option.{option_map_or}
use Rattle.std.specs.Str.{bytes_eq}
use Rattle.std.proofs.lemmas.Bool.{le-leb, ltb-false, eqb-true, eqb-false, true≢false}
use Rattle.std.proofs.lemmas.List.{length-append, map-append}
use Rattle.std.proofs.lemmas.List.Folds.{list_all-append}
use Rattle.std.proofs.lemmas.List.Quantifiers.{position-Some}
use Rattle.std.proofs.lemmas.Slice.Eq.{bytes_eq-Decides}
use Rattle.metadata.specs.declared.cells.Kind.TheVariants as kind
use Rattle.metadata.specs.declared.definition.Field.{Field}
use Rattle.metadata.specs.declared.definition.TypeDefinition.{TypeDefinition}
use Rattle.metadata.specs.declared.index.IndexDefinition.{IndexDefinition}
use Rattle.metadata.specs.declared.index.IndexRequest.{IndexRequest}
use Rattle.metadata.specs.declared.refusal.Refusal.{Refusal}
use Rattle.metadata.specs.declared.refusal.Refusal.TheVariants.{BadName, NameTaken, UnknownField, WrongKind, BadSchema, TooMany}
use Rattle.metadata.specs.Change.{first_test_refusal, has_twice, has_unknown, is_name, places_of}
use Rattle.metadata.specs.IndexChange.{add_index, has_unknown_field, index_asked, index_over, is_int, is_shaped, name_refusal, over_refusal, place_summed, sums_other, with_index}
use Rattle.metadata.specs.Lawful.{IsLawfulSchema, is_index, is_index_over, is_rising_upto}
use Rattle.metadata.specs.Schema.{Schema, find_index, find_type, kind_at, place_of, type_at}
use Rattle.metadata.proofs.MadeSchemas.{AreNumbered, err_other, ok_same, turned}
use Rattle.metadata.proofs.KnownPlaces.{columns_known}
use Rattle.metadata.proofs.Grown.{lawful_numbered}
use Rattle.metadata.proofs.StayLawful.{rising_push, twice_push}
use Rattle.metadata.proofs.TestedIndexes.{Tested, good, numbers, tested}
use Rattle.metadata.proofs.ReadBack.{neither}

-- ---- the type of a number

found_above : (n : ℕ) (p : TypeDefinition → Bool) (types : List TypeDefinition) (type : TypeDefinition) → AreNumbered n types → find p types ≡ Some type → n < type.number
found_above n p [] type are is = absurd (true≢false (sym (ap is_some is)))
found_above n p (first ∷ types) type are is = by_test (p first) is (λ rest. let up = found_above (n + 1) p types type are.1 rest in omega (arith, up))
  where
    by_test : (b : Bool) → cond b (Some first) (find p types) ≡ Some type → (find p types ≡ Some type → n < type.number) → n < type.number
    by_test true found go = let same : first ≡ type = cc in let at : first.number ≡ n + 1 = are.0 in subst (λ (t : TypeDefinition). n < t.number) same (omega (arith, at))
    by_test false found go = go found

-- a type that is found is found by its number
pub found_by_number : (n : ℕ) (p : TypeDefinition → Bool) (types : List TypeDefinition) (type : TypeDefinition) → AreNumbered n types → find p types ≡ Some type → type_at types type.number ≡ Some type
found_by_number n p [] type are is = absurd (true≢false (sym (ap is_some is)))
found_by_number n p (first ∷ types) type are is = by_test (p first) is (λ rest. found_by_number (n + 1) p types type are.1 rest)
  where
    at : first.number ≡ n + 1
    at = are.0

    test_of : (b : Bool) → (first.number == type.number) ≡ b → type_at (first ∷ types) type.number ≡ cond b (Some first) (type_at types type.number)
    test_of b e = ap (λ c. cond c (Some first) (type_at types type.number)) e

    same_number : (b : Bool) → (first.number == type.number) ≡ b → first.number ≡ type.number → b ≡ true
    same_number true e same = refl
    same_number false e same = absurd (eqb-false first.number type.number e same)

    other_number : (b : Bool) → (first.number == type.number) ≡ b → (first.number ≡ type.number → ⊥) → b ≡ false
    other_number true e differ = absurd (differ (eqb-true first.number type.number e))
    other_number false e differ = refl

    by_test : (b : Bool) → cond b (Some first) (find p types) ≡ Some type → (find p types ≡ Some type → type_at types type.number ≡ Some type) → type_at (first ∷ types) type.number ≡ Some type
    by_test true found later =
        let same : first ≡ type = cc in
        test_of true (same_number (first.number == type.number) refl (ap (λ (t : TypeDefinition). t.number) same)) ∙ found
    by_test false found later =
        let up : n + 1 < type.number = found_above (n + 1) p types type are.1 found in
        test_of false (other_number (first.number == type.number) refl (λ same. omega (arith, at, same, up))) ∙ later found

-- ---- columns

-- a name whose place is that of one of the names is one of them
place_among : (fields : List Field) (name : List ℕ) (at : ℕ) (names : List (List ℕ)) → place_of fields name ≡ Some at → list_any (nat_eq at) (places_of fields names) ≡ true → list_any (bytes_eq name) names ≡ true
place_among fields name at [] is among = among
place_among fields name at (other ∷ names) is among = by_place (place_of fields other) refl among (place_among fields name at names is)
  where
    field_at : Field
    field_at = get_or fields at (record { name = []; kind = kind.Int })

    same_name : place_of fields other ≡ Some at → bytes_eq name other ≡ true
    same_name there =
        let mine = position-Some (λ (field : Field). bytes_eq field.name name) fields at (record { name = []; kind = kind.Int }) is in
        let others = position-Some (λ (field : Field). bytes_eq field.name other) fields at (record { name = []; kind = kind.Int }) there in
        (bytes_eq-Decides name other).1 (sym ((bytes_eq-Decides field_at.name name).0 mine.1) ∙ (bytes_eq-Decides field_at.name other).0 others.1)

    or_first : (a b : Bool) → a ≡ true → (a || b) ≡ true
    or_first true b h = refl
    or_first false b h = absurd (true≢false (sym h))

    or_later : (a b : Bool) → b ≡ true → (a || b) ≡ true
    or_later true b h = refl
    or_later false b h = h

    by_place : (place : Option ℕ) → place_of fields other ≡ place → list_any (nat_eq at) (cons_option place (places_of fields names)) ≡ true → (list_any (nat_eq at) (places_of fields names) ≡ true → list_any (bytes_eq name) names ≡ true) →
        list_any (bytes_eq name) (other ∷ names) ≡ true
    by_place None there found go = or_later (bytes_eq name other) (list_any (bytes_eq name) names) (go found)
    by_place (Some place) there found go = by_test (nat_eq at place) refl found
      where
        by_test : (b : Bool) → nat_eq at place ≡ b → (b || list_any (nat_eq at) (places_of fields names)) ≡ true → list_any (bytes_eq name) (other ∷ names) ≡ true
        by_test true e found_now = or_first (bytes_eq name other) (list_any (bytes_eq name) names) (same_name (there ∙ ap (λ n. Some n) (sym (eqb-true at place e))))
        by_test false e found_now = or_later (bytes_eq name other) (list_any (bytes_eq name) names) (go found_now)

-- different names have different places
columns_once : (fields : List Field) (names : List (List ℕ)) → has_twice bytes_eq names ≡ false → has_twice nat_eq (places_of fields names) ≡ false
columns_once fields [] once = refl
columns_once fields (name ∷ names) once = by_place (place_of fields name) refl (neither (list_any (bytes_eq name) names) (has_twice bytes_eq names) once).0 (columns_once fields names (neither (list_any (bytes_eq name) names) (has_twice bytes_eq names) once).1)
  where
    by_place : (place : Option ℕ) → place_of fields name ≡ place → list_any (bytes_eq name) names ≡ false → has_twice nat_eq (places_of fields names) ≡ false → has_twice nat_eq (cons_option place (places_of fields names)) ≡ false
    by_place None is alone rest = rest
    by_place (Some at) is alone rest = by_test (list_any (nat_eq at) (places_of fields names)) refl
      where
        by_test : (b : Bool) → list_any (nat_eq at) (places_of fields names) ≡ b → (b || has_twice nat_eq (places_of fields names)) ≡ false
        by_test true e = absurd (true≢false (sym (place_among fields name at names is e) ∙ alone))
        by_test false e = rest

-- ---- the summed field

summed_known : (fields : List Field) (summed : Option (List ℕ)) → option_map_or (λ name. not (is_some (place_of fields name))) summed false ≡ false → is_some (place_summed fields summed) ≡ is_some summed
summed_known fields None known = refl
summed_known fields (Some name) known = turned (is_some (place_of fields name)) known

summed_int : (fields : List Field) (summed : Option ℕ) → sums_other fields summed ≡ false → option_map_or (λ place. is_int (kind_at fields place)) summed true ≡ true
summed_int fields None is = refl
summed_int fields (Some place) is = turned (is_int (kind_at fields place)) is

-- ---- tests that refuse nothing

two_passed : (a b : Bool) → first_test_refusal ((a, BadName) ∷ (b, NameTaken) ∷ []) ≡ None → (a ≡ false) × (b ≡ false)
two_passed false false is = (refl, refl)
two_passed true b is = absurd (true≢false (ap is_some is))
two_passed false true is = absurd (true≢false (ap is_some is))

four_passed : (a b c d : Bool) → first_test_refusal ((a, UnknownField) ∷ (b, WrongKind) ∷ (c, BadSchema) ∷ (d, TooMany) ∷ []) ≡ None → (a ≡ false) × (b ≡ false) × (c ≡ false) × (d ≡ false)
four_passed false false false false is = (refl, refl, refl, refl)
four_passed true b c d is = absurd (true≢false (ap is_some is))
four_passed false true c d is = absurd (true≢false (ap is_some is))
four_passed false false true d is = absurd (true≢false (ap is_some is))
four_passed false false false true is = absurd (true≢false (ap is_some is))

none_found : {X : Type 0} (found : Option X) → is_some found ≡ false → found ≡ None
none_found None is = refl
none_found (Some x) is = absurd (true≢false is)

-- INDEX ADDED over a type
over_lawful : (schema : Schema) (request : IndexRequest) (type : TypeDefinition) → IsLawfulSchema schema → name_refusal schema request ≡ None → find_type schema request.type_name ≡ Some type → over_refusal schema type request ≡ None →
    IsLawfulSchema (with_index schema (index_asked schema type request))
over_lawful schema request type lawful names found over =
    record {
      requests = lawful.requests;
      types = lawful.types;
      grown = lawful.grown;
      indexes = good schema.types (schema.last_index + 1) (schema.indexes ++ index ∷ []) (record {
        last_is = le-leb (schema.last_index + 1) 65535 (omega (arith, below));
        rising = ap (is_rising_upto 0 (schema.last_index + 1)) (map-append (λ (i : IndexDefinition). i.number) schema.indexes (index ∷ []))
            ∙ rising_push 0 schema.last_index (schema.last_index + 1) (numbers schema.indexes) (omega arith) t.rising;
        few = le-leb (length (schema.indexes ++ index ∷ [])) 64 (let l : length (schema.indexes ++ index ∷ []) ≡ length schema.indexes + 1 = length-append schema.indexes (index ∷ []) in omega (arith, l, fewer));
        named = twice_push schema.indexes index t.named (none_found (find_index schema request.name) name.1);
        each = list_all-append (is_index schema.types) schema.indexes (index ∷ []) ∙ (λ i. t.each i && (is_one i && true));
      });
    }
  where
    index : IndexDefinition
    index = index_asked schema type request

    t : Tested schema.types schema.last_index schema.indexes
    t = tested schema lawful.indexes

    name : (not (is_name request.name) ≡ false) × (is_some (find_index schema request.name) ≡ false)
    name = two_passed _ _ names

    passed : (has_unknown_field type.fields request ≡ false) × (sums_other type.fields (place_summed type.fields request.summed) ≡ false)
        × ((not (is_shaped request.kind (length request.columns) (is_some request.summed) request.clear_when_zero) || has_twice bytes_eq request.columns) ≡ false)
        × ((nat_lt 63 (length schema.indexes) || nat_lt 8 (length request.columns) || nat_le 65535 schema.last_index) ≡ false)
    passed = four_passed _ _ _ _ over

    counts : ((nat_lt 63 (length schema.indexes) || nat_lt 8 (length request.columns)) ≡ false) × (nat_le 65535 schema.last_index ≡ false)
    counts = neither (nat_lt 63 (length schema.indexes) || nat_lt 8 (length request.columns)) (nat_le 65535 schema.last_index) passed.3

    fewer : length schema.indexes ≤ 63
    fewer = ltb-false 63 (length schema.indexes) (neither (nat_lt 63 (length schema.indexes)) (nat_lt 8 (length request.columns)) counts.0).0

    below : schema.last_index < 65535
    below = let up = ltb-false 65534 schema.last_index counts.1 in omega (arith, up)

    known : (has_unknown type.fields request.columns ≡ false) × (option_map_or (λ field. not (is_some (place_of type.fields field))) request.summed false ≡ false)
    known = neither (has_unknown type.fields request.columns) (option_map_or (λ field. not (is_some (place_of type.fields field))) request.summed false) passed.0

    columns : (length (places_of type.fields request.columns) ≡ length request.columns) × (list_all (λ place. nat_lt place (length type.fields)) (places_of type.fields request.columns) ≡ true)
    columns = columns_known type.fields request.columns known.0

    shape : (not (is_shaped request.kind (length request.columns) (is_some request.summed) request.clear_when_zero) ≡ false) × (has_twice bytes_eq request.columns ≡ false)
    shape = neither (not (is_shaped request.kind (length request.columns) (is_some request.summed) request.clear_when_zero)) (has_twice bytes_eq request.columns) passed.2

    eight : nat_le (length index.columns) 8 ≡ true
    eight = le-leb (length index.columns) 8 (let few = ltb-false 8 (length request.columns) (neither (nat_lt 63 (length schema.indexes)) (nat_lt 8 (length request.columns)) counts.0).1 in let same : length index.columns ≡ length request.columns = columns.0 in omega (arith, few, same))

    shaped : is_shaped index.kind (length index.columns) (is_some index.summed) index.clear_when_zero ≡ true
    shaped = (λ i. is_shaped request.kind (columns.0 i) (summed_known type.fields request.summed known.1 i) request.clear_when_zero) ∙ turned _ shape.0

    typed : type_at schema.types type.number ≡ Some type
    typed = found_by_number 0 (λ (one : TypeDefinition). bytes_eq one.name request.type_name) schema.types type (lawful_numbered schema lawful) found

    one_over : is_index_over index type ≡ true
    one_over = λ i. columns.1 i && not (columns_once type.fields request.columns shape.1 i) && summed_int type.fields (place_summed type.fields request.summed) passed.1 i

    is_one : is_index schema.types index ≡ true
    is_one = (λ i. turned (is_name request.name) name.0 i && eight i && shaped i && option_map_or (is_index_over index) (typed i) false) ∙ one_over

-- INDEX ADDED
pub index_lawful : (schema next : Schema) (request : IndexRequest) → IsLawfulSchema schema → add_index schema request ≡ Ok next → IsLawfulSchema next
index_lawful schema next request lawful added = by_name (name_refusal schema request) refl added
  where
    joined : Result IndexDefinition Refusal → Result Schema Refusal
    joined outcome = elim outcome [ Ok index ↦ Ok (with_index schema index) | Err refusal ↦ Err refusal ]

    by_over : (type : TypeDefinition) (why : Option Refusal) → name_refusal schema request ≡ None → find_type schema request.type_name ≡ Some type → over_refusal schema type request ≡ why →
        joined (elim why [ None ↦ Ok (index_asked schema type request) | Some refusal ↦ Err refusal ]) ≡ Ok next → IsLawfulSchema next
    by_over type None names found over is = subst IsLawfulSchema (ok_same (with_index schema (index_asked schema type request)) next is) (over_lawful schema request type lawful names found over)
    by_over type (Some refusal) names found over is = absurd (err_other _ next is)

    by_type : (found : Option TypeDefinition) → name_refusal schema request ≡ None → find_type schema request.type_name ≡ found → joined (index_over schema request found) ≡ Ok next → IsLawfulSchema next
    by_type None names found is = absurd (err_other _ next is)
    by_type (Some type) names found is = by_over type (over_refusal schema type request) names found refl is

    by_name : (why : Option Refusal) → name_refusal schema request ≡ why →
        joined (elim why [ None ↦ index_over schema request (find_type schema request.type_name) | Some refusal ↦ Err refusal ]) ≡ Ok next → IsLawfulSchema next
    by_name (Some refusal) names is = absurd (err_other _ next is)
    by_name None names is = by_type (find_type schema request.type_name) names refl is
