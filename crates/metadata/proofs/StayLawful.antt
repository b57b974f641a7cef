-- What calls make of a lawful schema is lawful: types and indexes that are added, and indexes that are dropped.
use Rattle.std.proofs.Common.{◌≡◌, ◌≤◌, ◌<◌, ℕ, Bool, true, false, not, cond, ◌&&◌, ◌||◌, ◌==◌, List, [], ◌∷◌, ◌++◌, Option, Some, None, Result, Ok, Err, length, map, refl, sym, ap, subst, ◌∙◌, arith}
use Rattle.std.specs.Prelude.{nat_le, nat_lt, is_some, find, filter}
use Rattle.std.specs.List.{list_all, list_any}
use Rattle.std.specs.Option.{option_map_or, option_or}
use Rattle.std.specs.Str.{bytes_eq}
use Rattle.std.proofs.lemmas.Bool.{leb-true, le-leb, lt-ltb, ltb-true, true≢false}
use Rattle.std.proofs.lemmas.List.{map-append}
use Rattle.std.proofs.lemmas.List.Folds.{find-append, list_all-append, list_any-append}
use Rattle.metadata.specs.declared.definition.TypeDefinition.{TypeDefinition}
use Rattle.metadata.specs.declared.definition.TypeRequest.{TypeRequest}
use Rattle.metadata.specs.declared.index.IndexDefinition.{IndexDefinition}
use Rattle.metadata.specs.declared.refusal.Refusal.{Refusal}
use Rattle.metadata.specs.Change.{add_type, add_types, has_twice, is_name, schema_of, type_asked, type_refusal, types_alone, with_type}
use Rattle.metadata.specs.IndexChange.{drop_index, is_shaped, without_index}
use Rattle.metadata.specs.Lawful.{IsLawfulSchema, at_once, has_good_indexes, is_grown, is_index, is_index_over, is_rising_upto, same_index}
use Rattle.metadata.specs.Schema.{Schema, find_index, type_at}
use Rattle.metadata.proofs.Alike.{asked-alike, names-at_once, refusal-alike, type_names}
use Rattle.metadata.proofs.MadeSchemas.{asked_grown, err_other, made_alone, made_grown, made_whole, ok_same, passed}
use Rattle.metadata.proofs.ReadBack.{neither}
use Rattle.metadata.proofs.TestedIndexes.{good, numbers, tested}
use Rattle.metadata.proofs.WrittenItems.{both}

-- ---- types

pub made_lawful : (requests : List TypeRequest) (schema : Schema) → schema_of requests ≡ Ok schema → IsLawfulSchema schema
made_lawful requests schema made =
    let alone = made_alone schema requests made in
    record {
      requests = requests;
      types = made ∙ ap Ok (alone ∙ ap types_alone (sym (made_whole schema requests made)));
      grown = made_grown schema requests made;
      indexes = ap has_good_indexes alone;
    }

-- one more request
added_behind : (schema mid next : Schema) (before : List TypeRequest) (request : TypeRequest) → add_types schema before ≡ Ok mid → add_type mid request ≡ Ok next → add_types schema (before ++ request ∷ []) ≡ Ok next
added_behind schema mid next [] request made added =
    ap (λ (s : Schema). elim (add_type s request) [ Err refusal ↦ Err refusal | Ok found ↦ Ok found ]) (ok_same schema mid made) ∙ ap (λ (r : Result Schema Refusal). elim r [ Err refusal ↦ Err refusal | Ok found ↦ Ok found ]) added
added_behind schema mid next (first ∷ before) request made added = by_first (add_type schema first) made (λ s is. added_behind s mid next before request is added)
  where
    by_first : (outcome : Result Schema Refusal) → ◌≡◌ {A = Result Schema Refusal} (elim outcome [ Err refusal ↦ Err refusal | Ok s ↦ add_types s before ]) (Ok mid) →
        ((s : Schema) → add_types s before ≡ Ok mid → add_types s (before ++ request ∷ []) ≡ Ok next) →
        ◌≡◌ {A = Result Schema Refusal} (elim outcome [ Err refusal ↦ Err refusal | Ok s ↦ add_types s (before ++ request ∷ []) ]) (Ok next)
    by_first (Err refusal) is go = absurd (err_other refusal mid is)
    by_first (Ok s) is go = go s is

-- an index stays one with more types
index_more : (types more : List TypeDefinition) (index : IndexDefinition) → is_index types index ≡ true → is_index (types ++ more) index ≡ true
index_more types more index is = by_found (type_at types index.type_number) refl is
  where
    before : Bool
    before = is_name index.name && nat_le (length index.columns) 8 && is_shaped index.kind (length index.columns) (is_some index.summed) index.clear_when_zero

    by_found : (found : Option TypeDefinition) → type_at types index.type_number ≡ found → is_index types index ≡ true → is_index (types ++ more) index ≡ true
    by_found None none there =
        let no : false ≡ true = sym (ap (λ o. option_map_or (is_index_over index) o false) none) ∙ (both _ (option_map_or (is_index_over index) (type_at types index.type_number) false) there).1 in absurd (true≢false (sym no))
    by_found (Some type) some there =
        let same : type_at (types ++ more) index.type_number ≡ type_at types index.type_number =
        find-append (λ (t : TypeDefinition). t.number == index.type_number) types more ∙ ap (λ o. option_or o (type_at more index.type_number)) some ∙ sym some in
        ap (λ o. before && option_map_or (is_index_over index) o false) same ∙ there

indexes_more : (types more : List TypeDefinition) (indexes : List IndexDefinition) → list_all (is_index types) indexes ≡ true → list_all (is_index (types ++ more)) indexes ≡ true
indexes_more types more [] is = refl
indexes_more types more (index ∷ indexes) is =
    let parts = both (is_index types index) (list_all (is_index types) indexes) is in
    λ i. index_more types more index parts.0 i && indexes_more types more indexes parts.1 i

-- TYPE ADDED
pub type_lawful : (schema next : Schema) (request : TypeRequest) → IsLawfulSchema schema → add_type schema request ≡ Ok next → IsLawfulSchema next
type_lawful schema next request lawful added = by_refusal (type_refusal schema request) refl added
  where
    later : List TypeDefinition
    later = schema.types ++ type_asked schema request ∷ []

    whole : Schema
    whole = types_alone (map at_once schema.types)

    same : type_names whole.types ≡ type_names schema.types
    same = names-at_once schema.types

    more : (map at_once schema.types ++ type_asked whole request ∷ []) ≡ map at_once later
    more = (λ i. map at_once schema.types ++ asked-alike whole schema request same i ∷ []) ∙ sym (map-append at_once schema.types (type_asked schema request ∷ []))

    by_refusal : (why : Option Refusal) → type_refusal schema request ≡ why → ◌≡◌ {A = Result Schema Refusal} (elim why [ None ↦ Ok (with_type schema request) | Some refusal ↦ Err refusal ]) (Ok next) → IsLawfulSchema next
    by_refusal (Some refusal) is made = absurd (err_other refusal next made)
    by_refusal None is made =
        let t = tested schema lawful.indexes in
        let now : with_type schema request ≡ next = ok_same (with_type schema request) next made in
        subst IsLawfulSchema now (record {
          requests = lawful.requests ++ request ∷ [];
          types = added_behind (types_alone []) whole (types_alone (map at_once later)) lawful.requests request lawful.types
              (ap (λ o. elim o [ None ↦ Ok (with_type whole request) | Some refusal ↦ Err refusal ]) (refusal-alike whole schema request same ∙ is) ∙ ap (λ ts. Ok (types_alone ts)) more);
          grown = list_all-append is_grown schema.types (type_asked schema request ∷ []) ∙ (λ i. lawful.grown i && (asked_grown schema request (passed schema request is) i && true));
          indexes = good later schema.last_index schema.indexes (record {
            last_is = t.last_is;
            rising = t.rising;
            few = t.few;
            named = t.named;
            each = indexes_more schema.types (type_asked schema request ∷ []) schema.indexes t.each;
          });
        })

-- ---- an index dropped

rising_lower : (low lower high : ℕ) (ns : List ℕ) → lower ≤ low → is_rising_upto low high ns ≡ true → is_rising_upto lower high ns ≡ true
rising_lower low lower high [] below is = let up = leb-true low high is in le-leb lower high (omega (arith, below, up))
rising_lower low lower high (n ∷ ns) below is =
    let parts = both (nat_lt low n) (is_rising_upto n high ns) is in
    let up = ltb-true low n parts.0 in
    λ i. lt-ltb lower n (omega (arith, below, up)) i && parts.1 i

rising_filter : (test : IndexDefinition → Bool) (low high : ℕ) (indexes : List IndexDefinition) → is_rising_upto low high (numbers indexes) ≡ true → is_rising_upto low high (numbers (filter test indexes)) ≡ true
rising_filter test low high [] is = is
rising_filter test low high (index ∷ indexes) is =
    let parts = both (nat_lt low index.number) (is_rising_upto index.number high (numbers indexes)) is in
    let up = ltb-true low index.number parts.0 in
    by_test (test index) (rising_filter test index.number high indexes parts.1) parts.0
    (rising_lower index.number low high (numbers (filter test indexes)) (omega (arith, up)) (rising_filter test index.number high indexes parts.1))
  where
    by_test : (b : Bool) → is_rising_upto index.number high (numbers (filter test indexes)) ≡ true → nat_lt low index.number ≡ true → is_rising_upto low high (numbers (filter test indexes)) ≡ true →
        is_rising_upto low high (numbers (cond b (index ∷ filter test indexes) (filter test indexes))) ≡ true
    by_test true rest up without = λ i. up i && rest i
    by_test false rest up without = without

any_filter : {X : Type 0} (p test : X → Bool) (xs : List X) → list_any p xs ≡ false → list_any p (filter test xs) ≡ false
any_filter p test [] none = refl
any_filter p test (x ∷ xs) none = by_test (test x) (neither (p x) (list_any p xs) none) (any_filter p test xs (neither (p x) (list_any p xs) none).1)
  where
    by_test : (b : Bool) → (p x ≡ false) × (list_any p xs ≡ false) → list_any p (filter test xs) ≡ false → list_any p (cond b (x ∷ filter test xs) (filter test xs)) ≡ false
    by_test true parts rest = λ i. parts.0 i || rest i
    by_test false parts rest = rest

twice_filter : {X : Type 0} (same : X → X → Bool) (test : X → Bool) (xs : List X) → has_twice same xs ≡ false → has_twice same (filter test xs) ≡ false
twice_filter same test [] none = refl
twice_filter same test (x ∷ xs) none = by_test (test x) (any_filter (same x) test xs (neither (list_any (same x) xs) (has_twice same xs) none).0) (twice_filter same test xs (neither (list_any (same x) xs) (has_twice same xs) none).1)
  where
    by_test : (b : Bool) → list_any (same x) (filter test xs) ≡ false → has_twice same (filter test xs) ≡ false → has_twice same (cond b (x ∷ filter test xs) (filter test xs)) ≡ false
    by_test true one rest = λ i. one i || rest i
    by_test false one rest = rest

all_filter : {X : Type 0} (p test : X → Bool) (xs : List X) → list_all p xs ≡ true → list_all p (filter test xs) ≡ true
all_filter p test [] all = refl
all_filter p test (x ∷ xs) all = by_test (test x) (both (p x) (list_all p xs) all).0 (all_filter p test xs (both (p x) (list_all p xs) all).1)
  where
    by_test : (b : Bool) → p x ≡ true → list_all p (filter test xs) ≡ true → list_all p (cond b (x ∷ filter test xs) (filter test xs)) ≡ true
    by_test true one rest = λ i. one i && rest i
    by_test false one rest = rest

fewer_filter : {X : Type 0} (test : X → Bool) (xs : List X) → length (filter test xs) ≤ length xs
fewer_filter test [] = omega arith
fewer_filter test (x ∷ xs) = by_test (test x) (fewer_filter test xs)
  where
    by_test : (b : Bool) → length (filter test xs) ≤ length xs → length (cond b (x ∷ filter test xs) (filter test xs)) ≤ length (x ∷ xs)
    by_test true rest = omega (arith, rest)
    by_test false rest = omega (arith, rest)

-- INDEX DROPPED
pub dropped_lawful : (schema next : Schema) (name : List ℕ) → IsLawfulSchema schema → drop_index schema name ≡ Ok next → IsLawfulSchema next
dropped_lawful schema next name lawful dropped = by_found (find_index schema name) dropped
  where
    by_found : (found : Option IndexDefinition) → ◌≡◌ {A = Result Schema Refusal} (elim found [ Some index ↦ Ok (without_index schema index.number) | None ↦ Err Rattle.metadata.specs.declared.refusal.Refusal.TheVariants.UnknownIndex ]) (Ok next) → IsLawfulSchema next
    by_found None is = absurd (err_other _ next is)
    by_found (Some index) is =
        let test : IndexDefinition → Bool = λ (other : IndexDefinition). not (other.number == index.number) in
        let t = tested schema lawful.indexes in
        let fewer = fewer_filter test schema.indexes in
        let few = leb-true (length schema.indexes) 64 t.few in
        subst IsLawfulSchema (ok_same (without_index schema index.number) next is) (record {
          requests = lawful.requests;
          types = lawful.types;
          grown = lawful.grown;
          indexes = good schema.types schema.last_index (filter test schema.indexes) (record {
            last_is = t.last_is;
            rising = rising_filter test 0 schema.last_index schema.indexes t.rising;
            few = le-leb (length (filter test schema.indexes)) 64 (omega (arith, fewer, few));
            named = twice_filter same_index test schema.indexes t.named;
            each = all_filter (is_index schema.types) test schema.indexes t.each;
          });
        })

-- ---- an index added

-- numbers of types are not below their places, and rise
pub rising_push : (low high next : ℕ) (ns : List ℕ) → high < next → is_rising_upto low high ns ≡ true → is_rising_upto low next (ns ++ next ∷ []) ≡ true
rising_push low high next [] above is = let up = leb-true low high is in λ i. lt-ltb low next (omega (arith, above, up)) i && le-leb next next (omega arith) i
rising_push low high next (n ∷ ns) above is =
    let parts = both (nat_lt low n) (is_rising_upto n high ns) is in λ i. parts.0 i && rising_push n high next ns above parts.1 i

-- no name of a list is that of one more
pub twice_push : (indexes : List IndexDefinition) (index : IndexDefinition) → has_twice same_index indexes ≡ false → find (λ (other : IndexDefinition). bytes_eq other.name index.name) indexes ≡ None →
    has_twice same_index (indexes ++ index ∷ []) ≡ false
twice_push [] index none unknown = refl
twice_push (first ∷ indexes) index none unknown = by_test (bytes_eq first.name index.name) refl unknown (λ rest. twice_push indexes index parts.1 rest)
  where
    parts : (list_any (same_index first) indexes ≡ false) × (has_twice same_index indexes ≡ false)
    parts = neither (list_any (same_index first) indexes) (has_twice same_index indexes) none

    by_test : (b : Bool) → bytes_eq first.name index.name ≡ b → ◌≡◌ {A = Option IndexDefinition} (cond b (Some first) (find (λ (other : IndexDefinition). bytes_eq other.name index.name) indexes)) None →
        (find (λ (other : IndexDefinition). bytes_eq other.name index.name) indexes ≡ None → has_twice same_index (indexes ++ index ∷ []) ≡ false) →
        has_twice same_index ((first ∷ indexes) ++ index ∷ []) ≡ false
    by_test true is found go = absurd (true≢false (ap is_some found))
    by_test false is found go =
        (λ i. list_any-append (same_index first) indexes (index ∷ []) i || go found i)
        ∙ (λ i. (parts.0 i || (is i || false)) || false)
