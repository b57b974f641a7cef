-- A lawful schema with a field appended to one of its types is lawful.
use Rattle.std.proofs.Common.{◌≡◌, ◌≤◌, ◌<◌, ◌+◌, ℕ, Bool, true, false, not, cond, ◌&&◌, ◌==◌, zero, suc, List, [], ◌∷◌, ◌++◌, Option, Some, None, Result, Ok, Err, length, map, refl, sym, ap, subst, ◌∙◌, arith}
use Rattle.std.specs.Prelude.{find, is_some, nat_le, nat_lt, slice_get}
use Rattle.std.specs.List.{list_all}
use Rattle.std.specs.Option.{option_map, option_map_or}
use Rattle.std.specs.Str.{bytes_eq}
use Rattle.std.proofs.lemmas.Bool.{le-leb, leb-true, lt-ltb, ltb-false, ltb-true, true≢false}
use Rattle.std.proofs.lemmas.List.{append_assoc, append-nil, length-append, map-append}
use Rattle.metadata.specs.declared.definition.Field.{Field}
use Rattle.metadata.specs.declared.definition.TypeDefinition.{TypeDefinition}
use Rattle.metadata.specs.declared.definition.TypeRequest.{TypeRequest}
use Rattle.metadata.specs.declared.index.IndexDefinition.{IndexDefinition}
use Rattle.metadata.specs.declared.refusal.Refusal.{Refusal}
use Rattle.metadata.specs.declared.refusal.Refusal.TheVariants.{BadName, NameTaken, TooMany, UnknownType}
use Rattle.metadata.specs.Change.{add_field, add_types, append_refusal, appended, appended_at, empty_schema, field_refusal, first_test_refusal, has_twice, is_name, type_asked, type_refusal, types_alone, with_field, with_type}
use Rattle.metadata.specs.IndexChange.{is_int}
use Rattle.metadata.specs.Lawful.{IsLawfulSchema, at_once, is_grown, is_index, is_index_over}
use Rattle.metadata.specs.Schema.{Schema, find_type, kind_at, place_of, type_at}
use Rattle.metadata.proofs.Alike.{asked-alike, refusal-alike, type_names}
use Rattle.metadata.proofs.FieldAsked.{places-push, refusal-push, with_one}
use Rattle.metadata.proofs.IndexItems.{place_low}
use Rattle.metadata.proofs.MadeSchemas.{err_other, ok_same}
use Rattle.metadata.proofs.TestedIndexes.{good, tested}
use Rattle.metadata.proofs.WrittenItems.{both}

-- ---- lists

-- what stands behind the same first elements is the same
behind : {X : Type 0} (xs ys zs : List X) → xs ++ ys ≡ xs ++ zs → ys ≡ zs
behind [] ys zs same = same
behind (x ∷ xs) ys zs same = behind xs ys zs (let rest : xs ++ ys ≡ xs ++ zs = cc in rest)

-- ---- requests that go on

-- the outcome of a request and of those after it
abbrev outcome : Schema → TypeRequest → List TypeRequest → Option Refusal → Result Schema Refusal
outcome s request requests why =
    let made : Result Schema Refusal = elim why [ None ↦ Ok (with_type s request) | Some refusal ↦ Err refusal ] in
    elim made [ Err refusal ↦ Err refusal | Ok next ↦ add_types next requests ]

-- what requests make of a schema they make of another one whose types have the same names
abbrev GoesOn : Schema → Schema → Schema → List TypeRequest → Type 0
GoesOn s t end requests = (more : List TypeDefinition) × (end.types ≡ s.types ++ more) × (add_types t requests ≡ Ok (record t { types = t.types ++ more }))

goes_on : (s t end : Schema) (requests : List TypeRequest) → type_names s.types ≡ type_names t.types → add_types s requests ≡ Ok end → GoesOn s t end requests
goes_on s t end [] same made = (
  [],
  ap (λ (x : Schema). x.types) (sym (ok_same s end made)) ∙ sym (append-nil s.types),
  ap (λ ts. Ok (record t { types = ts })) (sym (append-nil t.types)),
)
goes_on s t end (request ∷ requests) same made = by_refusal (type_refusal s request) refl made (goes_on (with_type s request) (with_type t request) end requests more)
  where
    one : TypeDefinition
    one = type_asked s request

    same_one : type_asked t request ≡ one
    same_one = asked-alike t s request (sym same)

    more : type_names (with_type s request).types ≡ type_names (with_type t request).types
    more =
        map-append (λ (type : TypeDefinition). type.name) s.types (one ∷ []) ∙ (λ i. same i ++ request.name ∷ [])
        ∙ sym (map-append (λ (type : TypeDefinition). type.name) t.types (type_asked t request ∷ []))

    by_refusal : (why : Option Refusal) → type_refusal s request ≡ why → outcome s request requests why ≡ Ok end →
        (add_types (with_type s request) requests ≡ Ok end → GoesOn (with_type s request) (with_type t request) end requests) → GoesOn s t end (request ∷ requests)
    by_refusal (Some refusal) is made go = absurd (err_other refusal end made)
    by_refusal None is made go =
        let rest = go made in (
          one ∷ rest.0,
          rest.1 ∙ append_assoc s.types (one ∷ []) rest.0,
          ap (outcome t request requests) (refusal-alike t s request (sym same) ∙ is) ∙ rest.2
              ∙ ap (λ ts. Ok (record t { types = ts })) (append_assoc t.types (type_asked t request ∷ []) rest.0 ∙ (λ i. t.types ++ same_one i ∷ rest.0)),
        )

-- ---- the chain of requests with a field more

-- other requests make the types with a field appended
abbrev Appends : Schema → List TypeDefinition → List ℕ → Field → Type 0
Appends s grown name field = (others : List TypeRequest) × (add_types s others ≡ Ok (record s { types = s.types ++ map at_once (appended_at name field grown) }))

-- what the later requests make of later types
abbrev Later : Schema → Schema → List TypeRequest → List ℕ → TypeDefinition → Field → Type 0
Later next end requests name type field =
    (gs : List TypeDefinition) → find (λ (own : TypeDefinition). bytes_eq own.name name) gs ≡ Some type → add_types next requests ≡ Ok end → end.types ≡ next.types ++ map at_once gs → Appends next gs name field

none_there : (s end : Schema) (grown : List TypeDefinition) → end.types ≡ s.types → end.types ≡ s.types ++ map at_once grown → grown ≡ []
none_there s end [] same is = refl
none_there s end (type ∷ grown) same is =
    let count : length (s.types ++ map at_once (type ∷ grown)) ≡ length s.types + length (map at_once (type ∷ grown)) = length-append s.types (map at_once (type ∷ grown)) in
    let lengths : length s.types ≡ length (s.types ++ map at_once (type ∷ grown)) = ap length (sym same ∙ is) in
    absurd (omega (arith, count, lengths))

appends : (s end : Schema) (requests : List TypeRequest) (grown : List TypeDefinition) (name : List ℕ) (type : TypeDefinition) (field : Field) → is_name field.name ≡ true →
    is_some (place_of type.fields field.name) ≡ false → length type.fields ≤ 31 → find (λ (own : TypeDefinition). bytes_eq own.name name) grown ≡ Some type → add_types s requests ≡ Ok end →
    end.types ≡ s.types ++ map at_once grown → Appends s grown name field
appends s end [] grown name type field named fresh few found made is =
    let none = none_there s end grown (ap (λ (x : Schema). x.types) (sym (ok_same s end made))) is in
    absurd (true≢false (sym (ap is_some found) ∙ ap (λ ts. is_some (find (λ (own : TypeDefinition). bytes_eq own.name name) ts)) none))
appends s end (request ∷ requests) grown name type field named fresh few found made is =
    by_refusal (type_refusal s request) refl made (λ gs found_later made_later is_later. appends (with_type s request) end requests gs name type field named fresh few found_later made_later is_later)
  where
    one : TypeDefinition
    one = type_asked s request

    next : Schema
    next = with_type s request

    -- the type is that of this request
    here : (g : TypeDefinition) (gs : List TypeDefinition) → g ≡ type → at_once g ≡ one → type_refusal s request ≡ None → add_types next requests ≡ Ok end → end.types ≡ next.types ++ map at_once gs →
        (others : List TypeRequest) × (add_types s others ≡ Ok (record s { types = s.types ++ at_once (appended g field) ∷ map at_once gs }))
    here g gs same asked none made is =
        let fields : g.fields ≡ request.fields = ap (λ (t : TypeDefinition). t.fields) asked in
        let own_fields : request.fields ≡ type.fields = sym fields ∙ ap (λ (t : TypeDefinition). t.fields) same in
        let again = refusal-push s request field none named (ap (λ fs. is_some (place_of fs field.name)) own_fields ∙ fresh) (subst (λ fs. length fs ≤ 31) (sym own_fields) few) in
        let names : type_names next.types ≡ type_names (with_type s (with_one request field)).types =
        map-append (λ (t : TypeDefinition). t.name) s.types (one ∷ []) ∙ sym (map-append (λ (t : TypeDefinition). t.name) s.types (type_asked s (with_one request field) ∷ [])) in
        let rest = goes_on next (with_type s (with_one request field)) end requests names made in
        let more : rest.0 ≡ map at_once gs = behind next.types rest.0 (map at_once gs) (sym rest.1 ∙ is) in
        let grown_one : type_asked s (with_one request field) ≡ at_once (appended g field) =
        λ i. record {
          number = sym (ap (λ (t : TypeDefinition). t.number) asked) i;
          name = sym (ap (λ (t : TypeDefinition). t.name) asked) i;
          fields = sym fields i ++ field ∷ [];
          key = (places-push s request field none ∙ sym (ap (λ (t : TypeDefinition). t.key) asked)) i;
          first_fields = length (sym fields i ++ field ∷ []);
        } in (
          with_one request field ∷ requests,
          ap (outcome s (with_one request field) requests) again ∙ rest.2
              ∙ ap (λ ts. Ok (record s { types = ts })) (append_assoc s.types (type_asked s (with_one request field) ∷ []) rest.0 ∙ (λ i. s.types ++ grown_one i ∷ more i)),
        )

    by_name : (g : TypeDefinition) (gs : List TypeDefinition) (b : Bool) → bytes_eq g.name name ≡ b → ◌≡◌ {A = Option TypeDefinition} (cond b (Some g) (find (λ (own : TypeDefinition). bytes_eq own.name name) gs)) (Some type) →
        at_once g ≡ one → type_refusal s request ≡ None → add_types next requests ≡ Ok end → end.types ≡ next.types ++ map at_once gs → Later next end requests name type field →
        (others : List TypeRequest) × (add_types s others ≡ Ok (record s { types = s.types ++ map at_once (cond b (appended g field ∷ gs) (g ∷ appended_at name field gs)) }))
    by_name g gs true test found asked none made is later = here g gs (let same : g ≡ type = cc in same) asked none made is
    by_name g gs false test found asked none made is later =
        let rest = later gs found made is in (
          request ∷ rest.0,
          ap (outcome s request rest.0) none ∙ rest.1
              ∙ ap (λ ts. Ok (record s { types = ts })) (append_assoc s.types (one ∷ []) (map at_once (appended_at name field gs)) ∙ (λ i. s.types ++ sym asked i ∷ map at_once (appended_at name field gs))),
        )

    by_grown : (gs : List TypeDefinition) → find (λ (own : TypeDefinition). bytes_eq own.name name) gs ≡ Some type → type_refusal s request ≡ None → add_types next requests ≡ Ok end → end.types ≡ s.types ++ map at_once gs → Later next end requests name type field →
        Appends s gs name field
    by_grown [] found none made is later = absurd (true≢false (sym (ap is_some found)))
    by_grown (g ∷ gs) found none made is later =
        let rest = goes_on next next end requests refl made in
        let all : at_once g ∷ map at_once gs ≡ one ∷ rest.0 = behind s.types (at_once g ∷ map at_once gs) (one ∷ rest.0) (sym is ∙ rest.1 ∙ append_assoc s.types (one ∷ []) rest.0) in
        let asked : at_once g ≡ one = cc in
        let others : map at_once gs ≡ rest.0 = cc in
        by_name g gs (bytes_eq g.name name) refl found asked none made (rest.1 ∙ ap (λ ts. next.types ++ ts) (sym others)) later

    by_refusal : (why : Option Refusal) → type_refusal s request ≡ why → outcome s request requests why ≡ Ok end → Later next end requests name type field → Appends s grown name field
    by_refusal (Some refusal) none made later = absurd (err_other refusal end made)
    by_refusal None none made later = by_grown grown found none made is later

-- ---- the types and the indexes

grown_appended : (type : TypeDefinition) (field : Field) → is_grown type ≡ true → is_grown (appended type field) ≡ true
grown_appended type field is =
    let parts = both (nat_le type.first_fields (length type.fields)) (list_all (λ place. nat_lt place type.first_fields) type.key) is in
    let low = leb-true type.first_fields (length type.fields) parts.0 in
    let longer : length (type.fields ++ field ∷ []) ≡ length type.fields + 1 = length-append type.fields (field ∷ []) in
    λ i. le-leb type.first_fields (length (type.fields ++ field ∷ [])) (omega (arith, low, longer)) i && parts.1 i

all_grown : (name : List ℕ) (field : Field) (types : List TypeDefinition) → list_all is_grown types ≡ true → list_all is_grown (appended_at name field types) ≡ true
all_grown name field [] is = refl
all_grown name field (type ∷ types) is =
    let parts = both (is_grown type) (list_all is_grown types) is in
    by_name (bytes_eq type.name name) parts.0 parts.1 (all_grown name field types parts.1)
  where
    by_name : (b : Bool) → is_grown type ≡ true → list_all is_grown types ≡ true → list_all is_grown (appended_at name field types) ≡ true →
        list_all is_grown (cond b (appended type field ∷ types) (type ∷ appended_at name field types)) ≡ true
    by_name true one others later = λ i. grown_appended type field one i && others i
    by_name false one others later = λ i. one i && later i

more_places : (count more : ℕ) (places : List ℕ) → count ≤ more → list_all (λ place. nat_lt place count) places ≡ true → list_all (λ place. nat_lt place more) places ≡ true
more_places count more [] up is = refl
more_places count more (place ∷ places) up is =
    let parts = both (nat_lt place count) (list_all (λ place. nat_lt place count) places) is in
    let low = ltb-true place count parts.0 in
    λ i. lt-ltb place more (omega (arith, low, up)) i && more_places count more places up parts.1 i

get-front : {X : Type 0} (xs ys : List X) (place : ℕ) → place < length xs → slice_get (xs ++ ys) place ≡ slice_get xs place
get-front [] ys place low = absurd (omega (arith, low))
get-front (x ∷ xs) ys zero low = refl
get-front (x ∷ xs) ys (suc place) low = get-front xs ys place (omega (arith, low))

summed_more : (fields : List Field) (field : Field) (summed : Option ℕ) → option_map_or (λ place. is_int (kind_at fields place)) summed true ≡ true →
    option_map_or (λ place. is_int (kind_at (fields ++ field ∷ []) place)) summed true ≡ true
summed_more fields field None is = refl
summed_more fields field (Some place) is =
    ap (λ found. is_int (option_map (λ (own : Field). own.kind) found)) (get-front fields (field ∷ []) place (place_low fields place is)) ∙ is

over_more : (index : IndexDefinition) (type : TypeDefinition) (field : Field) → is_index_over index type ≡ true → is_index_over index (appended type field) ≡ true
over_more index type field is =
    let outer = both _ (option_map_or (λ place. is_int (kind_at type.fields place)) index.summed true) is in
    let inner = both (list_all (λ place. nat_lt place (length type.fields)) index.columns) (not (has_twice Rattle.std.specs.Prelude.nat_eq index.columns)) outer.0 in
    let longer : length (type.fields ++ field ∷ []) ≡ length type.fields + 1 = length-append type.fields (field ∷ []) in
    λ i. more_places (length type.fields) (length (type.fields ++ field ∷ [])) index.columns (omega (arith, longer)) inner.0 i && inner.1 i && summed_more type.fields field index.summed outer.1 i

over_found : (name : List ℕ) (field : Field) (index : IndexDefinition) (types : List TypeDefinition) → option_map_or (is_index_over index) (type_at types index.type_number) false ≡ true →
    option_map_or (is_index_over index) (type_at (appended_at name field types) index.type_number) false ≡ true
over_found name field index [] is = is
over_found name field index (type ∷ types) is = by_name (bytes_eq type.name name) is (over_found name field index types)
  where
    there : (n : Bool) → option_map_or (is_index_over index) (cond n (Some type) (type_at types index.type_number)) false ≡ true →
        option_map_or (is_index_over index) (cond n (Some (appended type field)) (type_at types index.type_number)) false ≡ true
    there true is = over_more index type field is
    there false is = is

    other : (n : Bool) → option_map_or (is_index_over index) (cond n (Some type) (type_at types index.type_number)) false ≡ true →
        (option_map_or (is_index_over index) (type_at types index.type_number) false ≡ true → option_map_or (is_index_over index) (type_at (appended_at name field types) index.type_number) false ≡ true) →
        option_map_or (is_index_over index) (cond n (Some type) (type_at (appended_at name field types) index.type_number)) false ≡ true
    other true is go = is
    other false is go = go is

    by_name : (b : Bool) → option_map_or (is_index_over index) (type_at (type ∷ types) index.type_number) false ≡ true →
        (option_map_or (is_index_over index) (type_at types index.type_number) false ≡ true → option_map_or (is_index_over index) (type_at (appended_at name field types) index.type_number) false ≡ true) →
        option_map_or (is_index_over index) (type_at (cond b (appended type field ∷ types) (type ∷ appended_at name field types)) index.type_number) false ≡ true
    by_name true is go = there (type.number == index.type_number) is
    by_name false is go = other (type.number == index.type_number) is go

indexes_grow : (name : List ℕ) (field : Field) (types : List TypeDefinition) (indexes : List IndexDefinition) → list_all (is_index types) indexes ≡ true → list_all (is_index (appended_at name field types)) indexes ≡ true
indexes_grow name field types [] is = refl
indexes_grow name field types (index ∷ indexes) is =
    let parts = both (is_index types index) (list_all (is_index types) indexes) is in
    let own = both _ (option_map_or (is_index_over index) (type_at types index.type_number) false) parts.0 in
    λ i. (own.0 i && over_found name field index types own.1 i) && indexes_grow name field types indexes parts.1 i

-- ---- FIELD ADDED

two_passed : (a b : Bool) → first_test_refusal ((a, NameTaken) ∷ (b, TooMany) ∷ []) ≡ None → (a ≡ false) × (b ≡ false)
two_passed false false is = (refl, refl)
two_passed true b is = absurd (true≢false (ap is_some is))
two_passed false true is = absurd (true≢false (ap is_some is))

pub appended_lawful : (schema : Schema) (name : List ℕ) (field : Field) (type : TypeDefinition) → IsLawfulSchema schema → is_name field.name ≡ true → find_type schema name ≡ Some type → append_refusal type field ≡ None →
    IsLawfulSchema (with_field schema name field)
appended_lawful schema name field type lawful named found none =
    let tests = two_passed (is_some (place_of type.fields field.name)) (nat_lt 31 (length type.fields)) none in
    let few = ltb-false 31 (length type.fields) tests.1 in
    let chain = appends empty_schema (types_alone (map at_once schema.types)) lawful.requests schema.types name type field named tests.0 few found lawful.types refl in
    let t = tested schema lawful.indexes in
    record {
      requests = chain.0;
      types = chain.1;
      grown = all_grown name field schema.types lawful.grown;
      indexes = good (appended_at name field schema.types) schema.last_index schema.indexes (record {
        last_is = t.last_is;
        rising = t.rising;
        few = t.few;
        named = t.named;
        each = indexes_grow name field schema.types schema.indexes t.each;
      });
    }

-- what isn't refused has a name, and a type that has room for it
pub unrefused : (schema : Schema) (name : List ℕ) (field : Field) → field_refusal schema name field ≡ None →
    (is_name field.name ≡ true) × ((type : TypeDefinition) × (find_type schema name ≡ Some type) × (append_refusal type field ≡ None))
unrefused schema name field none = by_name (is_name field.name) refl none
  where
    by_type : (found : Option TypeDefinition) → find_type schema name ≡ found → ◌≡◌ {A = Option Refusal} (elim found [ None ↦ Some UnknownType | Some type ↦ append_refusal type field ]) None →
        (type : TypeDefinition) × (find_type schema name ≡ Some type) × (append_refusal type field ≡ None)
    by_type None is none = absurd (true≢false (ap is_some none))
    by_type (Some type) is none = (type, is, none)

    by_name : (b : Bool) → is_name field.name ≡ b →
        ◌≡◌ {A = Option Refusal} (cond (not b) (Some BadName) (elim (find_type schema name) [ None ↦ Some UnknownType | Some type ↦ append_refusal type field ])) None →
        (is_name field.name ≡ true) × ((type : TypeDefinition) × (find_type schema name ≡ Some type) × (append_refusal type field ≡ None))
    by_name false is none = absurd (true≢false (ap is_some none))
    by_name true is none = (is, by_type (find_type schema name) refl none)

pub field_lawful : (schema next : Schema) (name : List ℕ) (field : Field) → IsLawfulSchema schema → add_field schema name field ≡ Ok next → IsLawfulSchema next
field_lawful schema next name field lawful added = by_refusal (field_refusal schema name field) refl added
  where
    by_refusal : (why : Option Refusal) → field_refusal schema name field ≡ why → ◌≡◌ {A = Result Schema Refusal} (elim why [ None ↦ Ok (with_field schema name field) | Some refusal ↦ Err refusal ]) (Ok next) → IsLawfulSchema next
    by_refusal (Some refusal) is made = absurd (err_other refusal next made)
    by_refusal None is made =
        let free = unrefused schema name field is in
        subst IsLawfulSchema (ok_same (with_field schema name field) next made) (appended_lawful schema name field free.1.0 lawful free.0 free.1.1 free.1.2)
