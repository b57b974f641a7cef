-- A request for a type with a field more: it is refused as little, and asks for the type with that field appended.
use Rattle.std.proofs.Common.{◌≡◌, ◌≤◌, ◌<◌, ◌+◌, ℕ, Bool, true, false, not, cond, ◌&&◌, ◌||◌, ◌==◌, List, [], ◌∷◌, ◌++◌, Option, Some, None, inl, inr, length, refl, sym, ap, ◌∙◌, arith}
use Rattle.std.specs.Prelude.{is_none, is_some, nat_lt, position}
use Rattle.std.specs.List.{cons_option, list_all, list_any, position_or_len}
use Rattle.std.specs.Str.{bytes_eq}
use Rattle.std.proofs.lemmas.Bool.{cases_Bool, lt-ltb, ltb-true, ne_eqb, true≢false}
use Rattle.std.proofs.lemmas.List.{length-append, map-append}
use Rattle.std.proofs.lemmas.List.Folds.{list_all-append, list_any-append, position_or_len_push}
use Rattle.metadata.specs.declared.definition.Field.{Field}
use Rattle.metadata.specs.declared.definition.TypeRequest.{TypeRequest}
use Rattle.metadata.specs.declared.refusal.Refusal.TheVariants.{BadName, NameTaken, UnknownField, BadSchema, TooMany}
use Rattle.metadata.specs.Change.{field_names, first_test_refusal, has_twice, has_unknown, is_name, places_of, same_field, type_refusal}
use Rattle.metadata.specs.Schema.{Schema, find_type, place_of}
use Rattle.metadata.proofs.MadeSchemas.{turned}
use Rattle.metadata.proofs.ReadBack.{neither}
use Rattle.metadata.proofs.WrittenItems.{both}

-- ---- places

-- a place that is found stays the one found with one more behind
position-push : {X : Type 0} (p : X → Bool) (xs : List X) (y : X) (i : ℕ) → position p xs ≡ Some i → position p (xs ++ y ∷ []) ≡ Some i
position-push p xs y i is = by_found (nat_lt (position_or_len p xs) (length xs)) refl is
  where
    by_found : (b : Bool) → nat_lt (position_or_len p xs) (length xs) ≡ b → ◌≡◌ {A = Option ℕ} (cond b (Some (position_or_len p xs)) None) (Some i) → position p (xs ++ y ∷ []) ≡ Some i
    by_found false none found = absurd (true≢false (sym (ap is_some found)))
    by_found true some found =
        let below = ltb-true (position_or_len p xs) (length xs) some in
        let at : position_or_len p xs ≡ i = cc in
        let stays : position_or_len p (xs ++ y ∷ []) ≡ position_or_len p xs =
        position_or_len_push p xs y
        ∙ ap (λ b. cond b (length xs + cond (p y) 0 1) (position_or_len p xs)) (ne_eqb (position_or_len p xs) (length xs) (λ e. omega (arith, below, e))) in
        let longer : length (xs ++ y ∷ []) ≡ length xs + 1 = length-append xs (y ∷ []) in
        let inside : nat_lt (position_or_len p xs) (length (xs ++ y ∷ [])) ≡ true = lt-ltb (position_or_len p xs) (length (xs ++ y ∷ [])) (omega (arith, below, longer)) in
        (λ j. cond (nat_lt (stays j) (length (xs ++ y ∷ []))) (Some (stays j)) None)
        ∙ ap (λ b. cond b (Some (position_or_len p xs)) None) inside ∙ ap Some at

-- where none is found, none passes
any-below : {X : Type 0} (p : X → Bool) (xs : List X) → list_any p xs ≡ true → position_or_len p xs < length xs
any-below p [] any = absurd (true≢false (sym any))
any-below p (x ∷ xs) any = by_test (p x) refl any (any-below p xs)
  where
    by_test : (b : Bool) → p x ≡ b → (b || list_any p xs) ≡ true → (list_any p xs ≡ true → position_or_len p xs < length xs) → position_or_len p (x ∷ xs) < length (x ∷ xs)
    by_test true is there rest =
        let here : position_or_len p (x ∷ xs) ≡ 0 = ap (λ b. cond (not b) (1 + position_or_len p xs) 0) is in
        omega (arith, here)
    by_test false is there rest =
        let later : position_or_len p (x ∷ xs) ≡ 1 + position_or_len p xs = ap (λ b. cond (not b) (1 + position_or_len p xs) 0) is in
        let below = rest there in
        omega (arith, later, below)

none-any : {X : Type 0} (p : X → Bool) (xs : List X) → is_some (position p xs) ≡ false → list_any p xs ≡ false
none-any p xs none = elim (cases_Bool (list_any p xs)) [
  | inl any ↦
      let inside = lt-ltb (position_or_len p xs) (length xs) (any-below p xs any) in
      absurd (true≢false (sym (ap (λ b. is_some (cond b (Some (position_or_len p xs)) None)) inside) ∙ none))
  | inr nobody ↦ nobody
]

-- known names stay known, at their places
pub known-push : (fields : List Field) (field : Field) (names : List (List ℕ)) → has_unknown fields names ≡ false →
    (has_unknown (fields ++ field ∷ []) names ≡ false) × (places_of (fields ++ field ∷ []) names ≡ places_of fields names)
known-push fields field [] known = (refl, refl)
known-push fields field (name ∷ names) known =
    let parts = neither (is_none (place_of fields name)) (has_unknown fields names) known in
    by_place (place_of fields name) refl parts.0 (known-push fields field names parts.1)
  where
    by_place : (place : Option ℕ) → place_of fields name ≡ place → is_none place ≡ false →
        (has_unknown (fields ++ field ∷ []) names ≡ false) × (places_of (fields ++ field ∷ []) names ≡ places_of fields names) →
        (has_unknown (fields ++ field ∷ []) (name ∷ names) ≡ false) × (places_of (fields ++ field ∷ []) (name ∷ names) ≡ places_of fields (name ∷ names))
    by_place None is none rest = absurd (true≢false none)
    by_place (Some at) is none rest =
        let stays = position-push (λ (own : Field). bytes_eq own.name name) fields field at is in
        ((λ i. is_none (stays i) || rest.0 i), (λ i. cons_option ((stays ∙ sym is) i) (rest.1 i)))

-- a name that no field has isn't there twice with its field
pub fresh-push : (fields : List Field) (field : Field) → has_twice same_field fields ≡ false → list_any (λ (own : Field). bytes_eq own.name field.name) fields ≡ false →
    has_twice same_field (fields ++ field ∷ []) ≡ false
fresh-push [] field once fresh = refl
fresh-push (first ∷ fields) field once fresh =
    let rest = neither (list_any (same_field first) fields) (has_twice same_field fields) once in
    let other = neither (bytes_eq first.name field.name) (list_any (λ (own : Field). bytes_eq own.name field.name) fields) fresh in
    (λ i. list_any-append (same_field first) fields (field ∷ []) i || fresh-push fields field rest.1 other.1 i)
    ∙ (λ i. (rest.0 i || (other.0 i || false)) || false)

-- ---- the request

five_passed : (a b c d e : Bool) → first_test_refusal ((a, BadName) ∷ (b, NameTaken) ∷ (c, UnknownField) ∷ (d, BadSchema) ∷ (e, TooMany) ∷ []) ≡ None →
    (a ≡ false) × (b ≡ false) × (c ≡ false) × (d ≡ false) × (e ≡ false)
five_passed false false false false false is = (refl, refl, refl, refl, refl)
five_passed true b c d e is = absurd (true≢false (ap is_some is))
five_passed false true c d e is = absurd (true≢false (ap is_some is))
five_passed false false true d e is = absurd (true≢false (ap is_some is))
five_passed false false false true e is = absurd (true≢false (ap is_some is))
five_passed false false false false true is = absurd (true≢false (ap is_some is))

not_above : (n m : ℕ) → m ≤ n → nat_lt n m ≡ false
not_above n m low = elim (cases_Bool (nat_lt n m)) [ inl up ↦ let above = ltb-true n m up in absurd (omega (arith, above, low)) | inr is ↦ is ]

-- the request with a field more
abbrev pub with_one : TypeRequest → Field → TypeRequest
with_one request field = record request { fields = request.fields ++ field ∷ [] }

pub refusal-push : (s : Schema) (request : TypeRequest) (field : Field) → type_refusal s request ≡ None → is_name field.name ≡ true → is_some (place_of request.fields field.name) ≡ false →
    length request.fields ≤ 31 → type_refusal s (with_one request field) ≡ None
refusal-push s request field is named fresh few =
    λ i. first_test_refusal ((names i, BadName) ∷ (taken i, NameTaken) ∷ (known.0 i, UnknownField) ∷ (tests.3 i, BadSchema) ∷ (many i, TooMany) ∷ [])
  where
    tests : (not (list_all is_name (request.name ∷ field_names request.fields)) ≡ false)
        × ((is_some (find_type s request.name) || has_twice same_field request.fields) ≡ false)
        × (has_unknown request.fields request.key ≡ false)
        × ((length request.key == 0 || has_twice bytes_eq request.key) ≡ false)
        × ((nat_lt 31 (length s.types) || nat_lt 32 (length request.fields) || nat_lt 8 (length request.key)) ≡ false)
    tests = five_passed _ _ _ _ _ is

    more : List Field
    more = request.fields ++ field ∷ []

    names : not (list_all is_name (request.name ∷ field_names more)) ≡ false
    names =
        let old = both (is_name request.name) (list_all is_name (field_names request.fields)) (turned _ tests.0) in
        let new : list_all is_name (field_names more) ≡ true =
        ap (list_all is_name) (map-append (λ (own : Field). own.name) request.fields (field ∷ [])) ∙ list_all-append is_name (field_names request.fields) (field.name ∷ [])
        ∙ (λ i. old.1 i && (named i && true)) in
        λ i. not (old.0 i && new i)

    taken : (is_some (find_type s request.name) || has_twice same_field more) ≡ false
    taken =
        let old = neither (is_some (find_type s request.name)) (has_twice same_field request.fields) tests.1 in
        let new = fresh-push request.fields field old.1 (none-any (λ (own : Field). bytes_eq own.name field.name) request.fields fresh) in
        λ i. old.0 i || new i

    known : (has_unknown more request.key ≡ false) × (places_of more request.key ≡ places_of request.fields request.key)
    known = known-push request.fields field request.key tests.2

    many : (nat_lt 31 (length s.types) || nat_lt 32 (length more) || nat_lt 8 (length request.key)) ≡ false
    many =
        let counts = neither (nat_lt 31 (length s.types) || nat_lt 32 (length request.fields)) (nat_lt 8 (length request.key)) tests.4 in
        let few_types = neither (nat_lt 31 (length s.types)) (nat_lt 32 (length request.fields)) counts.0 in
        let longer : length more ≡ length request.fields + 1 = length-append request.fields (field ∷ []) in
        λ i. few_types.0 i || not_above 32 (length more) (omega (arith, few, longer)) i || counts.1 i

-- its key has the same places
pub places-push : (s : Schema) (request : TypeRequest) (field : Field) → type_refusal s request ≡ None → places_of (request.fields ++ field ∷ []) request.key ≡ places_of request.fields request.key
places-push s request field is =
    let tests = five_passed
    (not (list_all is_name (request.name ∷ field_names request.fields)))
    (is_some (find_type s request.name) || has_twice same_field request.fields)
    (has_unknown request.fields request.key)
    (length request.key == 0 || has_twice bytes_eq request.key)
    (nat_lt 31 (length s.types) || nat_lt 32 (length request.fields) || nat_lt 8 (length request.key)) is in
    (known-push request.fields field request.key tests.2).1
