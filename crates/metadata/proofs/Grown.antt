-- What stands of the types of a lawful schema, whose fields may have come later.
use Rattle.std.proofs.Common.{◌≡◌, ◌≤◌, ◌<◌, ◌+◌, ℕ, Bool, true, false, not, ◌==◌, List, [], ◌∷◌, Some, zero, suc, get_or, set, take, length, map, refl, sym, ap, ◌∙◌, arith}
use Rattle.std.specs.Prelude.{nat_le, nat_lt}
use Rattle.std.specs.List.{AllByRecursion, list_all, list_any}
use Rattle.std.specs.Option.{option_map, option_and_then}
use Rattle.std.proofs.lemmas.Bool.{eqb-true, leb-true, true≢false}
use Rattle.tuple_codec.specs.Item.{AreItems, IsItem, items_from}
use Rattle.metadata.specs.declared.definition.TypeDefinition.{TypeDefinition}
use Rattle.metadata.specs.Change.{types_alone}
use Rattle.metadata.specs.Lawful.{IsLawfulSchema, at_once, is_grown}
use Rattle.metadata.specs.Reading.{all_read, first_of, request_of, with_firsts}
use Rattle.metadata.specs.Schema.{Schema}
use Rattle.metadata.specs.Written.{type_item}
use Rattle.metadata.proofs.IndexItems.{IsSmall, small_back}
use Rattle.metadata.proofs.MadeSchemas.{AreNumbered, made_numbered, made_small}
use Rattle.metadata.proofs.ReadBack.{neither}
use Rattle.metadata.proofs.WrittenItems.{both}

-- ---- numbers

numbered_as : (n : ℕ) (types : List TypeDefinition) → AreNumbered n (map at_once types) → AreNumbered n types
numbered_as n [] are = tt
numbered_as n (type ∷ types) are = (are.0, numbered_as (n + 1) types are.1)

-- the types of a lawful schema are numbered from 1 in order
pub lawful_numbered : (schema : Schema) → IsLawfulSchema schema → AreNumbered 0 schema.types
lawful_numbered schema lawful = numbered_as 0 schema.types (made_numbered (types_alone (map at_once schema.types)) lawful.requests lawful.types)

small_as : (types : List TypeDefinition) → AllByRecursion IsSmall (map at_once types) → AllByRecursion IsSmall types
small_as [] are = tt
small_as (type ∷ types) are = (record { number = are.0.number; fields = are.0.fields }, small_as types are.1)

-- and their numbers are small
pub lawful_small : (schema : Schema) → IsLawfulSchema schema → AllByRecursion IsSmall schema.types
lawful_small schema lawful = small_as schema.types (made_small (types_alone (map at_once schema.types)) lawful.requests lawful.types)

-- ---- items

-- a type is the same item in the first form, however many fields it was added with
pub items-at_once : (types : List TypeDefinition) → map (type_item false) (map at_once types) ≡ map (type_item false) types
items-at_once [] = refl
items-at_once (type ∷ types) = ap (λ items. type_item false type ∷ items) (items-at_once types)

first_low : (type : TypeDefinition) → IsSmall type → is_grown type ≡ true → type.first_fields ≤ 32
first_low type small is =
    let within = leb-true type.first_fields (length type.fields) (both (nat_le type.first_fields (length type.fields)) (list_all (λ place. nat_lt place type.first_fields) type.key) is).0 in
    let few = small.fields in omega (arith, within, few)

type_is : (second : Bool) (type : TypeDefinition) → IsSmall type → is_grown type ≡ true → IsItem (type_item false type) → IsItem (type_item second type)
type_is false type small is item = item
type_is true type small is item =
    let low = first_low type small is in
    (item.0, (item.1.0, (item.1.1.0, (item.1.1.1.0, (omega (arith, low), tt)))))

pub types_are : (second : Bool) (types : List TypeDefinition) → AllByRecursion IsSmall types → list_all is_grown types ≡ true → AreItems (items_from (map (type_item false) types)) →
    AreItems (items_from (map (type_item second) types))
types_are second [] small is items = tt
types_are second (type ∷ types) small is items =
    let parts = both (is_grown type) (list_all is_grown types) is in
    (type_is second type small.0 parts.0 items.0, types_are second types small.1 parts.1 items.1)

-- ---- read again

-- what is asked for is read alike from both forms
pub asked_alike : (second : Bool) (types : List TypeDefinition) → all_read request_of (map (type_item second) types) ≡ all_read request_of (map (type_item false) types)
asked_alike false types = refl
asked_alike true [] = refl
asked_alike true (type ∷ types) = ap (λ rest. option_and_then (λ x. option_map (λ xs. x ∷ xs) rest) (request_of (type_item false type))) (asked_alike true types)

-- the numbers of first fields are read from the second form
pub firsts_back : (types : List TypeDefinition) → AllByRecursion IsSmall types → list_all is_grown types ≡ true → all_read first_of (map (type_item true) types) ≡ Some (map (λ (t : TypeDefinition). t.first_fields) types)
firsts_back [] small is = refl
firsts_back (type ∷ types) small is =
    let parts = both (is_grown type) (list_all is_grown types) is in
    let low = first_low type small.0 parts.0 in
    ap (option_and_then (λ x. option_map (λ xs. x ∷ xs) (all_read first_of (map (type_item true) types)))) (small_back type.first_fields (omega (arith, low)))
    ∙ ap (option_map (λ xs. type.first_fields ∷ xs)) (firsts_back types small.1 parts.1)

pub firsts_set : (types : List TypeDefinition) → with_firsts (map (λ (t : TypeDefinition). t.first_fields) types) (map at_once types) ≡ types
firsts_set [] = refl
firsts_set (type ∷ types) = ap (λ rest. type ∷ rest) (firsts_set types)

-- types without appended fields are as if they had been added at once
pub none_appended : (types : List TypeDefinition) → list_any (λ (t : TypeDefinition). not (t.first_fields == length t.fields)) types ≡ false → map at_once types ≡ types
none_appended [] none = refl
none_appended (type ∷ types) none =
    let parts = neither (not (type.first_fields == length type.fields)) (list_any (λ (t : TypeDefinition). not (t.first_fields == length t.fields)) types) none in
    let same : type.first_fields ≡ length type.fields = eqb-true type.first_fields (length type.fields) (so (type.first_fields == length type.fields) parts.0) in
    λ i. record type { first_fields = sym same i } ∷ none_appended types parts.1 i
  where
    so : (b : Bool) → not b ≡ false → b ≡ true
    so true e = refl
    so false e = absurd (true≢false e)

-- types that are set to have been added with other numbers of fields are at once the same
pub at_once-with_firsts : (firsts : List ℕ) (types : List TypeDefinition) → map at_once (with_firsts firsts types) ≡ map at_once types
at_once-with_firsts [] types = refl
at_once-with_firsts (first ∷ firsts) [] = refl
at_once-with_firsts (first ∷ firsts) (type ∷ types) = ap (λ rest. at_once type ∷ rest) (at_once-with_firsts firsts types)

-- one number more is set, where there is a type for it
pub first_more : (firsts : List ℕ) (types : List TypeDefinition) (i : ℕ) (d : TypeDefinition) → i < length firsts → i < length types →
    set (with_firsts (take i firsts) types) i (record (get_or (with_firsts (take i firsts) types) i d) { first_fields = get_or firsts i 0 }) ≡ with_firsts (take (suc i) firsts) types
first_more [] types i d some inside = absurd (omega (arith, some))
first_more (first ∷ firsts) [] i d some inside = absurd (omega (arith, inside))
first_more (first ∷ []) (type ∷ types) zero d some inside = refl
first_more (first ∷ second ∷ firsts) (type ∷ types) zero d some inside = refl
first_more (first ∷ firsts) (type ∷ types) (suc i) d some inside =
    ap (λ rest. record type { first_fields = first } ∷ rest) (first_more firsts types i d (omega (arith, some)) (omega (arith, inside)))

pub first_past : (firsts : List ℕ) (types : List TypeDefinition) (i : ℕ) → length types ≤ i → with_firsts (take i firsts) types ≡ with_firsts (take (suc i) firsts) types
first_past [] types zero past = refl
first_past [] types (suc i) past = refl
first_past (first ∷ firsts) [] zero past = refl
first_past (first ∷ firsts) [] (suc i) past = refl
first_past (first ∷ firsts) (type ∷ types) zero past = absurd (omega (arith, past))
first_past (first ∷ firsts) (type ∷ types) (suc i) past = ap (λ rest. record type { first_fields = first } ∷ rest) (first_past firsts types i (omega (arith, past)))

pub length-with_firsts : (firsts : List ℕ) (types : List TypeDefinition) → length (with_firsts firsts types) ≡ length types
length-with_firsts [] types = refl
length-with_firsts (first ∷ firsts) [] = refl
length-with_firsts (first ∷ firsts) (type ∷ types) = ap (λ n. Prim.Native.Nat.suc n) (length-with_firsts firsts types)

-- the same of types of which the numbers before it are set
pub first_set : (firsts : List ℕ) (types grown : List TypeDefinition) (i : ℕ) (one : TypeDefinition) → i < length firsts → i < length grown → grown ≡ with_firsts (take i firsts) types → one ≡ get_or grown i one →
    set grown i (record one { first_fields = get_or firsts i 0 }) ≡ with_firsts (take (i + 1) firsts) types
first_set firsts types grown i one some inside is here =
    let count : length grown ≡ length types = ap length is ∙ length-with_firsts (take i firsts) types in
    let more : suc i ≡ i + 1 = omega arith in
    ap (λ t. set grown i (record t { first_fields = get_or firsts i 0 })) here
    ∙ ap (λ ts. set ts i (record (get_or ts i one) { first_fields = get_or firsts i 0 })) is
    ∙ first_more firsts types i one some (omega (arith, inside, count))
    ∙ ap (λ n. with_firsts (take n firsts) types) more

pub first_stays : (firsts : List ℕ) (types grown : List TypeDefinition) (i : ℕ) → length grown ≤ i → grown ≡ with_firsts (take i firsts) types → grown ≡ with_firsts (take (i + 1) firsts) types
first_stays firsts types grown i past is =
    let count : length grown ≡ length types = ap length is ∙ length-with_firsts (take i firsts) types in
    let more : suc i ≡ i + 1 = omega arith in
    is ∙ first_past firsts types i (omega (arith, past, count)) ∙ ap (λ n. with_firsts (take n firsts) types) more
