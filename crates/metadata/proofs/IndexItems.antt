-- The items of which the written form of an index consists: they may stand in a tuple, and the index is read again from them.
use Rattle.std.proofs.Common.{◌≡◌, ◌≤◌, ◌<◌, ◌^◌, ℕ, Bool, true, false, cond, ◌&&◌, ◌==◌, List, [], ◌∷◌, Option, Some, None, length, map, refl, sym, ap, subst, ◌∙◌, arith}
use Rattle.std.specs.Prelude.{nat_le, nat_lt, slice_get, is_some, unwrap_or}
use Rattle.std.specs.List.{AllByRecursion, list_all, list_any}
use Rattle.std.specs.Option.{option_map, option_and_then, option_map_or}
use Rattle.std.proofs.lemmas.Bool.{leb-true, ltb-true, lt-ltb, eqb-true, true≢false}
use Rattle.std.proofs.lemmas.Option.{slice_get_within}
use Rattle.tuple_codec.specs.Item.{AreItems, IsItem, items_from, items_list}
use Rattle.metadata.specs.declared.definition.Field.{Field}
use Rattle.metadata.specs.declared.definition.TypeDefinition.{TypeDefinition}
use Rattle.metadata.specs.declared.index.IndexDefinition.{IndexDefinition}
use Rattle.metadata.specs.declared.index.IndexKind.{IndexKind}
use Rattle.metadata.specs.declared.index.IndexKind.TheVariants.{Value, Count, Sum}
use Rattle.metadata.specs.Change.{is_name}
use Rattle.metadata.specs.IndexChange.{is_int, is_shaped}
use Rattle.metadata.specs.Lawful.{is_index, is_index_over, is_rising_upto}
use Rattle.metadata.specs.Schema.{kind_at, type_at}
use Rattle.metadata.specs.Written.{index_item, index_kind_number, index_parts, number_item, summed_item}
use Rattle.metadata.specs.Reading.{all_read, index_kind_of, index_of, item_number, read_at, small_of, summed_of, truth_of}
use Rattle.metadata.proofs.ReadBack.{listed-items_of, neither}
use Rattle.metadata.proofs.WrittenItems.{both, utf8}

-- a type whose number and number of fields are small
pub record IsSmall (type : TypeDefinition) : Type 0 where
  pub number : type.number < 2 ^ 64
  pub fields : length type.fields ≤ 32

-- ---- numbers

rising_low : (low high : ℕ) (numbers : List ℕ) → is_rising_upto low high numbers ≡ true → low ≤ high
rising_low low high [] is = leb-true low high is
rising_low low high (n ∷ numbers) is =
    let parts = both (nat_lt low n) (is_rising_upto n high numbers) is in
    let up = ltb-true low n parts.0 in
    let rest = rising_low n high numbers parts.1 in omega (arith, up, rest)

-- numbers that rise up to one are none above it
pub all_upto : (low high : ℕ) (numbers : List ℕ) → is_rising_upto low high numbers ≡ true → AllByRecursion (λ n. n ≤ high) numbers
all_upto low high [] is = tt
all_upto low high (n ∷ numbers) is =
    let parts = both (nat_lt low n) (is_rising_upto n high numbers) is in
    (rising_low n high numbers parts.1, all_upto n high numbers parts.1)

-- a type that is found by its number
pub found_small : (types : List TypeDefinition) (number : ℕ) (type : TypeDefinition) → AllByRecursion IsSmall types → type_at types number ≡ Some type → IsSmall type × (number ≡ type.number)
found_small [] number type small is = absurd (true≢false (sym (ap is_some is)))
found_small (first ∷ types) number type small is = by_test (first.number == number) refl is (found_small types number type small.1)
  where
    by_test : (b : Bool) → (first.number == number) ≡ b → cond b (Some first) (type_at types number) ≡ Some type → (type_at types number ≡ Some type → IsSmall type × (number ≡ type.number)) → IsSmall type × (number ≡ type.number)
    by_test true test found rest =
        let same : first ≡ type = cc in
        (subst IsSmall same small.0, sym (eqb-true first.number number test) ∙ ap (λ (t : TypeDefinition). t.number) same)
    by_test false test found rest = rest found

-- ---- places

pub small_back : (n : ℕ) → n < 256 → small_of (number_item n) ≡ Some n
small_back n low = ap (λ b. cond b (Some n) None) (lt-ltb n 256 low)

pub places_are : (count : ℕ) (places : List ℕ) → count ≤ 32 → list_all (λ place. nat_lt place count) places ≡ true → AreItems (items_from (map number_item places))
places_are count [] few is = tt
places_are count (place ∷ places) few is =
    let parts = both (nat_lt place count) (list_all (λ place. nat_lt place count) places) is in
    let low = ltb-true place count parts.0 in
    (omega (arith, low, few), places_are count places few parts.1)

pub places_back : (count : ℕ) (places : List ℕ) → count ≤ 32 → list_all (λ place. nat_lt place count) places ≡ true → all_read small_of (map number_item places) ≡ Some places
places_back count [] few is = refl
places_back count (place ∷ places) few is =
    let parts = both (nat_lt place count) (list_all (λ place. nat_lt place count) places) is in
    let low = ltb-true place count parts.0 in
    ap (option_and_then (λ x. option_map (λ xs. x ∷ xs) (all_read small_of (map number_item places)))) (small_back place (omega (arith, low, few)))
    ∙ ap (option_map (λ xs. place ∷ xs)) (places_back count places few parts.1)

-- a place of whole numbers is one of the fields
pub place_low : (fields : List Field) (place : ℕ) → is_int (kind_at fields place) ≡ true → place < length fields
place_low fields place is = by_found (slice_get fields place) refl is
  where
    by_found : (found : Option Field) → slice_get fields place ≡ found → is_int (option_map (λ (field : Field). field.kind) found) ≡ true → place < length fields
    by_found None e no_kind = absurd (true≢false (sym no_kind))
    by_found (Some field) e of_kind = slice_get_within fields place field e

summed_is : (fields : List Field) (summed : Option ℕ) → length fields ≤ 32 → option_map_or (λ place. is_int (kind_at fields place)) summed true ≡ true → IsItem (summed_item summed)
summed_is fields None few is = tt
summed_is fields (Some place) few is = let low = place_low fields place is in omega (arith, low, few)

summed_back : (fields : List Field) (summed : Option ℕ) → length fields ≤ 32 → option_map_or (λ place. is_int (kind_at fields place)) summed true ≡ true → summed_of (summed_item summed) ≡ Some summed
summed_back fields None few is = refl
summed_back fields (Some place) few is = let low = place_low fields place is in ap (option_map (λ n. Some n)) (small_back place (omega (arith, low, few)))

-- ---- an index

kind_small : (kind : IndexKind) → index_kind_number kind < 2 ^ 64
kind_small Value = omega arith
kind_small Count = omega arith
kind_small Sum = omega arith

kind_back : (kind : IndexKind) → option_and_then index_kind_of (small_of (number_item (index_kind_number kind))) ≡ Some kind
kind_back Value = refl
kind_back Count = refl
kind_back Sum = refl

number_back : (n : ℕ) → n < 2 ^ 64 → item_number (number_item n) ≡ Some n
number_back n low = ap (λ b. cond b (Some n) None) (lt-ltb n (2 ^ 64) low)

-- what is known of a good index
record IsGood (index : IndexDefinition) : Type 0 where
  name : is_name index.name ≡ true
  type : TypeDefinition
  small : IsSmall type
  numbered : index.type_number ≡ type.number
  columns : list_all (λ place. nat_lt place (length type.fields)) index.columns ≡ true
  summed : option_map_or (λ place. is_int (kind_at type.fields place)) index.summed true ≡ true

good : (types : List TypeDefinition) (index : IndexDefinition) → AllByRecursion IsSmall types → is_index types index ≡ true → IsGood index
good types index small is = by_found (type_at types index.type_number) refl outer.1
  where
    outer : ((is_name index.name && nat_le (length index.columns) 8 && is_shaped index.kind (length index.columns) (is_some index.summed) index.clear_when_zero) ≡ true)
        × (option_map_or (is_index_over index) (type_at types index.type_number) false ≡ true)
    outer = both _ _ is

    named : is_name index.name ≡ true
    named = (both (is_name index.name) (nat_le (length index.columns) 8) (both _ _ outer.0).0).0

    by_found : (found : Option TypeDefinition) → type_at types index.type_number ≡ found → option_map_or (is_index_over index) found false ≡ true → IsGood index
    by_found None e none = absurd (true≢false (sym none))
    by_found (Some type) e over =
        let parts = both _ _ over in
        let at = found_small types index.type_number type small e in
        record { name = named; type = type; small = at.0; numbered = at.1; columns = (both _ _ parts.0).0; summed = parts.1 }

index_is : (second : Bool) (index : IndexDefinition) → IsGood index → index.number < 2 ^ 64 → IsItem (index_item second index)
index_is true index g low =
    let n : index.type_number < 2 ^ 64 = subst (λ m. m < 2 ^ 64) (sym g.numbered) g.small.number in
    (low, (utf8 index.name g.name, (kind_small index.kind, (n, (places_are (length g.type.fields) index.columns g.small.fields g.columns, (summed_is g.type.fields index.summed g.small.fields g.summed, (tt, tt)))))))
index_is false index g low =
    let n : index.type_number < 2 ^ 64 = subst (λ m. m < 2 ^ 64) (sym g.numbered) g.small.number in
    (low, (utf8 index.name g.name, (kind_small index.kind, (n, (places_are (length g.type.fields) index.columns g.small.fields g.columns, (summed_is g.type.fields index.summed g.small.fields g.summed, tt))))))

-- whether it is cleared at zero is read again, where the first form tells it
clears_back : (second : Bool) (index : IndexDefinition) → (second ≡ false → index.clear_when_zero ≡ false) →
    unwrap_or (read_at truth_of (items_list (items_from (index_parts second index))) 6) false ≡ index.clear_when_zero
clears_back true index told = refl
clears_back false index told = sym (told refl)

index_back : (second : Bool) (index : IndexDefinition) → (second ≡ false → index.clear_when_zero ≡ false) → IsGood index → index.number < 2 ^ 64 → index_of (index_item second index) ≡ Some index
index_back second index told g low =
    by_form second
    ∙ (λ i. option_and_then (λ number. option_and_then (λ name. option_and_then (λ kind. option_and_then (λ type_number. option_and_then (λ columns.
    option_map (λ summed. record { number = number; name = name; kind = kind; type_number = type_number; columns = columns; summed = summed; clear_when_zero = clears_back second index told i })
    (summed_back g.type.fields index.summed g.small.fields g.summed i)) (columns_back i)) (number_back index.type_number n i)) (kind_back index.kind i)) (Some index.name)) (number_back index.number low i))
  where
    n : index.type_number < 2 ^ 64
    n = subst (λ m. m < 2 ^ 64) (sym g.numbered) g.small.number

    columns_back : all_read small_of (items_list (items_from (map number_item index.columns))) ≡ Some index.columns
    columns_back = ap (all_read small_of) (listed-items_of (map number_item index.columns)) ∙ places_back (length g.type.fields) index.columns g.small.fields g.columns

    -- the parts that both forms have are read in both alike
    by_form : (second : Bool) → index_of (index_item second index) ≡ option_and_then (λ number. option_and_then (λ name. option_and_then (λ kind. option_and_then (λ type_number. option_and_then (λ columns.
        option_map (λ summed. record {
          number = number;
          name = name;
          kind = kind;
          type_number = type_number;
          columns = columns;
          summed = summed;
          clear_when_zero = unwrap_or (read_at truth_of (items_list (items_from (index_parts second index))) 6) false;
        })
        (summed_of (summed_item index.summed))) (all_read small_of (items_list (items_from (map number_item index.columns))))) (item_number (number_item index.type_number)))
        (option_and_then index_kind_of (small_of (number_item (index_kind_number index.kind))))) (Some index.name)) (item_number (number_item index.number))
    by_form true = refl
    by_form false = refl

-- ---- all indexes

pub indexes_are : (second : Bool) (types : List TypeDefinition) (last : ℕ) (indexes : List IndexDefinition) → AllByRecursion IsSmall types → last ≤ 65535 →
    AllByRecursion (λ n. n ≤ last) (map (λ (index : IndexDefinition). index.number) indexes) → list_all (is_index types) indexes ≡ true → AreItems (items_from (map (index_item second) indexes))
indexes_are second types last [] small few upto is = tt
indexes_are second types last (index ∷ indexes) small few upto is =
    let parts = both (is_index types index) (list_all (is_index types) indexes) is in
    let low : index.number ≤ last = upto.0 in
    (index_is second index (good types index small parts.0) (omega (arith, low, few)), indexes_are second types last indexes small few upto.1 parts.1)

pub indexes_back : (second : Bool) (types : List TypeDefinition) (last : ℕ) (indexes : List IndexDefinition) → (second ≡ false → list_any (λ (index : IndexDefinition). index.clear_when_zero) indexes ≡ false) →
    AllByRecursion IsSmall types → last ≤ 65535 → AllByRecursion (λ n. n ≤ last) (map (λ (index : IndexDefinition). index.number) indexes) →
    list_all (is_index types) indexes ≡ true → all_read index_of (map (index_item second) indexes) ≡ Some indexes
indexes_back second types last [] told small few upto is = refl
indexes_back second types last (index ∷ indexes) told small few upto is =
    let parts = both (is_index types index) (list_all (is_index types) indexes) is in
    let low : index.number ≤ last = upto.0 in
    let clears = λ (first : second ≡ false). neither index.clear_when_zero (list_any (λ (other : IndexDefinition). other.clear_when_zero) indexes) (told first) in
    ap (option_and_then (λ x. option_map (λ xs. x ∷ xs) (all_read index_of (map (index_item second) indexes))))
    (index_back second index (λ first. (clears first).0) (good types index small parts.0) (omega (arith, low, few)))
    ∙ ap (option_map (λ xs. index ∷ xs)) (indexes_back second types last indexes (λ first. (clears first).1) small few upto.1 parts.1)
