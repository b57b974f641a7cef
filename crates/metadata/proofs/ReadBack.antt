-- What is written is read again.
use Rattle.std.proofs.Common.{◌≡◌, ◌≤◌, ℕ, Bool, true, false, ◌||◌, List, [], ◌∷◌, Option, Some, None, length, map, refl, sym, ap, ◌∙◌, arith, get_or, cond}
use Rattle.std.specs.Prelude.{is_none, nat_lt, slice_get}
use Rattle.std.specs.List.{cons_option, filter_map}
use Rattle.std.specs.Option.{option_map, option_and_then}
use Rattle.std.specs.Str.{bytes_eq}
use Rattle.std.proofs.lemmas.Bool.{lt-ltb, true≢false}
use Rattle.std.proofs.lemmas.Slice.Eq.{bytes_eq-Decides}
use Rattle.std.proofs.lemmas.List.Quantifiers.{position-Some}
use Rattle.std.proofs.lemmas.Option.{slice_get-get_or}
use Rattle.tuple_codec.specs.Item.{Item, items_list, items_from}
use Rattle.tuple_codec.specs.Elements.{item_in}
use Rattle.tuple_codec.specs.declared.Element.{Element}
use Rattle.tuple_codec.specs.declared.Element.TheVariants as element
use Rattle.metadata.specs.declared.cells.Kind.{Kind}
use Rattle.metadata.specs.declared.cells.Kind.TheVariants as kind
use Rattle.metadata.specs.declared.definition.Field.{Field}
use Rattle.metadata.specs.Change.{has_unknown, places_of}
use Rattle.metadata.specs.Schema.{place_of}
use Rattle.metadata.specs.Written.{field_item, kind_number, number_item}
use Rattle.metadata.specs.Reading.{all_read, field_of, kind_of, name_of, small_of, tuple_of}

pub listed-items_of : (items : List Item) → items_list (items_from items) ≡ items
listed-items_of [] = refl
listed-items_of (one ∷ items) = ap (λ rest. one ∷ rest) (listed-items_of items)

kind_back : (k : Kind) → option_and_then kind_of (small_of (number_item (kind_number k))) ≡ Some k
kind_back kind.Int = refl
kind_back kind.Text = refl
kind_back kind.Bytes = refl

field_back : (field : Field) → field_of (field_item field) ≡ Some field
field_back field = ap (option_map (λ found. record { name = field.name; kind = found })) (kind_back field.kind)

pub fields_back : (fields : List Field) → all_read field_of (map field_item fields) ≡ Some fields
fields_back [] = refl
fields_back (field ∷ fields) =
    ap (option_and_then (λ x. option_map (λ xs. x ∷ xs) (all_read field_of (map field_item fields)))) (field_back field)
    ∙ ap (option_map (λ xs. field ∷ xs)) (fields_back fields)

-- the name of the field at the place that a name has
name_back : (fields : List Field) (name : List ℕ) (place : ℕ) → length fields ≤ 32 → place_of fields name ≡ Some place → name_of fields (number_item place) ≡ Some name
name_back fields name place few is =
    let none : Field = record { name = []; kind = kind.Int } in
    let found = position-Some (λ field. bytes_eq field.name name) fields place none is in
    let low : nat_lt place 256 ≡ true = lt-ltb place 256 (omega (arith, found.0)) in
    let at = slice_get-get_or fields place none found.0 in
    let same = (bytes_eq-Decides (get_or fields place none).name name).0 found.1 in
    ap (λ b. option_map (λ field. field.name) (option_and_then (slice_get fields) (cond b (Some place) None))) low
    ∙ ap (option_map (λ field. field.name)) at
    ∙ ap Some same

-- the element of a nested tuple
pub tuple_found : (one : Element) (tuple : List Item) → one ≡ element.Nested tuple → Some tuple ≡ tuple_of (item_in one)
tuple_found one tuple is = sym (ap (λ e. tuple_of (item_in e)) is ∙ ap Some (listed-items_of tuple))

-- each of two tests fails
pub neither : (a b : Bool) → (a || b) ≡ false → (a ≡ false) × (b ≡ false)
neither true b is = absurd (true≢false is)
neither false b is = (refl, is)

one_back : (fields : List Field) (name : List ℕ) (names : List (List ℕ)) (place : Option ℕ) → length fields ≤ 32 → place_of fields name ≡ place → is_none place ≡ false
    → all_read (name_of fields) (map number_item (filter_map (place_of fields) names)) ≡ Some names
    → all_read (name_of fields) (map number_item (cons_option place (filter_map (place_of fields) names))) ≡ Some (name ∷ names)
one_back fields name names None few is some rest = absurd (true≢false some)
one_back fields name names (Some place) few is some rest =
    ap (option_and_then (λ x. option_map (λ xs. x ∷ xs) (all_read (name_of fields) (map number_item (filter_map (place_of fields) names))))) (name_back fields name place few is)
    ∙ ap (option_map (λ xs. name ∷ xs)) rest

-- the names of the fields at the places that names have
pub names_back : (fields : List Field) (names : List (List ℕ)) → length fields ≤ 32 → has_unknown fields names ≡ false
    → all_read (name_of fields) (map number_item (places_of fields names)) ≡ Some names
names_back fields [] few known = refl
names_back fields (name ∷ names) few known =
    let both = neither (is_none (place_of fields name)) (has_unknown fields names) known in
    one_back fields name names (place_of fields name) few refl both.0 (names_back fields names few both.1)
