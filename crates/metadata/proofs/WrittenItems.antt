-- The items of which the written form of a schema consists may stand in a tuple.
use Rattle.std.proofs.Common.{◌≡◌, ◌≤◌, ◌<◌, ◌^◌, ℕ, Bool, true, false, List, [], ◌∷◌, ◌++◌, Option, Some, None, length, map, refl, sym, arith}
use Rattle.std.specs.Prelude.{◌==◌, ◌&&◌, ◌||◌, zero, suc, nat_le, nat_lt}
use Rattle.std.specs.List.{cons_option, list_all}
use Rattle.std.specs.Str.{IsAscii, IsUtf8, bytes_eq}
use Rattle.std.proofs.lemmas.Bool.{leb-true, true≢false}
use Rattle.std.proofs.lemmas.Bool.Decides.{Decides-eqb}
use Rattle.std.proofs.lemmas.List.Quantifiers.{position-Some}
use Rattle.std.proofs.lemmas.Str.{IsUtf8-from_ascii}
use Rattle.tuple_codec.specs.Item.{Item, AreItems, IsItem, items_from}
use Rattle.metadata.specs.declared.cells.Kind.{Kind}
use Rattle.metadata.specs.declared.cells.Kind.TheVariants as kind
use Rattle.metadata.specs.declared.definition.Field.{Field}
use Rattle.metadata.specs.declared.definition.TypeRequest.{TypeRequest}
use Rattle.metadata.specs.Change.{field_names, is_name, is_name_byte, places_of, type_asked}
use Rattle.metadata.specs.Schema.{Schema, place_of}
use Rattle.metadata.specs.Written.{field_item, kind_number, number_item, type_item}

pub are_items-more : (items : List Item) (one : Item) → AreItems (items_from items) → IsItem one → AreItems (items_from (items ++ one ∷ []))
are_items-more [] one before is = (is, tt)
are_items-more (first ∷ items) one before is = (before.0, are_items-more items one before.1 is)

-- both tests hold
pub both : (a b : Bool) → (a && b) ≡ true → (a ≡ true) × (b ≡ true)
both true b is = (refl, is)
both false b is = absurd (true≢false (sym is))

either_low : (a b : Bool) (n : ℕ) → (a || b) ≡ true → (a ≡ true → n < 128) → (b ≡ true → n < 128) → n < 128
either_low true b n is left right = left refl
either_low false b n is left right = right is

between_low : (low byte high : ℕ) → high < 128 → (nat_le low byte && nat_le byte high) ≡ true → byte < 128
between_low low byte high small is = let le = leb-true byte high (both (nat_le low byte) (nat_le byte high) is).1 in omega arith

four_low : (a b c d : Bool) (n : ℕ) → (a || b || c || d) ≡ true → (a ≡ true → n < 128) → (b ≡ true → n < 128) → (c ≡ true → n < 128) → (d ≡ true → n < 128) → n < 128
four_low a b c d n is by_a by_b by_c by_d = either_low ((a || b) || c) d n is (λ e. either_low (a || b) c n e (λ f. either_low a b n f by_a by_b) by_c) by_d

name_byte_low : (byte : ℕ) → is_name_byte byte ≡ true → byte < 128
name_byte_low byte is =
    four_low (nat_le 97 byte && nat_le byte 122) (nat_le 65 byte && nat_le byte 90) (nat_le 48 byte && nat_le byte 57) (byte == 95) byte is
    (between_low 97 byte 122 (omega arith)) (between_low 65 byte 90 (omega arith)) (between_low 48 byte 57 (omega arith))
    (λ e. let same : byte ≡ 95 = (Decides-eqb byte 95).0 e in omega arith)

ascii : (bytes : List ℕ) → list_all is_name_byte bytes ≡ true → IsAscii bytes
ascii [] is i = omega arith
ascii (byte ∷ bytes) is zero = name_byte_low byte (both (is_name_byte byte) (list_all is_name_byte bytes) is).0
ascii (byte ∷ bytes) is (suc i) = ascii bytes (both (is_name_byte byte) (list_all is_name_byte bytes) is).1 i

-- a name is UTF-8
pub utf8 : (name : List ℕ) → is_name name ≡ true → IsUtf8 name
utf8 name is = IsUtf8-from_ascii name (ascii name (both (nat_lt 0 (length name) && nat_le (length name) 32) (list_all is_name_byte name) is).1)

kind_small : (k : Kind) → kind_number k < 2 ^ 64
kind_small kind.Int = omega arith
kind_small kind.Text = omega arith
kind_small kind.Bytes = omega arith

fields_are : (fields : List Field) → list_all is_name (field_names fields) ≡ true → AreItems (items_from (map field_item fields))
fields_are [] is = tt
fields_are (field ∷ fields) is =
    let named = both (is_name field.name) (list_all is_name (field_names fields)) is in
    ((utf8 field.name named.0, (kind_small field.kind, tt)), fields_are fields named.1)

place_is : (fields : List Field) (name : List ℕ) (places : List ℕ) (place : Option ℕ) → length fields ≤ 32 → place_of fields name ≡ place → AreItems (items_from (map number_item places)) → AreItems (items_from (map number_item (cons_option place places)))
place_is fields name places None few is rest = rest
place_is fields name places (Some place) few is rest =
    let found = position-Some (λ field. bytes_eq field.name name) fields place (record { name = []; kind = kind.Int }) is in
    let within = found.0 in
    (omega arith, rest)

places_are : (fields : List Field) (names : List (List ℕ)) → length fields ≤ 32 → AreItems (items_from (map number_item (places_of fields names)))
places_are fields [] few = tt
places_are fields (name ∷ names) few = place_is fields name (places_of fields names) (place_of fields name) few refl (places_are fields names few)

-- the type that a request asks for
pub is_item-type : (schema : Schema) (request : TypeRequest) → list_all is_name (request.name ∷ field_names request.fields) ≡ true → length schema.types < 32 → length request.fields ≤ 32 → IsItem (type_item false (type_asked schema request))
is_item-type schema request names few few_fields =
    let named = both (is_name request.name) (list_all is_name (field_names request.fields)) names in
    (omega arith, (utf8 request.name named.0, (fields_are request.fields named.1, (places_are request.fields request.key few_fields, tt))))
