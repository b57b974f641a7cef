-- Worked examples of schemas, records and keys, computed.
use Rattle.std.proofs.Common.{◌≡◌, ℕ, ◌+◌, ◌-◌, ◌^◌, true, false, List, [], ◌∷◌, ◌++◌, None, Some, Ok, Err, pos, negsuc, map, replicate, refl}
use Rattle.std.specs.List.{range_with_len}
use Rattle.tuple_codec.specs.Item as item
use Rattle.metadata.specs.declared.definition.Field.{Field}
use Rattle.metadata.specs.declared.cells.Kind.TheVariants as kind
use Rattle.metadata.specs.declared.cells.Cell.{Cell}
use Rattle.metadata.specs.declared.cells.Cell.TheVariants.{Null, Int, Text, Bytes}
use Rattle.metadata.specs.declared.definition.TypeDefinition.{TypeDefinition}
use Rattle.metadata.specs.declared.definition.TypeRequest.{TypeRequest}
use Rattle.metadata.specs.declared.refusal.Refusal.TheVariants.{BadName, NameTaken, UnknownType, UnknownField, WrongKind, NullKey, BadSchema, TooMany}
use Rattle.metadata.specs.Cell.{all_fit, cells_at, cells_of, fits, items_of}
use Rattle.metadata.specs.Schema.{Schema, find_type, key_kinds}
use Rattle.metadata.specs.Record.{key_of, primary_key, record_of}
use Rattle.metadata.specs.Stored.{filled}
use Rattle.metadata.specs.Change.{add_field, add_type, empty_schema, is_name, schema_of, types_alone}
use Rattle.metadata.specs.Written.{nested_item, schema_bytes, type_item}
use Rattle.tuple_codec.specs.Spelling.{byte_count, int_spelling}

-- "t", "k", "a", "b", "c", "z"
abbrev t : List ℕ
t = 116 ∷ []

abbrev k : List ℕ
k = 107 ∷ []

abbrev a : List ℕ
a = 97 ∷ []

abbrev b : List ℕ
b = 98 ∷ []

abbrev c : List ℕ
c = 99 ∷ []

abbrev z : List ℕ
z = 122 ∷ []

-- names: 1 to 32 letters, digits and underscores
empty_name : is_name [] ≡ false
empty_name = refl

name_of_all : is_name (97 ∷ 122 ∷ 65 ∷ 90 ∷ 48 ∷ 57 ∷ 95 ∷ []) ≡ true
name_of_all = refl

name_with_dash : is_name (97 ∷ 45 ∷ 98 ∷ []) ≡ false
name_with_dash = refl

name_of_32 : is_name (replicate 32 97) ≡ true
name_of_32 = refl

name_of_33 : is_name (replicate 33 97) ≡ false
name_of_33 = refl

-- the schema with the type t of whole numbers k, a and b, whose key is k
abbrev int : List ℕ → Field
int name = record { name = name; kind = kind.Int }

abbrev asked : List ℕ → List Field → List (List ℕ) → TypeRequest
asked name fields key = record { name = name; fields = fields; key = key }

abbrev t_asked : TypeRequest
t_asked = asked t (int k ∷ int a ∷ int b ∷ []) (k ∷ [])

abbrev t_type : TypeDefinition
t_type = record { number = 1; name = t; fields = int k ∷ int a ∷ int b ∷ []; key = 0 ∷ []; first_fields = 3 }

abbrev s : Schema
s = types_alone (t_type ∷ [])

s_is : schema_of (t_asked ∷ []) ≡ Ok s
s_is = refl

-- the second type has number 2, and its key fields stand in the key's order
second : add_type s (asked z (int k ∷ int a ∷ []) (a ∷ k ∷ [])) ≡ Ok (types_alone (t_type ∷ (record { number = 2; name = z; fields = int k ∷ int a ∷ []; key = 1 ∷ 0 ∷ []; first_fields = 2 }) ∷ []))
second = refl

-- what is refused as a type, in the order of the tests
no_name : add_type s (asked [] (int k ∷ []) (k ∷ [])) ≡ Err BadName
no_name = refl

no_field_name : add_type s (asked t (int k ∷ int [] ∷ []) (k ∷ [])) ≡ Err BadName
no_field_name = refl

taken : add_type s t_asked ≡ Err NameTaken
taken = refl

taken_twice : schema_of (t_asked ∷ t_asked ∷ []) ≡ Err NameTaken
taken_twice = refl

field_twice : add_type s (asked z (int k ∷ int k ∷ []) (z ∷ [])) ≡ Err NameTaken
field_twice = refl

unknown_key : add_type s (asked a (int k ∷ []) (z ∷ z ∷ [])) ≡ Err UnknownField
unknown_key = refl

no_key : add_type s (asked a (int k ∷ []) []) ≡ Err BadSchema
no_key = refl

key_twice : add_type s (asked a (int k ∷ []) (k ∷ k ∷ [])) ≡ Err BadSchema
key_twice = refl

-- the names A to Z, and a to g
abbrev names : List (List ℕ)
names = map (λ letter. letter ∷ []) (range_with_len 65 26 ++ range_with_len 97 7)

abbrev all_ints : List (List ℕ) → List Field
all_ints of = map int of

fields_33 : add_type s (asked z (all_ints names) (a ∷ [])) ≡ Err TooMany
fields_33 = refl

no_key_of_33 : add_type s (asked z (all_ints names) []) ≡ Err BadSchema
no_key_of_33 = refl

abbrev nine : List (List ℕ)
nine = map (λ letter. letter ∷ []) (range_with_len 97 9)

key_of_9 : add_type s (asked z (all_ints nine) nine) ≡ Err TooMany
key_of_9 = refl

-- 32 types are as many as there may be
abbrev types_from : ℕ → List (List ℕ) → List TypeDefinition
types_from n [] = []
types_from n (name ∷ more) = record { number = n; name = name; fields = int k ∷ []; key = 0 ∷ []; first_fields = 1 } ∷ types_from (n + 1) more

abbrev of_32 : Schema
of_32 = types_alone (types_from 1 (map (λ letter. letter ∷ []) (range_with_len 65 26 ++ range_with_len 97 6)))

types_33 : add_type of_32 t_asked ≡ Err TooMany
types_33 = refl

-- what is refused as a record, in the order of the tests
no_type : record_of s z [] ≡ Err UnknownType
no_type = refl

wrong_kind : record_of s t (Null ∷ Text (120 ∷ []) ∷ Int (pos 1) ∷ []) ≡ Err WrongKind
wrong_kind = refl

wrong_number : record_of s t (Int (pos 1) ∷ Int (pos 1) ∷ []) ≡ Err WrongKind
wrong_number = refl

null_key : record_of s t (Null ∷ Int (pos 1) ∷ Int (pos 1) ∷ []) ≡ Err NullKey
null_key = refl

-- a record of t, and its primary key (1, 1)
abbrev made : List Cell
made = Int (pos 1) ∷ Int (pos 5) ∷ Null ∷ []

made_is : record_of s t made ≡ Ok (record { definition = t_type; cells = made })
made_is = refl

made_key : primary_key (record { definition = t_type; cells = made }) ≡ item.int (pos 1) ∷ item.int (pos 1) ∷ []
made_key = refl

-- the same key, of its cells alone, and what is refused as one
key_is : key_of s t (Int (pos 1) ∷ []) ≡ Ok (item.int (pos 1) ∷ item.int (pos 1) ∷ [])
key_is = refl

key_no_type : key_of s z (Null ∷ []) ≡ Err UnknownType
key_no_type = refl

key_wrong_kind : key_of s t (Bytes (1 ∷ []) ∷ []) ≡ Err WrongKind
key_wrong_kind = refl

key_too_short : key_of s t [] ≡ Err WrongKind
key_too_short = refl

key_null : key_of s t (Null ∷ []) ≡ Err NullKey
key_null = refl

-- cells, the kinds that they fit, and the tuples that they are
null_fits : all_fit (kind.Int ∷ kind.Text ∷ kind.Bytes ∷ []) (Null ∷ Null ∷ Null ∷ []) ≡ true
null_fits = refl

text_is_no_bytes : fits kind.Bytes (Text []) ≡ false
text_is_no_bytes = refl

at_places : cells_at made (1 ∷ 0 ∷ 3 ∷ []) ≡ Int (pos 5) ∷ Int (pos 1) ∷ Null ∷ []
at_places = refl

greatest : cells_of (items_of (Int (pos (2 ^ 63 - 1)) ∷ Int (negsuc (2 ^ 63 - 1)) ∷ [])) ≡ Some (Int (pos (2 ^ 63 - 1)) ∷ Int (negsuc (2 ^ 63 - 1)) ∷ [])
greatest = refl

too_great : cells_of (item.int (pos (2 ^ 63)) ∷ []) ≡ None
too_great = refl

too_small : cells_of (item.int (negsuc (2 ^ 63)) ∷ []) ≡ None
too_small = refl

nested_is_none : cells_of (item.null ∷ item.nested item.no_items ∷ []) ≡ None
nested_is_none = refl

found : find_type s t ≡ Some t_type
found = refl

kinds_of_key : key_kinds t_type ≡ kind.Int ∷ []
kinds_of_key = refl

-- the written form of s, with t's fields
abbrev s_bytes : List ℕ
s_bytes = 21 ∷ 1 ∷ 21 ∷ 1 ∷ 20 ∷ 5 ∷ 5 ∷ 21 ∷ 1 ∷ 2 ∷ 116 ∷ 0 ∷ 5 ∷ 5 ∷ 2 ∷ 107 ∷ 0 ∷ 21 ∷ 1 ∷ 0 ∷ 5 ∷ 2 ∷ 97 ∷ 0 ∷ 21 ∷ 1 ∷ 0 ∷ 5 ∷ 2 ∷ 98 ∷ 0 ∷ 21 ∷ 1 ∷ 0 ∷ 0 ∷ 5 ∷ 20 ∷ 0 ∷ 0 ∷ 0 ∷ 5 ∷ 0 ∷ []

s_written : schema_bytes s ≡ s_bytes
unfolding int_spelling byte_count
s_written = refl

-- without types: (1, 0, 0, (), ())
empty_written : schema_bytes empty_schema ≡ 21 ∷ 1 ∷ 20 ∷ 20 ∷ 5 ∷ 0 ∷ 5 ∷ 0 ∷ []
unfolding int_spelling byte_count
empty_written = refl

-- kinds, and places in the key's order
abbrev z_type : TypeDefinition
z_type = record { number = 2; name = z; fields = record { name = a; kind = kind.Text } ∷ record { name = b; kind = kind.Bytes } ∷ []; key = 1 ∷ 0 ∷ []; first_fields = 2 }

z_item : type_item false z_type ≡ nested_item (item.int (pos 2) ∷ item.text z ∷ nested_item (nested_item (item.text a ∷ item.int (pos 2) ∷ []) ∷ nested_item (item.text b ∷ item.int (pos 3) ∷ []) ∷ []) ∷ nested_item (item.int (pos 1) ∷ item.int (pos 0) ∷ []) ∷ [])
z_item = refl

-- a field c appended to t: records have null there, and the schema is written in the second form
abbrev c_type : TypeDefinition
c_type = record { number = 1; name = t; fields = int k ∷ int a ∷ int b ∷ int c ∷ []; key = 0 ∷ []; first_fields = 3 }

field_c : add_field s t (int c) ≡ Ok (types_alone (c_type ∷ []))
field_c = refl

abbrev c_bytes : List ℕ
c_bytes =
    21 ∷ 2 ∷ 21 ∷ 1 ∷ 20 ∷ 5 ∷ 5 ∷ 21 ∷ 1 ∷ 2 ∷ 116 ∷ 0 ∷ 5 ∷ 5 ∷ 2 ∷ 107 ∷ 0 ∷ 21 ∷ 1 ∷ 0 ∷ 5 ∷ 2 ∷ 97 ∷ 0 ∷ 21 ∷ 1 ∷ 0 ∷ 5 ∷ 2 ∷ 98 ∷ 0 ∷ 21 ∷ 1 ∷ 0 ∷ 5 ∷ 2 ∷ 99 ∷ 0 ∷ 21 ∷ 1 ∷ 0 ∷ 0
    ∷ 5 ∷ 20 ∷ 0 ∷ 21 ∷ 3 ∷ 0 ∷ 0 ∷ 5 ∷ 0 ∷ []

c_written : schema_bytes (types_alone (c_type ∷ [])) ≡ c_bytes
unfolding int_spelling byte_count
c_written = refl

-- what is refused as a field, in the order of the tests
field_no_name : add_field s z (int []) ≡ Err BadName
field_no_name = refl

field_taken : add_field s t (int b) ≡ Err NameTaken
field_taken = refl

field_no_type : add_field s z (int c) ≡ Err UnknownType
field_no_type = refl

-- a stored record without the field has null there, one with fewer cells than the type was added with is none
fills_c : filled c_type made ≡ Some (Int (pos 1) ∷ Int (pos 5) ∷ Null ∷ Null ∷ [])
fills_c = refl

too_few : filled c_type (Int (pos 1) ∷ Int (pos 5) ∷ []) ≡ None
too_few = refl
