-- The tuples that JSON stands for.
use Rattle.std.specs.Prelude.{ℕ, zero, suc, ◌^◌, ◌==◌, ◌&&◌, nat_lt, if◌then◌else◌, List, length, codes}
use Rattle.std.specs.Prelude.{slice_index, drop, ℤ, pos, neg_ℤ, Option, Some, None, option_map, option_and_then}
use Rattle.std.specs.Option.{option_map_or}
use Rattle.std.specs.Result.{result_ok}
use Rattle.std.specs.Str.{all_ascii_digits}
use Rattle.std.specs.Str.Parse.{digits_value}
use Rattle.hex.specs.Hex.{decode_sized}
use Rattle.uuid.specs.Text.{parsed}
use Rattle.serde_json.specs.Data.{Data}
use Rattle.serde_json.specs.Data as json
use Rattle.serde_json.specs.Find.{as_i64, as_str}
use Rattle.serde_json.specs.Read.{read}
use Rattle.tuple_codec.specs.Item.{Item, null, bytes, text, nested, int, bool, uuid, stamp, items_from, max_nesting}
use Rattle.json_forms.specs.Json.{only_member, json_values, each_in, all_in, hex_in}

-- the number that decimal digits write, up to 2^64 - 1
abbrev pub decimal_in : List ℕ → Option ℕ
decimal_in digits =
    if nat_lt 0 (length digits) && all_ascii_digits digits && nat_lt (digits_value 10 digits) (2 ^ 64)
    then Some (digits_value 10 digits) else None

-- the whole number of a tuple that a text writes: digits, behind a minus or not
abbrev pub int_in : List ℕ → Option ℤ
int_in word =
    if slice_index word 0 == 45 then option_map (λ n. neg_ℤ (pos n)) (decimal_in (drop 1 word))
    else option_map pos (decimal_in word)

-- the twelve bytes that a text of hexadecimal digits writes
abbrev pub stamp_in : List ℕ → Option (List ℕ)
stamp_in digits = result_ok (decode_sized digits 12)

-- what a value says of a text, where it is one
abbrev pub of_text : (List ℕ → Option Item) → Data → Option Item
of_text f d = option_and_then f (as_str d)

-- the item of an object of one key: bytes, a whole number, a UUID or a versionstamp
abbrev pub object_in : Data → Option Item
object_in d =
    option_map_or (λ v. option_map bytes (hex_in v)) (only_member (codes "hex") d)
    (option_map_or (of_text (λ t. option_map int (int_in t))) (only_member (codes "int") d)
    (option_map_or (of_text (λ t. option_map uuid (parsed t))) (only_member (codes "uuid") d)
    (option_and_then (of_text (λ t. option_map stamp (stamp_in t))) (only_member (codes "stamp") d))))

-- the item that a value stands for, from what a list stands for
abbrev pub item_with : (List Data → Option Item) → Data → Option Item
item_with list json.null = Some null
item_with list (json.boolean b) = Some (bool b)
item_with list (json.number n) = option_map int (as_i64 n)
item_with list (json.string s) = Some (text s)
item_with list (json.array ds) = list (json_values ds)
item_with list (json.object ms) = object_in (json.object ms)

-- the nested tuple that a list stands for where tuples may nest so many levels deep
unfoldable pub nested_in : ℕ → List Data → Option Item
nested_in zero ds = None
nested_in (suc levels) ds = option_map (λ items. nested (items_from items)) (each_in (item_with (nested_in levels)) ds)

-- the item that a value stands for where tuples may nest so many levels deep in it
abbrev pub json_item : ℕ → Data → Option Item
json_item levels d = item_with (nested_in levels) d

-- the tuple that a list stands for
abbrev pub json_tuple : Data → Option (List Item)
json_tuple d = all_in (json_item max_nesting) d

-- the tuple that a text of JSON stands for
abbrev pub tuple_of_text : List ℕ → Option (List Item)
tuple_of_text word = option_and_then json_tuple (read word)
