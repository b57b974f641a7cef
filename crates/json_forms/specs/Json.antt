-- What the values of a script stand for: lists, objects of exactly some keys, and lists of things.
use Rattle.std.specs.Prelude.{ℕ, nat_le, Bool, true, false, ◌&&◌, ◌==◌, if◌then◌else◌, List, length}
use Rattle.std.specs.Prelude.{[], ◌∷◌, Option, Some, None, option_map, option_and_then}
use Rattle.std.specs.List.{list_any}
use Rattle.std.specs.Option.{option_map_or}
use Rattle.std.specs.Result.{result_ok}
use Rattle.std.specs.Str.{bytes_eq, is_utf8}
use Rattle.hex.specs.Hex.{decode_of}
use Rattle.serde_json.specs.Data.{Data, Items, no_items, item, Members, no_members, member, object, put, string}
use Rattle.serde_json.specs.Events.{members_len}
use Rattle.serde_json.specs.Find.{as_array, as_number, as_object, as_str, as_u64, get}
use Rattle.serde_json.specs.Read.{read}

-- the values in a list
abbrev pub json_values : Items → List Data
json_values no_items = []
json_values (item d ds) = d ∷ json_values ds

-- the values in a value that is a list
abbrev pub list_in : Data → Option (List Data)
list_in d = option_map json_values (as_array d)

-- how many keys a value has that is an object
abbrev pub key_count : Data → Option ℕ
key_count d = option_map members_len (as_object d)

-- a text is one of some texts
abbrev pub is_among : List (List ℕ) → List ℕ → Bool
is_among texts text = list_any (λ one. bytes_eq one text) texts

-- members have no key but these
abbrev pub are_among : List (List ℕ) → Members → Bool
are_among keys no_members = true
are_among keys (member key d ms) = is_among keys key && are_among keys ms

-- a value is an object that has no key but these
abbrev pub has_only : List (List ℕ) → Data → Bool
has_only keys d = option_map_or (are_among keys) (as_object d) false

-- what stands at the key of an object that has no other
abbrev pub only_member : List ℕ → Data → Option Data
only_member key d = option_and_then (λ count. if count == 1 then get key d else None) (key_count d)

-- the whole number without sign that a value is
abbrev pub number_in : Data → Option ℕ
number_in d = option_and_then as_u64 (as_number d)

-- the bytes that a text writes in pairs of hexadecimal digits
abbrev pub hex_in : Data → Option (List ℕ)
hex_in d = option_and_then (λ digits. result_ok (decode_of digits)) (as_str d)

-- what each of some values stands for, where each stands for something
abbrev pub each_in : {A : Type 0} → (Data → Option A) → List Data → Option (List A)
each_in f [] = Some []
each_in f (d ∷ ds) = option_and_then (λ one. option_map (λ more. one ∷ more) (each_in f ds)) (f d)

-- what each value in a list stands for, where each stands for something
abbrev pub all_in : {A : Type 0} → (Data → Option A) → Data → Option (List A)
all_in f d = option_and_then (each_in f) (list_in d)

-- what stands beside a name in a table
abbrev pub named : {A : Type 0} → List (List ℕ × A) → List ℕ → Option A
named [] name = None
named (row ∷ rows) name = if bytes_eq row.0 name then Some row.1 else named rows name

-- the value of a text of JSON in UTF-8 that isn't too long to be read
abbrev pub value_in : List ℕ → Option Data
value_in text = if nat_le (length text) 4000000 && is_utf8 text then read text else None

-- what the value at a key of an object stands for
abbrev pub member_in : {A : Type 0} → (Data → Option A) → List ℕ → Data → Option A
member_in f key d = option_and_then f (get key d)

-- an object of one key, at which a text stands
abbrev pub labelled : List ℕ → List ℕ → Data
labelled key text = object (put key (string text) no_members)
