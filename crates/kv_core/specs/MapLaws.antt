-- What maps after mutations, their pairs, sums, limits and refusals come to.
use Rattle.std.specs.Prelude.{◌≡◌, ◌+◌, ◌%◌, ◌^◌, ◌≤◌, ℕ, IsTrue, if◌then◌else◌}
use Rattle.std.specs.Prelude.{Option, None, Some, unwrap_or, List, [], length}
use Rattle.std.specs.FinMap.{get}
use Rattle.std.specs.FinMap.Entries.{find, is_sorted}
use Rattle.kv_core.specs.Addition.{added, number_of}
use Rattle.kv_core.specs.Bytes.{key_cmp}
use Rattle.kv_core.specs.Limits.{refusal_after, size_of_all, write_all_refusal}
use Rattle.kv_core.specs.Map.{Map, after_all, pairs_in, value_after_all}
use Rattle.kv_core.specs.Range.{KeyRange, contains}
use Rattle.kv_core.specs.declared.change.Mutation.{Mutation}
use Rattle.kv_core.specs.declared.limits.TheConstants.{MAX_KEY_BYTES, MAX_RANGE_END_BYTES}
use Rattle.kv_core.specs.declared.limits.TheConstants.{MAX_TRANSACTION_BYTES, MAX_VALUE_BYTES}

-- after mutations a map has at each key what they make of the value that it had there
abbrev pub ValuesByKey : Type 0
ValuesByKey =
    (mutations : List Mutation) (m : Map) (key : List ℕ) →
    get (after_all mutations m) key ≡ value_after_all mutations key (get m key)

-- the pairs of a range rise by their keys, with the map's value at each key of the range and nothing elsewhere
abbrev pub PairsByKey : Type 0
PairsByKey =
    (m : Map) (range : KeyRange) →
    IsTrue (is_sorted key_cmp (pairs_in m range))
    × ((key : List ℕ) → find key_cmp key (pairs_in m range) ≡ (if contains range key then get m key else None))

-- a sum has as many bytes as the operand, and is the sum of both numbers modulo what so many bytes can spell
abbrev pub SumsWrap : Type 0
SumsWrap =
    (stored : Option (List ℕ)) (operand : List ℕ) →
    (length (added stored operand) ≡ length operand)
    × (number_of (added stored operand) ≡ (number_of (unwrap_or stored []) + number_of operand) % 256 ^ length operand)

-- to add two operands, the second no longer than the first, is to add the sum of both
abbrev pub SumsJoin : Type 0
SumsJoin =
    (stored : Option (List ℕ)) (first second : List ℕ) → length second ≤ length first →
    added (Some (added stored first)) second ≡ added stored (added (Some first) second)

-- the limits in bytes: of a key, of the end of a range, of a value and of a transaction
abbrev pub LimitsInBytes : Type 0
LimitsInBytes =
    (MAX_KEY_BYTES ≡ 10_000) × (MAX_RANGE_END_BYTES ≡ 10_001)
    × (MAX_VALUE_BYTES ≡ 100_000) × (MAX_TRANSACTION_BYTES ≡ 10_000_000)

-- of the mutations before a list only their bytes matter to its refusal
abbrev pub RefusalsBySize : Type 0
RefusalsBySize =
    (mutations more : List Mutation) → write_all_refusal mutations more ≡ refusal_after (size_of_all mutations) more
