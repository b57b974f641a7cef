-- How large keys, values and transactions may be.
use Rattle.std.specs.Prelude.{ℕ, ◌+◌, nat_le, not, if◌then◌else◌, Option}
use Rattle.std.specs.Prelude.{Some, None, List, [], ◌∷◌, ◌++◌, length, sum_by}
use Rattle.std.specs.Option.{option_or}
use Rattle.kv_core.specs.Bytes.{key_lt, end_of_keys}
use Rattle.kv_core.specs.declared.change.Mutation.{Mutation}
use Rattle.kv_core.specs.declared.change.Mutation.TheVariants.{Set, ClearRange, Add, CompareAndClear}
use Rattle.kv_core.specs.declared.change.WriteError.{WriteError}
use Rattle.kv_core.specs.declared.change.WriteError.TheVariants.{KeyOutside, KeyTooLarge}
use Rattle.kv_core.specs.declared.change.WriteError.TheVariants.{ValueTooLarge, TransactionTooLarge}

-- the bytes that a mutation counts: key and value or operand, or begin and end
abbrev pub size_of : Mutation → ℕ
size_of (Set key value) = length key + length value
size_of (Add key operand) = length key + length operand
size_of (ClearRange range) = length range.begin + length range.end
size_of (CompareAndClear key operand) = length key + length operand

-- the bytes of a list of mutations
abbrev pub size_of_all : List Mutation → ℕ
size_of_all mutations = sum_by size_of mutations

-- why a key with a value or operand is refused: it is no key, or has over 10,000 bytes, or the other over 100,000
abbrev pub pair_refusal : List ℕ → List ℕ → Option WriteError
pair_refusal key value =
    if not (key_lt key end_of_keys) then Some KeyOutside
    else (if not (nat_le (length key) 10_000) then Some KeyTooLarge
    else (if not (nat_le (length value) 100_000) then Some ValueTooLarge else None))

-- why a mutation is refused by itself: by these, or since its range has a begin over 10,000 bytes or an end over 10,001
abbrev pub own_refusal : Mutation → Option WriteError
own_refusal (Set key value) = pair_refusal key value
own_refusal (Add key operand) = pair_refusal key operand
own_refusal (ClearRange range) =
    if not (nat_le (length range.begin) 10_000) then Some KeyTooLarge
    else (if not (nat_le (length range.end) 10_001) then Some KeyTooLarge else None)
own_refusal (CompareAndClear key operand) = pair_refusal key operand

-- why a mutation is refused after these: by itself, or since the transaction would have over 10,000,000 bytes
abbrev pub write_refusal : List Mutation → Mutation → Option WriteError
write_refusal mutations mutation =
    option_or (own_refusal mutation)
    (if not (nat_le (size_of_all mutations + size_of mutation) 10_000_000) then Some TransactionTooLarge else None)

-- why a list of mutations is refused after these: the refusal of the first of them that is refused after those before
-- it
abbrev pub write_all_refusal : List Mutation → List Mutation → Option WriteError
write_all_refusal mutations [] = None
write_all_refusal mutations (mutation ∷ more) =
    option_or (write_refusal mutations mutation) (write_all_refusal (mutations ++ mutation ∷ []) more)

-- why a list of mutations is refused after mutations of so many bytes
abbrev pub refusal_after : ℕ → List Mutation → Option WriteError
refusal_after size [] = None
refusal_after size (mutation ∷ more) =
    option_or (own_refusal mutation)
    (if nat_le (size + size_of mutation) 10_000_000 then refusal_after (size + size_of mutation) more
    else Some TransactionTooLarge)
