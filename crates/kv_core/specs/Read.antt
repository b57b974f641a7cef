-- What a read of a map gives, and which range decides it.
use Rattle.std.specs.Prelude.{ℕ, Bool, nat_lt, if◌then◌else◌, Option, Some, None, List, [], ◌∷◌, length, take, reverse}
use Rattle.kv_core.specs.Bytes.{next_key}
use Rattle.kv_core.specs.Range.{KeyRange}
use Rattle.kv_core.specs.Map.{Map, pairs_in}
use Rattle.kv_core.specs.declared.snapshot.ReadError.{ReadError}

-- the first pairs of a list up to a limit, or with `reversed` the last ones, the last first
abbrev pub limited : ℕ → Bool → List (List ℕ × List ℕ) → List (List ℕ × List ℕ)
limited limit reversed pairs = take limit (if reversed then reverse pairs else pairs)

-- what a read of a map gives: its pairs in the range, in order or from the last one back, up to the limit
abbrev pub read_of : Map → KeyRange → ℕ → Bool → List (List ℕ × List ℕ)
read_of m range limit reversed = limited limit reversed (pairs_in m range)

-- the key of the last pair, or this one where there is none
abbrev pub last_key : List ℕ → List (List ℕ × List ℕ) → List ℕ
last_key key [] = key
last_key key (pair ∷ pairs) = last_key pair.0 pairs

-- the range that decides a read which gave these pairs: the whole range where they are fewer than the limit, else its
-- part through the last pair
abbrev pub range_read : KeyRange → ℕ → Bool → List (List ℕ × List ℕ) → KeyRange
range_read range limit reversed pairs =
    if nat_lt (length pairs) limit then range
    else (if reversed
    then record { begin = last_key range.begin pairs; end = range.end }
    else record { begin = range.begin; end = next_key (last_key range.begin pairs) })

-- Private: the value of the first pair, if there is one
abbrev pub first_value : List (List ℕ × List ℕ) → Option (List ℕ)
first_value [] = None
first_value (pair ∷ pairs) = Some pair.1

-- no read is refused
abbrev pub NeverRefuses : KeyRange → ℕ → ReadError → Type 0
NeverRefuses range version error = ⊥
