-- What stands before a log that goes on from a checkpoint: a head, and the pairs of the database then.
use Rattle.std.specs.Prelude.{ℕ, ◌+◌, ◌&&◌, ◌==◌, nat_lt, if◌then◌else◌, List, [], ◌∷◌, ◌++◌, length, map, take, drop}
use Rattle.std.specs.Prelude.{Option, Some, None}
use Rattle.std.specs.Option.{option_and_then, option_map}
use Rattle.std.specs.Int.{w64, from_be_bytes, to_be_bytes}
use Rattle.durable.specs.declared.heads.Head.{Head}

-- the number that the first eight bytes are, high byte first
unfoldable pub word_in : List ℕ → ℕ
word_in bytes = from_be_bytes w64 (take 8 bytes)

-- a zero, with which no entry of a transaction begins; the generation, the version, and how many pairs follow
abbrev pub head_bytes : Head → List ℕ
head_bytes head = 0 ∷ to_be_bytes w64 head.generation ++ to_be_bytes w64 head.version ++ to_be_bytes w64 head.count

-- how long the key is, the key, and the value
abbrev pub written_pair : List ℕ × List ℕ → List ℕ
written_pair pair = to_be_bytes w64 (length pair.0) ++ pair.0 ++ pair.1

-- the head of a generation with these pairs, at a version
abbrev pub checkpoint_head : ℕ → ℕ → List (List ℕ × List ℕ) → Head
checkpoint_head generation version pairs =
    record { generation = generation; version = version; count = length pairs }

-- CHECKPOINT: the byte strings of a head, and of the pairs after it
abbrev pub checkpoint_bytes : ℕ → ℕ → List (List ℕ × List ℕ) → List (List ℕ)
checkpoint_bytes generation version pairs =
    head_bytes (checkpoint_head generation version pairs) ∷ map written_pair pairs

-- ---- read again

-- the numbers of the bytes after a zero
abbrev pub head_numbers : List ℕ → Head
head_numbers bytes =
    record { generation = word_in bytes; version = word_in (drop 8 bytes); count = word_in (drop 16 bytes) }

-- the head that a byte string is, if it is one
abbrev pub head_in : List ℕ → Option Head
head_in [] = None
head_in (byte ∷ bytes) = if (byte == 0) && (length bytes == 24) then Some (head_numbers bytes) else None

-- the head with which byte strings begin, if they do
abbrev pub head_before : List (List ℕ) → Option Head
head_before [] = None
head_before (first ∷ others) = head_in first

-- the generation of what byte strings are: that of the head before them, and 0 where there is none
abbrev pub told_generation : Option Head → ℕ
told_generation None = 0
told_generation (Some head) = head.generation

abbrev pub generation_of : List (List ℕ) → ℕ
generation_of log = told_generation (head_before log)

-- Private: the pair that a byte string is, if it is long enough for its key
abbrev pub pair_in : List ℕ → Option (List ℕ × List ℕ)
pair_in bytes =
    if nat_lt (length bytes) (8 + word_in bytes) then None
    else Some (take (word_in bytes) (drop 8 bytes), drop (8 + word_in bytes) bytes)

-- Private: the pairs that byte strings are, if each is one
abbrev pub each_pair : List (List ℕ) → Option (List (List ℕ × List ℕ))
each_pair [] = Some []
each_pair (bytes ∷ others) =
    option_and_then (λ pair. option_map (λ pairs. pair ∷ pairs) (each_pair others)) (pair_in bytes)

-- Private: the pairs after a head, if there are as many as it says
abbrev pub pairs_after : ℕ → List (List ℕ) → Option (List (List ℕ × List ℕ))
pairs_after count others = if nat_lt (length others) count then None else each_pair (take count others)
