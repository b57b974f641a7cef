-- The form of a journal's file: a block for each batch, and zeros behind them.
use Rattle.std.specs.Prelude.{ℕ, ◌+◌, ◌-◌, ◌==◌, if◌then◌else◌, List, [], ◌∷◌, ◌++◌, length, map, replicate}
use Rattle.std.specs.Int.{w64, to_be_bytes}
use Rattle.std.specs.List.{flat_map}
use Rattle.sha2.specs.Sha256.{sha256}

-- each byte's distance from 255
abbrev pub complement : List ℕ → List ℕ
complement bytes = map (λ b. 255 - b) bytes

-- how many of the bytes aren't zero
abbrev pub nonzeros : List ℕ → ℕ
nonzeros [] = 0
nonzeros (byte ∷ bytes) = (if byte == 0 then 0 else 1) + nonzeros bytes

abbrev pub zeros : ℕ → List ℕ
zeros n = replicate n 0

-- an entry, behind eight bytes of its length
abbrev pub packed_entry : List ℕ → List ℕ
packed_entry entry = to_be_bytes w64 (length entry) ++ entry

abbrev pub packed : List (List ℕ) → List ℕ
packed entries = flat_map packed_entry entries

-- how many bytes there are, and how many of them and of their digest aren't zero, in eight bytes each
unfoldable pub counts : List ℕ → List ℕ
counts bytes = to_be_bytes w64 (length bytes) ++ to_be_bytes w64 (nonzeros (sha256 bytes ++ bytes))

-- the counts, their complement and the digest of these bytes
unfoldable pub header : List ℕ → List ℕ
header bytes = counts bytes ++ complement (counts bytes) ++ sha256 bytes

-- what is written of a batch: an open gate, the header and the entries
abbrev pub blocks : List (List ℕ) → List ℕ
blocks entries = 1 ∷ header (packed entries) ++ packed entries

abbrev pub file_blocks : List (List (List ℕ)) → List ℕ
file_blocks batches = flat_map blocks batches

-- the entries of batches, in order
abbrev pub batch_entries : List (List (List ℕ)) → List (List ℕ)
batch_entries batches = flat_map (λ batch. batch) batches
