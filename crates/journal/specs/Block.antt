-- What a file stands for, whatever a crash, a cut or a fault of the disk made of it.
use Rattle.std.specs.Prelude.{◌≡◌, ℕ, zero, suc, ◌+◌, ◌-◌, Bool, true, ◌&&◌, ◌||◌, List, [], ◌∷◌, length}
use Rattle.std.specs.Prelude.{◌^◌, take, drop, if◌then◌else◌, ◌==◌, nat_lt, nat_le, bytes_eq, Option, Some, None}
use Rattle.std.specs.Int.{w64, from_be_bytes}
use Rattle.journal.specs.Form.{nonzeros, blocks, batch_entries}
use Rattle.journal.specs.declared.block.First.{First}
use Rattle.journal.specs.declared.block.First.TheVariants.{End, Whole, Damaged}
use Rattle.journal.specs.declared.block.Head.{Head}
use Rattle.journal.specs.declared.block.Head.TheVariants.{Closed, Part, Room, Other}

-- the number that the first eight bytes say
unfoldable pub said_number : List ℕ → ℕ
said_number bytes = from_be_bytes w64 (take 8 bytes)

-- each byte of the second list is the complement of the first list's, as far as both go
abbrev pub mirrors : List ℕ → List ℕ → Bool
mirrors [] mirror = true
mirrors (byte ∷ bytes) [] = true
mirrors (byte ∷ bytes) (other ∷ mirror) = (other == 255 - byte) && mirrors bytes mirror

-- so it may have been: where it isn't so one of both bytes is a zero, which a crash may have left in its place
abbrev pub mirrored : List ℕ → List ℕ → Bool
mirrored [] mirror = true
mirrored (byte ∷ bytes) [] = true
mirrored (byte ∷ bytes) (other ∷ mirror) =
    (other == 255 - byte || (byte == 0 || other == 0)) && mirrored bytes mirror

-- the counts fit their complement, as far as they are there
unfoldable pub counts_fit : List ℕ → Bool
counts_fit bytes = mirrors (take 16 bytes) (take 16 (drop 16 bytes))

unfoldable pub counts_torn : List ℕ → Bool
counts_torn bytes = mirrored (take 16 bytes) (take 16 (drop 16 bytes))

-- The greatest number of which a crash may have left this complement: each byte that it made zero says 255.
abbrev pub most_said : List ℕ → ℕ
most_said mirror = 2 ^ 64 - 1 - said_number mirror

-- A crash may have left these bytes of a block, up to the file's end: its counts are whole or torn, no more bytes
-- than were counted aren't zero, and none of those behind the block.
unfoldable pub may_be_torn : List ℕ → Bool
may_be_torn bytes =
    counts_torn bytes
    && (nat_le (nonzeros (drop 32 bytes)) (most_said (drop 24 bytes))
    && nonzeros (drop (64 + most_said (drop 16 bytes)) bytes) == 0)

-- What the bytes behind an open gate say: the length of a batch for whose block they have room. A part of it is
-- missing where the counts don't fit their complement, or the block is cut short.
abbrev pub behind_gate : List ℕ → Head
behind_gate bytes =
    if counts_fit bytes && nat_le (64 + said_number bytes) (length bytes) then Room (said_number bytes) else Part

-- what bytes say of the batch that they begin with; a closed gate ends them, and any that is the file's last byte
abbrev pub head_says : List ℕ → Head
head_says [] = Closed
head_says (gate ∷ bytes) =
    if gate == 0 || length bytes == 0 then Closed else (if gate == 1 then behind_gate bytes else Other)

-- the entries that these bytes are packed of, at most so many
abbrev pub first_entries : ℕ → List ℕ → List (List ℕ)
first_entries zero bytes = []
first_entries (suc most) bytes =
    if nat_lt (length bytes) 8
    then []
    else take (said_number bytes) (drop 8 bytes) ∷ first_entries most (drop (8 + said_number bytes) bytes)

unfoldable pub entries_packed : List ℕ → List (List ℕ)
entries_packed bytes = first_entries (length bytes) bytes

-- The batch of a block whose counts fit. It is the end where fewer bytes than were written aren't zero: some are
-- missing. Else it is whole if it is what is written of its entries.
unfoldable pub tested : List ℕ → First (List (List ℕ))
tested bytes =
    if nat_lt (nonzeros (drop 33 bytes)) (said_number (drop 9 bytes))
    then End
    else (let entries = entries_packed (drop 65 bytes) in
    if bytes_eq bytes (blocks entries) then Whole entries else Damaged)

-- bytes of a block of which some are missing: they are the end if a crash may have left them so
abbrev pub part_said : List ℕ → First (List (List ℕ))
part_said bytes = if may_be_torn bytes then End else Damaged

-- so they are where the block's test comes to its end, and what it comes to otherwise
abbrev pub or_part : List ℕ → First (List (List ℕ)) → First (List (List ℕ))
or_part bytes End = part_said bytes
or_part bytes (Whole batch) = Whole batch
or_part bytes Damaged = Damaged

-- what bytes of which this is said begin with; a gate that is neither open nor closed is damage
abbrev pub block_said : List ℕ → Head → First (List (List ℕ))
block_said bytes Closed = End
block_said bytes Part = part_said (drop 1 bytes)
block_said bytes (Room len) = or_part (drop 1 bytes) (tested (take (65 + len) bytes))
block_said bytes Other = Damaged

-- what bytes begin with: the end, a whole block of this batch, or damage
unfoldable pub what_begins : List ℕ → First (List (List ℕ))
what_begins bytes = block_said bytes (head_says bytes)

-- the batches of a file's longest whole beginning, and where damage stands behind them
pub record Found : Type 0 where
  pub batches : List (List (List ℕ))
  pub damage : Option ℕ

-- reading goes on behind a whole block, and nowhere else
abbrev pub goes_on : ℕ → First (List (List ℕ)) → (List (List ℕ) → Found) → Found
goes_on place End rest = record { batches = []; damage = None }
goes_on place (Whole batch) rest = let r = rest batch in record { batches = batch ∷ r.batches; damage = r.damage }
goes_on place Damaged rest = record { batches = []; damage = Some place }

-- What bytes at this place of a file have, of which the first `left` belong to a block that is read.
abbrev pub read_from : ℕ → ℕ → List ℕ → Found
read_from place left [] = record { batches = []; damage = None }
read_from place (suc left) (byte ∷ bytes) = read_from (suc place) left bytes
read_from place zero (byte ∷ bytes) =
    goes_on place (what_begins (byte ∷ bytes)) (λ batch. read_from (suc place) (length (blocks batch) - 1) bytes)

unfoldable pub found_in : List ℕ → Found
found_in file = read_from 0 0 file

-- the entries of these batches, and where damage stands behind them
pub record Contents : Type 0 where
  pub entries : List (List ℕ)
  pub damage : Option ℕ

abbrev pub contents : Found → Contents
contents found = record { entries = batch_entries found.batches; damage = found.damage }

unfoldable pub reading : List ℕ → Contents
reading file = contents (found_in file)

-- a file with no damage stands for its entries, and a damaged one for nothing
abbrev pub StandsFor : List ℕ → List (List ℕ) → Type 0
StandsFor file entries = reading file ≡ record { entries = entries; damage = None }
