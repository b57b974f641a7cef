-- What a journal has, and what an append leaves.
use Rattle.std.specs.Prelude.{◌≡◌, ◌⊎◌, ◌<◌, ◌≤◌, ◌^◌, ◌-◌, ℕ, List, [], ◌∷◌, ◌++◌, length, Option}
use Rattle.journal.specs.Device.{Only}
use Rattle.journal.specs.Form.{zeros, file_blocks}
use Rattle.journal.specs.Block.{reading, found_in, StandsFor}

-- the entries of a file's longest whole beginning
abbrev pub entries_read : List ℕ → List (List ℕ)
entries_read file = let r = reading file in r.entries

-- the batches that they were added in
abbrev pub batches_read : List ℕ → List (List (List ℕ))
batches_read file = let f = found_in file in f.batches

-- where damage stands behind them
abbrev pub damage_read : List ℕ → Option ℕ
damage_read file = let r = reading file in r.damage

-- the file is the blocks of its batches, and zeros behind them, one at least
pub record IsBlocksAndZeros (file : List ℕ) : Type 0 where
  pub room : ℕ
  pub file_is : file ≡ file_blocks (batches_read file) ++ 0 ∷ zeros room

-- Private: the device's file is whole blocks up to `end`, and zeros up to its length, and is on the disk
pub record IsKeptAtRest {D : Type 0} (seen : D → List ℕ) (may_leave : D → List ℕ → Type 0)
    (device : D) (end len : ℕ) : Type 0 where
  pub file : seen device ≡ file_blocks (batches_read (seen device)) ++ zeros (len - end)
  pub place : length (file_blocks (batches_read (seen device))) ≡ end
  pub room : end < len
  pub small : len ≤ 2 ^ 63
  pub durable : Only (seen device) (may_leave device)

-- the file stands for these entries, with all of the batch or with none of it
abbrev pub IsBeforeOrAfter : List (List ℕ) → List (List ℕ) → List ℕ → Type 0
IsBeforeOrAfter entries batch file = StandsFor file entries ⊎ StandsFor file (entries ++ batch)

-- the file stands for these entries, or for none
abbrev pub IsBeforeOrNone : List (List ℕ) → List ℕ → Type 0
IsBeforeOrNone entries file = StandsFor file entries ⊎ StandsFor file []
