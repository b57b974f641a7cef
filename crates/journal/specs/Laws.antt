-- What the reading of a file is, in terms of what is written.
use Rattle.std.specs.Prelude.{◌≡◌, ◌≢◌, ◌⊎◌, ◌<◌, ◌^◌, ℕ, List, ◌++◌, length, get_or, take, drop, Some, None}
use Rattle.journal.specs.Form.{nonzeros, blocks, file_blocks, batch_entries}
use Rattle.journal.specs.Block.{reading, what_begins, StandsFor}
use Rattle.journal.specs.Journal.{entries_read, batches_read, damage_read}
use Rattle.journal.specs.declared.block.First.TheVariants.{End, Damaged}

-- the blocks of the batches whose entries are read of a file, and what stands behind them
pub record HasSplit (file : List ℕ) : Type 0 where
  pub end : List ℕ
  pub split : file ≡ file_blocks (batches_read file) ++ end
  pub entries : entries_read file ≡ batch_entries (batches_read file)
  pub stops : ((what_begins end ≡ End) × (damage_read file ≡ None))
      ⊎ ((what_begins end ≡ Damaged) × (damage_read file ≡ Some (length (file_blocks (batches_read file)))))

-- every file is such blocks
abbrev pub AreSplit : Type 0
AreSplit = (file : List ℕ) → HasSplit file

-- blocks and an end stand for their entries
abbrev pub EndsStand : Type 0
EndsStand =
    (batches : List (List (List ℕ))) (end : List ℕ) → length (file_blocks batches) < 2 ^ 64 → what_begins end ≡ End
    → StandsFor (file_blocks batches ++ end) (batch_entries batches)

-- blocks and damage have their entries, and the damage behind them
abbrev pub DamageStands : Type 0
DamageStands =
    (batches : List (List (List ℕ))) (end : List ℕ) → length (file_blocks batches) < 2 ^ 64
    → what_begins end ≡ Damaged
    → reading (file_blocks batches ++ end)
    ≡ record { entries = batch_entries batches; damage = Some (length (file_blocks batches)) }

-- In the place of a block there is no end where a byte behind it isn't zero, whatever bytes of it are others: if its
-- gate isn't closed, and the complement of its length is as it was written, or all that stands behind that.
abbrev pub ChangesAreNoEnd : Type 0
ChangesAreNoEnd =
    (batch : List (List ℕ)) (changed rest : List ℕ) → length (blocks batch) < 2 ^ 64
    → length changed ≡ length (blocks batch) → get_or changed 0 0 ≢ 0 → nonzeros rest ≢ 0
    → (take 8 (drop 17 changed) ≡ take 8 (drop 17 (blocks batch))) ⊎ (drop 25 changed ≡ drop 25 (blocks batch))
    → what_begins (changed ++ rest) ≢ End
