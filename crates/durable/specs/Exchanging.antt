-- What putting a checkpoint in the place of what a file has leaves.
use Rattle.std.specs.Prelude.{◌≡◌, ◌⊎◌, ◌<◌, ◌≤◌, ◌+◌, ◌^◌, ℕ, Bool, true, false, List, [], length, All}
use Rattle.journal.specs.Block.{StandsFor}
use Rattle.journal.specs.Device.{Only}
use Rattle.journal.specs.Form.{blocks}
use Rattle.journal.specs.Journal.{IsBeforeOrNone}
use Rattle.journal.specs.Standing.{device_of, is_open}
use Rattle.journal.specs.declared.device.Device.{Ghosts}
use Rattle.journal.specs.declared.device.DeviceError.TheVariants as devices
use Rattle.journal.specs.declared.error.AppendError.{AppendError}
use Rattle.journal.specs.declared.error.AppendError.TheVariants.{Memory, Full, Broken, Device}
use Rattle.journal.specs.declared.journal.Journal.{Journal}
use Rattle.replay.specs.Pairs.{all_pairs}
use Rattle.replay.specs.Replaying.{Image}
use Rattle.durable.specs.Heads.{checkpoint_bytes}

-- the file stands for these byte strings from before, for none, or for these others
abbrev pub IsRewritten : List (List ℕ) → List (List ℕ) → List ℕ → Type 0
IsRewritten before after file = IsBeforeOrNone before file ⊎ StandsFor file after

-- Private: byte strings are a checkpoint of this generation, with all pairs of a database
pub record IsCheckpointOf (generation : ℕ) (image : Image) (batch : List (List ℕ)) : Type 0 where
  pub is : batch ≡ checkpoint_bytes generation image.version (all_pairs image.map)
  pub small : generation < 2 ^ 64
  pub version_small : image.version < 2 ^ 64
  pub few : length (all_pairs image.map) < 2 ^ 64
  pub keys : All (λ pair. length pair.0 < 2 ^ 64) (all_pairs image.map)

-- a file that was emptied has no room for these byte strings
abbrev pub HasNoRoomFor : List ℕ → List (List ℕ) → Type 0
HasNoRoomFor file batch = (length file ≡ 1) × (2 ^ 63 ≤ length file + length (blocks batch))

-- a file that was emptied has no room for a checkpoint of this generation, with all pairs of a database
abbrev pub HasNoRoomForAll : List ℕ → ℕ → Image → Type 0
HasNoRoomForAll file generation image =
    HasNoRoomFor file (checkpoint_bytes generation image.version (all_pairs image.map))

-- a journal takes entries, and its file has none
pub record IsEmptied {D : Type 0} {G : Ghosts D} (seen : D → List ℕ) (may_leave : D → List ℕ → Type 0)
    (journal : Journal D G) : Type 0 where
  pub open_still : is_open journal ≡ true
  pub none : StandsFor (seen (device_of journal)) []
  pub durable : Only (seen (device_of journal)) (may_leave (device_of journal))

-- why byte strings aren't put in the place of others: memory didn't suffice, or there is no room for them, and the file
-- has none now; or the device failed, or memory ran out in it
abbrev pub IsNotRewritten :
    {D : Type 0} {G : Ghosts D} → (D → List ℕ) → (D → List ℕ → Type 0) → (D → ℕ) → Bool → List (List ℕ) →
    AppendError → D → Journal D G → Type 0
IsNotRewritten seen may_leave faults wants_memory batch Memory old new = IsEmptied seen may_leave new
IsNotRewritten seen may_leave faults wants_memory batch Full old new =
    IsEmptied seen may_leave new × HasNoRoomFor (seen (device_of new)) batch
IsNotRewritten seen may_leave faults wants_memory batch Broken old new = ⊥
IsNotRewritten seen may_leave faults wants_memory batch (Device devices.Failed) old new =
    faults old < faults (device_of new)
IsNotRewritten seen may_leave faults wants_memory batch (Device devices.Memory) old new = wants_memory ≡ true

-- Private: whether the log goes on where it is then
abbrev pub IsOpenAfter : AppendError → Bool → Type 0
IsOpenAfter (Device error) goes_on = goes_on ≡ false
IsOpenAfter error goes_on = goes_on ≡ true
