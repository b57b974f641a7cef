-- Private: which of two files' logs a database goes on with.
use Rattle.std.specs.Prelude.{◌≡◌, ◌⊎◌, true, false, ℕ, List}
use Rattle.journal.specs.declared.device.Device.{Ghosts}
use Rattle.durable.specs.declared.checkpointing.Checkpointed.{Checkpointed}
use Rattle.durable.specs.declared.error.ReopenError.{ReopenError}
use Rattle.durable.specs.declared.error.ReopenError.TheVariants.{SameGeneration}
use Rattle.durable.specs.Heads.{generation_of as file_generation}
use Rattle.durable.specs.Reopening.{IsLoaded, IsNotLoaded, is_current}
use Rattle.durable.specs.Twofold.{generation_of, image_of, log_device, spare_device}

-- a database is over these two devices, of which the first has its log
abbrev pub AreDevices : {D : Type 0} {G : Ghosts D} → D → D → Checkpointed D G → Type 0
AreDevices current other db = (log_device db ≡ current) × (spare_device db ≡ other)

-- its log is that of the first device, which has these byte strings
pub record IsChosenOne {D : Type 0} {G : Ghosts D} (current : D) (log : List (List ℕ)) (other : D)
    (others : List (List ℕ)) (db : Checkpointed D G) : Type 0 where
  pub newer : is_current log others ≡ true
  pub devices : AreDevices current other db
  pub generation : generation_of db ≡ file_generation log
  pub loaded : IsLoaded log (image_of db)

-- or that of the second, where the first one is older
abbrev pub IsChosen : {D : Type 0} {G : Ghosts D} → D → List (List ℕ) → D → List (List ℕ) → Checkpointed D G → Type 0
IsChosen first one second two db =
    IsChosenOne first one second two db ⊎ ((is_current one two ≡ false) × IsChosenOne second two first one db)

-- why none is gone on with
abbrev pub IsNotChosen : List (List ℕ) → List (List ℕ) → ReopenError → Type 0
IsNotChosen one two (SameGeneration generation) =
    (is_current one two ≡ false) × (is_current two one ≡ false) × (generation ≡ file_generation one)
IsNotChosen one two error =
    ((is_current one two ≡ true) × IsNotLoaded one error)
    ⊎ ((is_current one two ≡ false) × (is_current two one ≡ true) × IsNotLoaded two error)
