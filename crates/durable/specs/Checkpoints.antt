-- A database over two files: which file has what, and what an opening makes of both.
use Rattle.std.specs.Prelude.{◌≡◌, ◌⊎◌, ◌<◌, ◌^◌, ℕ, List, [], ◌++◌, length, All}
use Rattle.std.specs.FinMap.{from_entries}
use Rattle.journal.specs.Block.{StandsFor}
use Rattle.journal.specs.Device.{Only}
use Rattle.journal.specs.Journal.{entries_read}
use Rattle.command_log.specs.declared.entry.Entry.{Entry}
use Rattle.replay.specs.Replaying.{IsLogged}
use Rattle.durable.specs.Heads.{checkpoint_bytes, generation_of}
use Rattle.durable.specs.Keeping.{Base, HasLogOf, no_base}

-- a checkpoint of this generation: its pairs and its version are what some entries come to
pub record IsCheckpoint (generation : ℕ) (base : Base) : Type 0 where
  pub version : ℕ
  pub pairs : List (List ℕ × List ℕ)
  pub front : base.front ≡ checkpoint_bytes generation version pairs
  pub logged : IsLogged base.before (record { map = from_entries pairs; version = version })
  -- all of it can be written
  pub some : 0 < generation
  pub small : generation < 2 ^ 64
  pub version_small : version < 2 ^ 64
  pub few : length pairs < 2 ^ 64
  pub keys_small : All (λ pair. length pair.0 < 2 ^ 64) pairs

-- what a log of this generation goes on from: nothing at first, and then a checkpoint
abbrev pub IsBaseOf : ℕ → Base → Type 0
IsBaseOf generation base = ((generation ≡ 0) × (base ≡ no_base)) ⊎ IsCheckpoint generation base

-- a file has this history of a database: what it goes on from comes from the first entries, and its log has the others
pub record HasHistory (file : List ℕ) (generation : ℕ) (entries : List Entry) : Type 0 where
  pub base : Base
  pub after : List Entry
  pub split : base.before ++ after ≡ entries
  pub is_base : IsBaseOf generation base
  pub log : HasLogOf base file after

-- the other file is whole, and has nothing or an earlier generation
pub record IsOlder (file : List ℕ) (generation : ℕ) : Type 0 where
  pub whole : StandsFor file (entries_read file)
  pub older : (entries_read file ≡ []) ⊎ (generation_of (entries_read file) < generation)

-- the first of two files has the history, and the second is older
pub record IsCurrent (entries : List Entry) (file other : List ℕ) : Type 0 where
  pub generation : ℕ
  pub has : HasHistory file generation entries
  pub older : IsOlder other generation

-- HISTORY: two files have this history, whichever of them it is that has it
abbrev pub HaveHistory : List Entry → List ℕ → List ℕ → Type 0
HaveHistory entries first second = IsCurrent entries first second ⊎ IsCurrent entries second first

-- two devices' files have this history, all of it on the disk
pub record HaveOnDisk {D : Type 0} (seen : D → List ℕ) (may_leave : D → List ℕ → Type 0) (entries : List Entry)
    (device other : D) : Type 0 where
  pub files : HaveHistory entries (seen device) (seen other)
  pub durable : Only (seen device) (may_leave device)
  pub other_durable : Only (seen other) (may_leave other)
