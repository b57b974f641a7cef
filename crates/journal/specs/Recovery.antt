-- What a recovery reads, and why it is refused.
use Rattle.std.specs.Prelude.{◌≡◌, ◌⊎◌, ◌<◌, ◌≤◌, ℕ, Bool, true, List, ◌++◌, length, take, drop, Option, Some, ⊤}
use Rattle.journal.specs.Form.{file_blocks}
use Rattle.journal.specs.Block.{what_begins, reading}
use Rattle.journal.specs.Journal.{batches_read}
use Rattle.journal.specs.Words.{bytes_of_each}
use Rattle.journal.specs.declared.block.Batch.{Batch}
use Rattle.journal.specs.declared.block.First.{First}
use Rattle.journal.specs.declared.block.First.TheVariants.{End, Whole, Damaged}
use Rattle.journal.specs.declared.error.RecoverError.{RecoverError}
use Rattle.journal.specs.declared.error.RecoverError.TheVariants.{Memory, Failed, Damage, Refused}

-- a crash leaves what it might have left before, or a file that is read as this one is
abbrev pub IsAsBefore : (List ℕ → Type 0) → List ℕ → List ℕ → Type 0
IsAsBefore may_leave file c = may_leave c ⊎ (reading c ≡ reading file)

-- what was taken is what there was, and the first of these entries
pub record TookFirst (old new entries : List (List ℕ)) : Type 0 where
  pub count : ℕ
  pub within : count ≤ length entries
  pub took : new ≡ old ++ take count entries

-- The device failed only where it has failed more often, damage stands where the reading says so, and the
-- sink has refused an entry.
abbrev pub HasReason : {R : Type 0} → (faults faults_now : ℕ) → Bool → Option ℕ → RecoverError R → Type 0
HasReason faults faults_now refused damage Memory = ⊤
HasReason faults faults_now refused damage Failed = faults < faults_now
HasReason faults faults_now refused damage (Damage at) = damage ≡ Some at
HasReason faults faults_now refused damage (Refused refusal) = refused ≡ true

-- a file that is damaged, or of which the sink took no more, is left alone
abbrev pub LeavesAlone : {R : Type 0} → RecoverError R → Type 0 → Type 0
LeavesAlone Memory only_reads = ⊤
LeavesAlone Failed only_reads = ⊤
LeavesAlone (Damage at) only_reads = only_reads
LeavesAlone (Refused refusal) only_reads = only_reads

-- Private: the whole blocks of a file end at this place, and what stands there is its end
pub record EntriesEndAt (file : List ℕ) (end : ℕ) : Type 0 where
  pub split : file ≡ file_blocks (batches_read file) ++ drop end file
  pub place : length (file_blocks (batches_read file)) ≡ end
  pub nothing : what_begins (drop end file) ≡ End

-- Private: the entries of a whole block
abbrev pub batch_bytes : First Batch → First (List (List ℕ))
batch_bytes End = End
batch_bytes (Whole batch) = Whole (bytes_of_each batch.entries.items)
batch_bytes Damaged = Damaged
