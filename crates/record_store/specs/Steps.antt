-- What reads of a store and its errors are, beneath whole calls.
use Rattle.std.specs.Prelude.{◌≡◌, ℕ, List, [], ◌∷◌, ◌++◌, drop, length}
use Rattle.kv_core.specs.Range.{KeyRange}
use Rattle.kv_core.specs.Map.{Map}
use Rattle.kv_core.specs.declared.change.CommitRequest.{CommitRequest}
use Rattle.kv_core.specs.declared.change.WriteError.{WriteError}
use Rattle.kv_core.specs.declared.change.WriteError.TheVariants as write
use Rattle.kv_core.specs.declared.snapshot.ReadError.{ReadError}
use Rattle.kv_core.specs.declared.snapshot.ReadError.TheVariants as read
use Rattle.metadata.specs.declared.refusal.MetadataError.{MetadataError}
use Rattle.metadata.specs.declared.refusal.MetadataError.TheVariants as meta
use Rattle.metadata.specs.declared.refusal.Refusal.TheVariants.{UnknownIndex, UnknownType}
use Rattle.range_set.specs.declared.error.RangeSetError.{RangeSetError}
use Rattle.range_set.specs.declared.error.RangeSetError.TheVariants as set
use Rattle.txn.specs.Runs.{Ran}
use Rattle.record_store.specs.declared.error.StoreError.{StoreError}
use Rattle.record_store.specs.declared.error.StoreError.TheVariants.{Memory, Read, Write, Corrupt, Refused}

-- the error that want of memory is
abbrev pub no_memory : StoreError
no_memory = Memory

-- Private: the error that a name of no type is
abbrev pub unknown_type : StoreError
unknown_type = Refused UnknownType

-- Private: the error that a name of no index is
abbrev pub unknown_index : StoreError
unknown_index = Refused UnknownIndex

-- the error that a refused read is
abbrev pub of_read : ReadError → StoreError
of_read read.Memory = Memory
of_read error = Read error

-- the error that a refused write is
abbrev pub of_write : WriteError → StoreError
of_write write.Memory = Memory
of_write error = Write error

-- the error that a set of positions isn't read for
abbrev pub of_set : RangeSetError → StoreError
of_set set.Memory = Memory
of_set (set.Read error) = Read error
of_set (set.Corrupt key) = Corrupt key

-- the error that a refusal of a schema or of a record is
abbrev pub of_metadata : MetadataError → StoreError
of_metadata meta.Memory = Memory
of_metadata (meta.Refused refusal) = Refused refusal

-- a run read just these ranges, in this order, and wrote nothing, and the fact stands of every map that agrees with
-- what was read
abbrev pub DidRead : (ℕ → Map) → List KeyRange → CommitRequest → CommitRequest → (Map → Type 0) → Type 0
DidRead maps added old new Fact = Ran maps added old new [] Fact

-- the ranges are the first ones of a list
pub record IsBeginning (ranges whole : List KeyRange) : Type 0 where
  pub rest : List KeyRange
  pub is : whole ≡ ranges ++ rest

-- of the ranges that were asked for, the one after as many as were added is refused so
pub record IsNextRefused (refuses : KeyRange → ReadError → Type 0) (asked added : List KeyRange) (error : ReadError) :
    Type 0 where
  pub range : KeyRange
  pub rest : List KeyRange
  pub next : drop (length added) asked ≡ range ∷ rest
  pub refused : refuses range error
