-- What a transaction sees, and the read ranges that its reads add.
use Rattle.std.specs.Prelude.{◌≡◌, ℕ, ◌≤◌, Bool, Option, List, [], ◌∷◌, ◌++◌, length, take}
use Rattle.std.specs.FinMap.{get}
use Rattle.kv_core.specs.Range.{KeyRange, point, with_range}
use Rattle.kv_core.specs.Limits.{size_of_all}
use Rattle.kv_core.specs.declared.limits.TheConstants.{MAX_TRANSACTION_BYTES}
use Rattle.kv_core.specs.Map.{Map, after_all, value_after_all, Agree}
use Rattle.txn.specs.declared.own.OwnWrites.{OwnWrites}
use Rattle.txn.specs.Own.{own_state, under}
use Rattle.txn.specs.declared.latest.Latest.{Latest}
use Rattle.txn.specs.Latest.{NotesFirst}
use Rattle.kv_core.specs.Read.{read_of, range_read}
use Rattle.kv_core.specs.declared.change.CommitRequest.{CommitRequest}
use Rattle.kv_core.specs.declared.change.Mutation.{Mutation}

-- what a transaction sees over a map: the map after its own mutations
abbrev pub seen : CommitRequest → Map → Map
seen tx base = after_all tx.mutations base

-- the transaction with a range among its reads
abbrev pub has_read : KeyRange → CommitRequest → CommitRequest
has_read range tx = record tx { reads = with_range range tx.reads }

-- the transaction with mutations added at the end
abbrev pub with_mutations : List Mutation → CommitRequest → CommitRequest
with_mutations mutations tx = record tx { mutations = tx.mutations ++ mutations }

-- the transaction with one mutation added at the end
abbrev pub with_mutation : Mutation → CommitRequest → CommitRequest
with_mutation mutation tx = with_mutations (mutation ∷ []) tx

-- the read range of a key decides what is seen at the key
abbrev pub PointDecides : Type 0
PointDecides =
    (tx : CommitRequest) (key : List ℕ) (m n : Map) → Agree (has_read (point key) tx).reads m n →
    get (seen tx m) key ≡ get (seen tx n) key

-- the range that a read adds decides what the read gives
abbrev pub RangeDecides : Type 0
RangeDecides =
    (tx : CommitRequest) (range : KeyRange) (limit : ℕ) (reversed : Bool) (m n : Map) → 1 ≤ limit →
    Agree (has_read (range_read range limit reversed (read_of (seen tx m) range limit reversed)) tx).reads m n →
    read_of (seen tx m) range limit reversed ≡ read_of (seen tx n) range limit reversed

-- Private: own writes that stand for a list of mutations: they make of each value what the mutations make of it
abbrev pub Follow : OwnWrites → List Mutation → Type 0
Follow own mutations =
    (key : List ℕ) (before : Option (List ℕ)) → under (own_state own) key before ≡ value_after_all mutations key before

-- Private: own writes that stand for the first mutations of a list, as far as they have been noted
abbrev pub IsNoted : OwnWrites → List Mutation → Type 0
IsNoted own mutations = (own.noted ≤ length mutations) × Follow own (take own.noted mutations)

-- Private: a transaction knows the size of its mutations, which is within the limit, and its own writes and the last
-- mutations of keys are those of the mutations that each of these has noted so far
pub record IsTransaction (request : CommitRequest) (size : ℕ) (own : OwnWrites) (latest : Latest) : Type 0 where
  pub sized : size ≡ size_of_all request.mutations
  pub small : size ≤ MAX_TRANSACTION_BYTES
  pub noted : IsNoted own request.mutations
  pub placed : NotesFirst latest request.mutations
