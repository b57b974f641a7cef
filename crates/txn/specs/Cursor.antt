-- A range that is read in batches: what a cursor has still to give, and what it gives next.
use Rattle.std.specs.Prelude.{◌≡◌, ◌⊎◌, ℕ, Bool, nat_lt, if◌then◌else◌, Option, Some, None, List, []}
use Rattle.std.specs.Prelude.{length, take, drop, reverse}
use Rattle.std.specs.Option.{option_map_or}
use Rattle.kv_core.specs.Bytes.{next_key}
use Rattle.kv_core.specs.Map.{Map, Agree, pairs_in}
use Rattle.kv_core.specs.Range.{KeyRange}
use Rattle.kv_core.specs.Read.{last_key, range_read}
use Rattle.kv_core.specs.declared.change.CommitRequest.{CommitRequest}
use Rattle.kv_core.specs.declared.snapshot.ReadError.{ReadError}
use Rattle.kv_core.specs.declared.snapshot.ReadError.TheVariants.{Memory}
use Rattle.txn.specs.Reads.{has_read, seen}
use Rattle.txn.specs.declared.cursor.RangeCursor.{RangeCursor}
use Rattle.txn.specs.declared.cursor.TheConstants.{BATCH}

-- how many pairs a cursor reads at a time
abbrev pub BatchInPairs : Type 0
BatchInPairs = BATCH ≡ 64

-- the part of a range behind the last one of these pairs, in one direction
abbrev pub behind_last : KeyRange → Bool → List (List ℕ × List ℕ) → KeyRange
behind_last range reversed pairs =
    if reversed then record { begin = range.begin; end = last_key range.begin pairs }
    else record { begin = next_key (last_key range.begin pairs); end = range.end }

-- what is left of a range behind a read that gave these pairs: nothing where they are fewer than the limit
abbrev pub rest_behind : KeyRange → ℕ → Bool → List (List ℕ × List ℕ) → Option KeyRange
rest_behind range limit reversed pairs =
    if nat_lt (length pairs) limit then None else Some (behind_last range reversed pairs)

-- the pairs of a map that a cursor has still to give, in the order in which it gives them
abbrev pub pairs_left : Map → RangeCursor → List (List ℕ × List ℕ)
pairs_left m cursor =
    option_map_or (λ range. if cursor.reverse then reverse (pairs_in m range) else pairs_in m range) cursor.rest []

-- a batch was read: the first 64 of the pairs that the cursor had still to give, and then those behind them are left;
-- it was one read of what was left of the range, which was added as far as it decides the batch
pub record HasBatch (maps : ℕ → Map) (old : RangeCursor) (pairs : List (List ℕ × List ℕ)) (new : RangeCursor)
    (before after : CommitRequest) : Type 0 where
  pub range : KeyRange
  pub was : old.rest ≡ Some range
  pub is : new ≡ record { rest = rest_behind range BATCH old.reverse pairs; reverse = old.reverse }
  pub reads : after ≡ has_read (range_read range BATCH old.reverse pairs) before
  pub batch :
      (m : Map) → Agree after.reads (maps before.read_version) m → pairs ≡ take BATCH (pairs_left (seen before m) old)
  pub left :
      (m : Map) → Agree after.reads (maps before.read_version) m →
      pairs_left (seen before m) new ≡ drop BATCH (pairs_left (seen before m) old)

-- the cursor gave a batch; or it had come to its end, and nothing was read
abbrev pub IsNextBatch :
    (ℕ → Map) → RangeCursor → Option (List (List ℕ × List ℕ)) → RangeCursor → CommitRequest → CommitRequest → Type 0
IsNextBatch maps old (Some pairs) new before after = HasBatch maps old pairs new before after
IsNextBatch maps old None new before after = (old.rest ≡ None) × (new ≡ old) × (after ≡ before)

-- why a cursor that isn't at its end gave no batch: memory is wanting, or the read of what was left of its range is
-- refused so
abbrev pub IsNoBatch : (KeyRange → ℕ → ReadError → Type 0) → RangeCursor → ℕ → ReadError → Type 0
IsNoBatch refuses cursor version error =
    (range : KeyRange) × (cursor.rest ≡ Some range) × ((error ≡ Memory) ⊎ refuses range version error)
