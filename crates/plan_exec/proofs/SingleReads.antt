-- What the read of a single key comes to.
use Rattle.std.specs.Prelude.{◌≡◌, ℕ, List, [], ◌∷◌, Option}
use Rattle.std.specs.FinMap.{entries, get}
use Rattle.std.specs.FinMap.Entries.{find}
use Rattle.std.proofs.Common.{ap, ◌∙◌}
use Rattle.tuple_codec.specs.Order.{bytes_cmp}
use Rattle.kv_core.specs.Map.{Agree, Map}
use Rattle.kv_core.specs.Range.{KeyRange, point}
use Rattle.kv_core.specs.declared.change.CommitRequest.{CommitRequest}
use Rattle.txn.specs.Reads.{has_read, seen}
use Rattle.txn.proofs.Running.{ran_read}
use Rattle.record_store.specs.Steps.{DidRead}
use Rattle.plan_exec.specs.Reads.{PlanRead}
use Rattle.plan_exec.proofs.KeyRanges.{value_is}

-- a read that is kept whole
abbrev whole_read : KeyRange → PlanRead
whole_read range = record { asked = range; added = range }

module _ {maps : ℕ → Map} where
  -- the value of a key was read
  pub read_value : {old new : CommitRequest} (key other : List ℕ) (value : Option (List ℕ)) → key ≡ other → new ≡ has_read (point key) old →
      ((m : Map) → Agree new.reads (maps old.read_version) m → value ≡ get (seen old m) key) →
      DidRead maps (point other ∷ []) old new (λ m. value ≡ find bytes_cmp other (entries m))
  read_value {old = old} key other value is read answer =
      ran_read (point other) (read ∙ ap (λ k. has_read (point k) old) is) (λ m agree. answer m agree ∙ ap (get (seen old m)) is ∙ value_is (seen old m) other)
