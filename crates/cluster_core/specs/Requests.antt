-- The requests of a pipeline, and which of them are kept as bytes.
use Rattle.std.specs.Prelude.{ℕ, List}
use Rattle.kv_core.specs.declared.change.CommitRequest.{CommitRequest}

-- all requests, in the order in which they were submitted; of so many, the first ones, no bytes are kept
pub record RequestList : Type 0 where
  pub all : List CommitRequest
  pub forgotten : ℕ
