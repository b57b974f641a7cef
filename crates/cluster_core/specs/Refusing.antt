-- When servers refuse a read of a range at a version: always with the same error, or never.
use Rattle.std.specs.Prelude.{◌≡◌, ℕ, None, Some}
use Rattle.kv_core.specs.Range.{KeyRange}
use Rattle.cluster_core.specs.Tier.{TierState, refusal}
use Rattle.kv_core.specs.declared.snapshot.ReadError.{ReadError}

-- this is the error with which they refuse it
abbrev pub MayRefuse : TierState → KeyRange → ℕ → ReadError → Type 0
MayRefuse tier range version error = refusal tier range version ≡ Some error

-- they refuse it
abbrev pub MustRefuse : TierState → KeyRange → ℕ → Type 0
MustRefuse tier range version = refusal tier range version ≡ None → ⊥
