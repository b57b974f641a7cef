-- Whether a request is committed depends on the requests of its own store alone.
use Rattle.std.specs.Prelude.{◌≡◌, ℕ, ◌==◌, List, Contains, filter}
use Rattle.std.specs.List.{find}
use Rattle.std.specs.Option.{option_map_or}
use Rattle.cluster_core.specs.Decision.{Owned, agrees}
use Rattle.cluster_core.specs.History.{Entry}
use Rattle.cluster_core.specs.Roles.{PipelineState, entries}
use Rattle.schedule.specs.Past.{Submission}

-- the number of the store of the submission with this version
abbrev pub store_of : List Submission → ℕ → ℕ
store_of submissions version =
    option_map_or (λ (one : Submission). one.transaction.store)
    (find (λ (one : Submission). one.version == version) submissions) 0

-- the entries of submissions in the store with this number
abbrev pub of_store : List Submission → ℕ → List Entry → List Entry
of_store submissions number entries = filter (λ entry. store_of submissions entry.version == number) entries

-- ISOLATED: each owner of keys agrees to a request just where it does among the requests of that request's store alone
abbrev pub IsIsolated : PipelineState → List Submission → Type 0
IsIsolated p submissions =
    (owner : Owned) (entry : Entry) → Contains (entries p) entry →
    agrees owner (entries p) entry
    ≡ agrees owner (of_store submissions (store_of submissions entry.version) (entries p)) entry
