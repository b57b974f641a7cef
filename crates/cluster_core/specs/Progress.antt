-- What the resolvers and the logs keep of the requests, by their places in version order.
use Rattle.std.specs.Prelude.{◌≡◌, ℕ, ◌+◌, ◌-◌, ◌<◌, ◌≤◌, ◌^◌, ◌++◌, Bool, true, false, is_none, Option, Some}
use Rattle.std.specs.Prelude.{None, unwrap_or, List, [], ◌∷◌, drop, length, map, replicate, slice_get, slice_set, All}
use Rattle.std.specs.Option.{option_or, option_map_or}
use Rattle.kv_core.specs.declared.change.CommitRequest.{CommitRequest}
use Rattle.cluster_core.specs.History.{Entry}
use Rattle.cluster_core.specs.Decision.{Owned, Cause, owners, numbered}
use Rattle.cluster_core.specs.Decision.{newer_agreed, first_disturbed, is_committed}
use Rattle.cluster_core.specs.Laws.{ReadsBelow}
use Rattle.cluster_core.specs.Kept.{KeepsRecent, KnowsWriters, ReadsWithin, WritersState, no_writers}
use Rattle.cluster_core.specs.Requests.{RequestList}
use Rattle.cluster_core.specs.Roles.{PipelineState}

-- the owner that a resolver answers for, what it keeps of the requests to which it agreed, and its answer for each
-- request so far, which is None where it was told: of so many answers, the first ones, no bytes are kept
pub record ResolverState : Type 0 where
  pub owner : Owned
  pub writers : WritersState
  pub told : ℕ
  pub causes : List (Option Cause)

-- Private: a resolver that has answered for no request
abbrev pub fresh : Owned → ResolverState
fresh owner = record { owner = owner; writers = no_writers; told = 0; causes = [] }

-- Private: the owners that resolvers answer for
abbrev pub owners_of : List ResolverState → List Owned
owners_of resolvers = map (λ resolver. resolver.owner) resolvers

-- Private: for how many requests each resolver has answered
abbrev pub counts_of : List ResolverState → List ℕ
counts_of resolvers = map (λ resolver. length resolver.causes) resolvers

-- Private: an owner's answer for an entry: the cause against it, or None where the owner agrees
abbrev pub answer_of : Owned → List Entry → Entry → Option Cause
answer_of owner entries entry = first_disturbed owner (newer_agreed owner entries entry) entry.request.reads

-- Private: whether a resolver has agreed to the request at a place
abbrev pub has_agreed : ℕ → ResolverState → Bool
has_agreed place resolver = option_map_or (λ cause. is_none cause) (slice_get resolver.causes place) false

-- Private: a resolver once its next answer is told
abbrev pub tells : ResolverState → ResolverState
tells resolver =
    record resolver { told = resolver.told + 1; causes = slice_set resolver.causes resolver.told None }

-- Private: the first cause that the resolvers, in their order, keep against the request at a place
abbrev pub first_kept : ℕ → List ResolverState → Option Cause
first_kept place [] = None
first_kept place (resolver ∷ others) =
    option_or (unwrap_or (slice_get resolver.causes place) None) (first_kept place others)

-- Private: what a resolver knows of the requests to which it agreed, as far back as a later request may have read
abbrev pub Knows : ℕ → ℕ → List CommitRequest → ResolverState → Type 0
Knows window start requests resolver =
    KnowsWriters resolver.owner start requests (length resolver.causes - window) (length resolver.causes)
    resolver.writers

-- Private: a resolver knows to which of the requests within the window it agreed, keeps nothing that is older than two
-- windows, and keeps its answer for each request that isn't reported yet, and no other one
pub record IsResolver (window start : ℕ) (requests : List CommitRequest) (reported : ℕ) (resolver : ResolverState) :
    Type 0 where
  pub within : length resolver.causes ≤ length requests
  pub told : resolver.told ≡ reported
  pub knows : Knows window start requests resolver
  pub recent : KeepsRecent window (length resolver.causes) resolver.writers
  pub answers :
      (place : ℕ) (entry : Entry) → reported ≤ place → place < length resolver.causes →
      slice_get (numbered start requests) place ≡ Some entry →
      slice_get resolver.causes place ≡ Some (answer_of resolver.owner (numbered start requests) entry)

-- Private: a log has for each request so far whether it is committed, and for each that is reported; but nothing of
-- those that are forgotten
pub record IsLog (splits : List (List ℕ)) (start : ℕ) (requests : RequestList) (reported : ℕ) (passes : List Bool) :
    Type 0 where
  pub behind : reported ≤ length passes
  pub within : length passes ≤ length requests.all
  pub answers :
      (place : ℕ) (entry : Entry) → requests.forgotten ≤ place → place < length passes →
      slice_get (numbered start requests.all) place ≡ Some entry →
      slice_get passes place ≡ Some (is_committed splits (numbered start requests.all) entry)
  pub nothing : (place : ℕ) → place < requests.forgotten → slice_get passes place ≡ Some true

-- Private: a log that keeps nothing of the requests before a place
abbrev pub forgets : ℕ → List Bool → List Bool
forgets place passes = replicate place true ++ drop place passes

-- Private: the roles stand in their order: a log has only what every resolver answered for, and only what a log has is
-- reported; what a resolver may still ask for is kept
pub record IsPipeline (splits : List (List ℕ)) (window start : ℕ) (requests : RequestList)
    (resolvers : List ResolverState) (logs : List (List Bool)) (reported : ℕ) : Type 0 where
  pub versions : start + length requests.all < 2 ^ 64
  pub reads : ReadsBelow (numbered start requests.all)
  pub recent : ReadsWithin window (numbered start requests.all)
  pub owned : owners_of resolvers ≡ owners splits
  pub resolving : All (IsResolver window start requests.all reported) resolvers
  pub some_log : 1 ≤ length logs
  pub logging : All (IsLog splits start requests reported) logs
  pub ordered : All (λ passes. All (λ resolver. length passes ≤ length resolver.causes) resolvers) logs
  pub told : reported ≤ length requests.all
  pub needed : requests.forgotten ≤ reported - window

-- the pipeline as its callers see it, with a version in the place of each number of requests
abbrev pub pipeline_state :
    List (List ℕ) → ℕ → ℕ → RequestList → List ResolverState → List (List Bool) → ℕ → PipelineState
pipeline_state splits window start requests resolvers logs reported =
    record {
      splits = splits;
      window = window;
      start = start;
      requests = requests.all;
      resolved = map (λ resolver. start + length resolver.causes) resolvers;
      logged = map (λ passes. start + length passes) logs;
      reported = start + reported;
      forgotten = requests.forgotten;
    }
