-- The whole cluster: the pipeline, and how far each server has pulled what the logs have.
use Rattle.std.specs.Prelude.{◌≡◌, ℕ, zero, suc, ◌-◌, ◌%◌, ◌<◌, ◌≤◌, All, Bool, true, false}
use Rattle.std.specs.Prelude.{nat_lt, max, min, List, [], ◌∷◌, length, slice_index}
use Rattle.std.specs.FinMap.{empty}
use Rattle.kv_core.specs.Map.{Map}
use Rattle.cluster_core.specs.declared.answers.Work.{Work}
use Rattle.cluster_core.specs.declared.answers.Work.TheVariants.{Done, NothingToDo}
use Rattle.cluster_core.specs.History.{map_over}
use Rattle.cluster_core.specs.Decision.{Owned, owners}
use Rattle.cluster_core.specs.Roles.{HasSameRoles, PipelineState, done_with, history, raised}
use Rattle.cluster_core.specs.Tier.{ServerState, TierState, part}

-- the map that stood before the first request, the pipeline, the splits between the servers, and the clock of each
-- server
pub record ClusterState : Type 0 where
  pub base : Map
  pub pipeline : PipelineState
  pub splits : List (List ℕ)
  pub pulled : List ℕ

-- the map of the whole database at a version
abbrev pub database_at : ClusterState → ℕ → Map
database_at c version = map_over c.base (history c.pipeline) version

-- the maps of an owner's keys from this version down, one more than this number of them
abbrev pub maps_back : Map → PipelineState → Owned → ℕ → ℕ → List Map
maps_back base p owner version zero = part owner (map_over base (history p) version) ∷ []
maps_back base p owner version (suc count) =
    part owner (map_over base (history p) version) ∷ maps_back base p owner (version - 1) count

-- what a server has that has pulled up to this version
abbrev pub server_at : Map → PipelineState → Owned → ℕ → ServerState
server_at base p owner clock =
    record { version = clock; maps = maps_back base p owner clock (min p.window (clock - p.start)) }

abbrev pub servers_at : Map → PipelineState → List Owned → List ℕ → List ServerState
servers_at base p [] clocks = []
servers_at base p (owner ∷ others) [] = []
servers_at base p (owner ∷ others) (clock ∷ clocks) =
    server_at base p owner clock ∷ servers_at base p others clocks

-- the servers of a cluster: each has its part of the database at its clock and as far back as the window
abbrev pub tier_of : ClusterState → TierState
tier_of c =
    record {
      splits = c.splits;
      window = c.pipeline.window;
      servers = servers_at c.base c.pipeline (owners c.splits) c.pulled;
    }

-- the log that serves a server
abbrev pub log_of : ClusterState → ℕ → ℕ
log_of c s = slice_index c.pipeline.logged (s % length c.pipeline.logged)

-- a server may pull the next version once its log has it
abbrev pub may_pull : ClusterState → ℕ → Bool
may_pull c s = nat_lt (slice_index c.pulled s) (log_of c s)

abbrev pub pull : ℕ → ClusterState → ClusterState
pull s c = record c { pulled = raised c.pulled s }

-- there are as many resolvers, logs and servers as before
pub record HasSameServers (old new : ClusterState) : Type 0 where
  pub pipeline : HasSameRoles old.pipeline new.pipeline
  pub servers : length new.pulled ≡ length old.pulled

-- each server has pulled as far as before or further, and no further than its log; nothing else has changed
pub record HasPulled (old new : ClusterState) : Type 0 where
  pub base : new.base ≡ old.base
  pub pipeline : new.pipeline ≡ old.pipeline
  pub splits : new.splits ≡ old.splits
  pub count : length new.pulled ≡ length old.pulled
  pub on : (s : ℕ) → slice_index old.pulled s ≤ slice_index new.pulled s
  pub within : (s : ℕ) → slice_index new.pulled s ≤ max (slice_index old.pulled s) (log_of old s)

-- this server has all that its log has
abbrev pub HasWholeLog : ClusterState → ℕ → Type 0
HasWholeLog c s = log_of c s ≤ slice_index c.pulled s

-- this server lacks something that its log has
abbrev pub IsBehind : ClusterState → ℕ → Type 0
IsBehind c s = slice_index c.pulled s < log_of c s

-- some server lacks something that its log has
abbrev pub IsSomeBehind : ClusterState → Type 0
IsSomeBehind c = (s : ℕ) × (s < length c.pulled) × IsBehind c s

-- every server has all that its log has
abbrev pub IsAllPulled : ClusterState → Type 0
IsAllPulled c = (s : ℕ) → s < length c.pulled → HasWholeLog c s

-- every server has all that is reported, so that no read at the last reported version is one of the future
abbrev pub IsReadable : ClusterState → Type 0
IsReadable c = All (λ clock. c.pipeline.reported ≤ clock) c.pulled

-- a role did its next step where it might, and else left the state as it was
abbrev pub Did : {State : Type 0} → Work → Bool → State → State → State → Type 0
Did Done may old new next = (may ≡ true) × (new ≡ next)
Did NothingToDo may old new next = (may ≡ false) × (new ≡ old)

-- how many requests, the first ones, no role and no server asks for again
abbrev pub done_with_by : ℕ → ℕ → List ℕ → ℕ
done_with_by start done [] = done
done_with_by start done (clock ∷ clocks) = min (clock - start) (done_with_by start done clocks)

-- no bytes are kept of what neither a role nor a server asks for again
abbrev pub forget : ClusterState → ClusterState
forget c =
    record c {
      pipeline = record c.pipeline { forgotten = done_with_by c.pipeline.start (done_with c.pipeline) c.pulled };
    }

-- a pipeline alone, as a cluster that has no servers
abbrev pub without_servers : PipelineState → ClusterState
without_servers pipeline = record { base = empty; pipeline = pipeline; splits = []; pulled = [] }

-- the cluster with another state of its pipeline
abbrev pub with_pipeline : PipelineState → ClusterState → ClusterState
with_pipeline pipeline c = record c { pipeline = pipeline }
