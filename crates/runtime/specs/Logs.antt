-- Logs: the database that a list of entries makes, and what makes one well-formed.
use Rattle.std.specs.Prelude.{◌≡◌, ◌⊎◌, All, ℕ, ◌+◌, ◌-◌, ◌<◌, ◌≤◌, ◌^◌, Bool, true, not, ◌&&◌, ◌==◌, nat_le}
use Rattle.std.specs.Prelude.{Contains, ◌++◌, count_by}
use Rattle.std.specs.Prelude.{slice_index, List, [], ◌∷◌, map, length, Option, is_none, if◌then◌else◌}
use Rattle.std.specs.List.{list_any, list_all}
use Rattle.kv_core.specs.Map.{Map}
use Rattle.kv_core.specs.declared.change.CommitRequest.{CommitRequest}
use Rattle.kv_core.specs.declared.change.Mutation.{Mutation}
use Rattle.runtime.specs.Origins.{MayBegin, Origin, base_of, stores_before}
use Rattle.cluster_core.specs.History as histories
use Rattle.cluster_core.specs.History.{map_over}
use Rattle.cluster_core.specs.Decision.{Cause, numbered, committed as committed_of, cause}
use Rattle.cluster_core.specs.Decision as decision
use Rattle.cluster_core.specs.Configuration.{first_pipeline, first_tier_over}
use Rattle.cluster_core.specs.Roles.{PipelineState, all_handled}
use Rattle.cluster_core.specs.Tier.{TierState, after_log}
use Rattle.record_store.specs.Store.{Serial}
use Rattle.schedule.specs.declared.transcript.CommitEntry.{CommitEntry}
use Rattle.schedule.specs.Past.{Open, Submission}
use Rattle.schedule.specs.Exact.{IsSerialAt}
use Rattle.schedule.specs.Headline.{HeadlineOver}
use Rattle.schedule.specs.Contract.{HoldsOver}
use Rattle.schedule.specs.Standing.{commits_of, listed}
use Rattle.schedule.specs.Commits.{committed_over}
use Rattle.schedule.specs.Turns.{AreSubmitted, IsOpenTransaction}
use Rattle.runtime.specs.Traces.{Trace}
use Rattle.runtime.specs.declared.log_entry.Entry.{Entry}
use Rattle.runtime.specs.Traces.{opened}

-- ---- the database of a log

-- the requests of the entries, in version order
abbrev pub requests_of : List Entry → List CommitRequest
requests_of log = map (λ entry. entry.request) log

-- the version of the last entry
abbrev pub version_of : Origin → List Entry → ℕ
version_of origin log = origin.config.start + length (requests_of log)

-- the requests with their versions
abbrev pub numbered_of : Origin → List Entry → List histories.Entry
numbered_of origin log = numbered origin.config.start (requests_of log)

-- the history: what the resolvers commit of the log
abbrev pub history_of : Origin → List Entry → List histories.Entry
history_of origin log = committed_of origin.config.resolver_splits (numbered_of origin log)

-- the map at a version: that which the log before comes to, after what is committed here up to there
abbrev pub log_map : Origin → List Entry → ℕ → Map
log_map origin log version = map_over (base_of origin) (history_of origin log) version

-- the pipeline where every role has handled just the log
abbrev pub pipeline_of : Origin → List Entry → PipelineState
pipeline_of origin log = all_handled (record (first_pipeline origin.config) { requests = requests_of log })

-- Private: what the logs have of a log
abbrev pub logged_mutations : Origin → List Entry → List (List Mutation)
logged_mutations origin log = decision.log origin.config.resolver_splits (numbered_of origin log)

-- Private: the servers that have pulled all of it
abbrev pub log_tier : Origin → List Entry → TierState
log_tier origin log = after_log (logged_mutations origin log) (first_tier_over (base_of origin) origin.config)

-- why a request that comes next is refused, or None where it is committed
abbrev pub cause_next : Origin → List Entry → CommitRequest → Option Cause
cause_next origin log request =
    cause origin.config.resolver_splits (numbered_of origin log)
    (record { version = version_of origin log + 1; request = request })

-- Private: what the logs have of a request that comes next
abbrev pub logged_next : Origin → List Entry → CommitRequest → List Mutation
logged_next origin log request = if is_none (cause_next origin log request) then request.mutations else []

-- ---- its transactions

-- the entries as submissions, from the version after this one on
abbrev pub submissions_from : ℕ → List Entry → List Submission
submissions_from last [] = []
submissions_from last (e ∷ es) =
    record { version = last + 1; client = e.client; transaction = opened e.request e.trace }
    ∷ submissions_from (last + 1) es

abbrev pub submissions_of : Origin → List Entry → List Submission
submissions_of origin log = submissions_from origin.config.start log

-- the committed transactions
abbrev pub commits_in : Origin → List Entry → List CommitEntry
commits_in origin log = commits_of (pipeline_of origin log) (submissions_of origin log)

-- what the accepted commands of the store's committed entries up to a version make of the store that was there before
abbrev pub committed_at : Origin → List Entry → ℕ → ℕ → Serial
committed_at origin log number version =
    committed_over (stores_before origin) number (commits_in origin log) version

-- a transaction over a log did this, which came to this request
abbrev pub IsOpenOver : Origin → List Entry → CommitRequest → Trace → Type 0
IsOpenOver origin log request trace =
    IsOpenTransaction (log_map origin log) (version_of origin log) (opened request trace) request

-- ---- well-formed logs

-- the two entries are of one submission
abbrev pub is_same_submission : Entry → Entry → Bool
is_same_submission e f = (e.client == f.client) && (e.number == f.number)

-- no submission stands twice in the log
abbrev pub is_once : List Entry → Bool
is_once [] = true
is_once (e ∷ es) = not (list_any (is_same_submission e) es) && is_once es

-- how many submissions of a client the log has
abbrev pub count_of : ℕ → List Entry → ℕ
count_of client log = count_by (λ (e : Entry). e.client == client) log

-- in the entries after a log each client's submissions are numbered on from there, one by one
abbrev pub are_in_turn : List Entry → List Entry → Bool
are_in_turn log [] = true
are_in_turn log (e ∷ es) = (e.number == count_of e.client log + 1) && are_in_turn (log ++ e ∷ []) es

-- each request came of commands that its transaction performed over the maps of the log, below its version; no
-- submission stands twice, and each client's are numbered 1, 2, 3 and so on; the database may begin as it did
pub record IsWellFormedLog (origin : Origin) (log : List Entry) : Type 0 where
  pub submitted :
      AreSubmitted (log_map origin log) (version_of origin log) origin.config.start (submissions_of origin log)
      (requests_of log)
  pub once : is_once log ≡ true
  pub in_turn : are_in_turn [] log ≡ true
  pub versions : version_of origin log < 2 ^ 64
  pub begun : MayBegin origin

-- Private: no submission in the log has a number above its client's last
abbrev pub is_numbered : List ℕ → List Entry → Bool
is_numbered last log = list_all (λ e. nat_le e.number (slice_index last e.client)) log

-- the log has the entry of a client's submission of this number
abbrev pub has_submission : ℕ → ℕ → List Entry → Bool
has_submission client number log = list_any (λ e. (e.client == client) && (e.number == number)) log

-- the log has each earlier submission of the entry's client
pub record HasEarlier (log : List Entry) (e : Entry) : Type 0 where
  pub stands : (number : ℕ) → 0 < number → number < e.number → has_submission e.client number log ≡ true

-- Private: the log has each submission whose number a client was given
pub record AreGiven (last : List ℕ) (log : List Entry) : Type 0 where
  pub stands :
      (client number : ℕ) → 0 < number → number ≤ slice_index last client → has_submission client number log ≡ true

-- Private: each client's last number is how many submissions of it the log has
pub record AreCounted (last : List ℕ) (log : List Entry) : Type 0 where
  pub counts : (client : ℕ) → slice_index last client ≡ count_of client log

-- no version is left after the log, or no number for the entry: its client's last one is the last that there is, and
-- the log has it
abbrev pub IsExhausted : Origin → List Entry → Entry → Type 0
IsExhausted origin log e =
    (version_of origin log ≡ 2 ^ 64 - 1)
    ⊎ ((e.number ≡ 2 ^ 64) × (has_submission e.client (2 ^ 64 - 1) log ≡ true))

-- the map at each version of the log holds of each store what the accepted commands of its committed entries up to
-- there make of the store that was there before, and nothing else
abbrev pub HoldsEach : Origin → List Entry → Type 0
HoldsEach origin log =
    (version : ℕ) → version ≤ version_of origin log →
    HoldsOver (stores_before origin) (commits_in origin log) version (log_map origin log version)

-- each accepted command of a committed entry has its reply in its store just before the entry's version, after the
-- entry's earlier ones
abbrev pub IsSerialLog : Origin → List Entry → Type 0
IsSerialLog origin log =
    All (λ (one : Submission). IsSerialAt (committed_at origin log one.transaction.store (one.version - 1))
    one.transaction.attempts) (listed (pipeline_of origin log) (submissions_of origin log))

-- a transaction of the log: that of one of its entries
abbrev pub IsOfLog : Origin → List Entry → Open → Type 0
IsOfLog origin log transaction =
    (one : Submission) × Contains (submissions_of origin log) one × (one.transaction ≡ transaction)

-- each accepted command of a transaction of the log has its reply in its store at the transaction's read version, after
-- the transaction's earlier ones
abbrev pub IsServedLog : Origin → List Entry → Type 0
IsServedLog origin log =
    (transaction : Open) → IsOfLog origin log transaction →
    IsSerialAt (committed_at origin log transaction.store transaction.read_version) transaction.attempts

-- the headline for a log: what the planned queries of its transactions answered, and what the readable indexes have at
-- each of its versions
abbrev pub IsHeadlineOf : Origin → List Entry → Type 0
IsHeadlineOf origin log =
    HeadlineOver (stores_before origin) (log_map origin log) (commits_in origin log) origin.config.start
    (version_of origin log) (IsOfLog origin log)
