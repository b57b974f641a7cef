-- The headline: what a planned query answers, and what a readable index has.
use Rattle.std.specs.Prelude.{◌≡◌, ◌≤◌, ◌<◌, ◌⊎◌, ℕ, true, List, [], ◌∷◌, Option, Some, None}
use Rattle.std.specs.List.{AllByRecursion}
use Rattle.kv_core.specs.Map.{Map}
use Rattle.cluster_core.specs.Cluster.{database_at}
use Rattle.metadata.specs.declared.cells.Cell.{Cell}
use Rattle.metadata.specs.declared.index.State.TheVariants.{Readable}
use Rattle.index_maint.specs.Kept.{HasDefined}
use Rattle.query.specs.Query as asked
use Rattle.query.specs.View.{query_of}
use Rattle.record_store.specs.Layout.{is_store_number, store_prefix}
use Rattle.record_store.specs.Store.{Serial, state_of}
use Rattle.schedule.specs.declared.step.TheConstants.{CLIENTS}
use Rattle.schedule.specs.declared.step.Command.{Command}
use Rattle.schedule.specs.declared.step.Command.TheVariants.{Execute, Query}
use Rattle.schedule.specs.declared.step.Step.{Step}
use Rattle.schedule.specs.declared.reply.Reply.{Reply}
use Rattle.schedule.specs.declared.reply.Reply.TheVariants.{Rows}
use Rattle.schedule.specs.declared.transcript.CommitEntry.{CommitEntry}
use Rattle.schedule.specs.declared.transcript.Transcript.{Transcript}
use Rattle.schedule.specs.Query.{AreRows}
use Rattle.schedule.specs.Past.{Attempt, Open, Past, open_of}
use Rattle.schedule.specs.Holds.{Stores, no_stores}
use Rattle.schedule.specs.Commits.{committed_over}
use Rattle.schedule.specs.Contract.{attempted, past_of}

-- the query that a command executes a plan for, if it does: its own, or that of the plan that was kept
abbrev pub query_executed : Command → Option asked.Query
query_executed (Query query) = Some query
query_executed (Execute plan) = Some (query_of plan.query)
query_executed command = None

-- the rows answer the query over the records that are there
abbrev pub AreRowsThere : Serial → Option asked.Query → List (List Cell) → Type 0
AreRowsThere (Some store) (Some query) cells = AreRows store query cells
AreRowsThere serial query cells = ⊥

abbrev pub IsRightlyAnswered : Serial → Command → Reply → Type 0
IsRightlyAnswered serial command (Rows cells) = AreRowsThere serial (query_executed command) cells
IsRightlyAnswered serial command reply = Unit {0}

-- each reply with rows that a transaction has is right over what is there at first, as its own accepted commands before
-- change it
abbrev pub AreRightlyAnswered : Serial → List Attempt → Type 0
AreRightlyAnswered serial [] = Unit {0}
AreRightlyAnswered serial (attempt ∷ attempts) =
    IsRightlyAnswered serial attempt.command attempt.reply × AreRightlyAnswered (attempted serial attempt) attempts

-- of each readable index of the store with a number a map has just the entries or totals that the records there define
abbrev pub HasExactIndexes : ℕ → Map → Serial → Type 0
HasExactIndexes number m None = Unit {0}
HasExactIndexes number m (Some store) =
    AllByRecursion
    (λ index. state_of store index.number ≡ Readable →
    HasDefined index.kind (store_prefix number) index store.records m)
    store.schema.indexes

-- HEADLINE, by the stores that were there at first, the map at each version from a first to a last one, the
-- transactions that are committed, and those that there were
pub record HeadlineOver (before : Stores) (maps : ℕ → Map) (commits : List CommitEntry) (first last : ℕ)
    (Was : Open → Type 0) : Type 0 where
  -- the rows of a planned query are its meaning over the records that are committed in its transaction's own store by
  -- the transaction's read version, as the transaction's own writes change them
  pub rows :
      (transaction : Open) → Was transaction →
      AreRightlyAnswered (committed_over before transaction.store commits transaction.read_version)
      transaction.attempts
  -- at every version each readable index of each store has just what the records committed in that store define
  pub indexes :
      (number : ℕ) → is_store_number number ≡ true → (version : ℕ) → first ≤ version → version ≤ last →
      HasExactIndexes number (maps version) (committed_over before number commits version)

-- one of the clients had the transaction open after one of the steps
abbrev pub WasOpen : Past → Open → Type 0
WasOpen [] transaction = ⊥
WasOpen (event ∷ past) transaction =
    ((client : ℕ) × client < CLIENTS × (open_of client (event ∷ past) ≡ Some transaction)) ⊎ WasOpen past transaction

-- so it is with a run of a schedule, where these stores were there at first
abbrev pub IsHeadlineOver : Stores → List Step → Transcript → Type 0
IsHeadlineOver before steps run =
    HeadlineOver before (database_at run.cluster) run.commits run.cluster.pipeline.start run.cluster.pipeline.reported
    (WasOpen (past_of [] steps run.replies))

-- and where there was none
abbrev pub IsHeadline : List Step → Transcript → Type 0
IsHeadline steps run = IsHeadlineOver no_stores steps run
