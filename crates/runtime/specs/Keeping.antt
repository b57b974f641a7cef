-- What a commit log keeps of the log of a database, and what of it is on the disk beside the locked state.
use Rattle.std.specs.Prelude.{◌≡◌, ◌⊎◌, ℕ, ◌+◌, Bool, true, false, is_none, if◌then◌else◌, List, [], ◌∷◌, ◌++◌, ⊤}
use mathlib.Core.List.{IsPrefix}
use Rattle.runtime.specs.Origins.{Origin}
use Rattle.command_log.specs.declared.change.Change.{Change}
use Rattle.command_log.specs.declared.entry.Entry.{Entry as KeptEntry}
use Rattle.runtime.specs.declared.keeping.Keeping.{Keeping}
use Rattle.runtime.specs.declared.keeping.Keeping.TheVariants.{Off, On, Closed}
use Rattle.runtime.specs.declared.log_entry.Entry.{Entry}
use Rattle.runtime.specs.declared.outcome.Outcome.{Outcome}
use Rattle.runtime.specs.declared.outcome.Outcome.TheVariants.{Committed, Unknown}
use Rattle.runtime.specs.CommitStates.{CommitView}
use Rattle.runtime.specs.History.{Prefix}
use Rattle.runtime.specs.Logs.{cause_next, version_of}
use Rattle.runtime.specs.Traces.{changes_of}

-- ---- what is kept

-- what is kept of a submission that is committed at a version
abbrev pub kept_entry : ℕ → ℕ → ℕ → ℕ → List Change → KeptEntry
kept_entry version client number store changes =
    record { version = version; client = client; number = number; store = store; changes = changes }

-- of an entry that is committed at this version: whose submission it was, its store, and what its accepted commands
-- changed
abbrev pub kept_at : ℕ → Entry → KeptEntry
kept_at version e = kept_entry version e.client e.number e.trace.store (changes_of e.trace.attempts.list)

-- of an entry that comes next after a log: nothing where it is refused
abbrev pub kept_next : Origin → List Entry → Entry → List KeptEntry
kept_next origin log e =
    if is_none (cause_next origin log e.request) then kept_at (version_of origin log + 1) e ∷ [] else []

-- of the entries after a log, in their order
abbrev pub kept_beyond : Origin → List Entry → List Entry → List KeptEntry
kept_beyond origin log [] = []
kept_beyond origin log (e ∷ es) = kept_next origin log e ++ kept_beyond origin (log ++ e ∷ []) es

-- KEPT: the entries that a database goes on from, and then what is kept of all entries of a log
abbrev pub kept_of : Origin → List Entry → List KeptEntry
kept_of origin log = origin.before ++ kept_beyond origin [] log

-- ---- what a crash leaves

-- a file is the log of these entries, with all of the batch or with none of it
abbrev pub IsBatchOrNone :
    (List ℕ → List KeptEntry → Type 0) → List KeptEntry → List KeptEntry → List ℕ → Type 0
IsBatchOrNone is_log entries batch file = is_log file entries ⊎ is_log file (entries ++ batch)

-- SAFE: each crash leaves what is kept of all entries of this log, and maybe more after it
abbrev pub IsSafe :
    {E : Type 0} → (E → List ℕ → Type 0) → (List ℕ → List KeptEntry → Type 0) → Origin → List Entry → E → Type 0
IsSafe may_leave is_log origin log end =
    (file : List ℕ) → may_leave end file → (more : List KeptEntry) × is_log file (kept_of origin log ++ more)

-- ---- the locked state

-- Private: a state, what stands beside it, whether what is committed is kept, and what of it waits to be kept
pub record LockedView (E : Type 0) : Type 0 where
  pub state : CommitView
  pub end : E
  pub keeping : Keeping
  pub waiting : List KeptEntry

-- Private: the same by its parts
abbrev pub locked_view : {E : Type 0} → CommitView → E → Keeping → List KeptEntry → LockedView E
locked_view state end keeping waiting = record { state = state; end = end; keeping = keeping; waiting = waiting }

-- Private: what is committed is kept, or was as long as anything was committed
abbrev pub is_kept : Keeping → Bool
is_kept Off = false
is_kept On = true
is_kept Closed = true

-- Private: it was kept, and nothing is committed any more
abbrev pub is_closed : Keeping → Bool
is_closed Off = false
is_closed On = false
is_closed Closed = true

-- Private: entries are kept: the file has just what is kept of a beginning of the log, all that readers see among it;
-- what is kept of the rest waits, in order; and nothing is in flight
pub record IsOn {E : Type 0} (has : E → List KeptEntry → Type 0) (state : CommitView) (waiting : List KeptEntry)
    (end : E) : Type 0 where
  pub stored : List Entry
  pub rest : List Entry
  pub begins : IsPrefix state.published stored
  pub log : state.log ≡ stored ++ rest
  pub kept : has end (kept_of state.name.origin stored)
  pub waits : waiting ≡ kept_beyond state.name.origin stored rest
  pub idle : state.due ≡ state.log

-- Private: what is on the disk beside a state. Once no more entries are kept, each crash leaves what is kept of those
-- that readers see
abbrev pub IsOnDisk :
    {E : Type 0} → (E → List KeptEntry → Type 0) → (E → List ℕ → Type 0) → (List ℕ → List KeptEntry → Type 0) →
    Keeping → CommitView → List KeptEntry → E → Type 0
IsOnDisk has may_leave is_log Off state waiting end = ⊤
IsOnDisk has may_leave is_log On state waiting end = IsOn has state waiting end
IsOnDisk has may_leave is_log Closed state waiting end = IsSafe may_leave is_log state.name.origin state.published end

-- Private: a database whose entries are kept stays one, and so much of them is on the disk
abbrev pub Keeps :
    {E : Type 0} → (E → List KeptEntry → Type 0) → (E → List ℕ → Type 0) → (List ℕ → List KeptEntry → Type 0) →
    Keeping → CommitView → List KeptEntry → E → Type 0
Keeps has may_leave is_log keeping state waiting end =
    (is_kept keeping ≡ state.name.kept) × IsOnDisk has may_leave is_log keeping state waiting end

-- STORED: where what is committed is kept, there was a moment at which each crash left what is kept of all entries of
-- this log, and maybe more after it
abbrev pub IsStored :
    {E : Type 0} → (E → List ℕ → Type 0) → (List ℕ → List KeptEntry → Type 0) → Prefix → Type 0
IsStored {E} may_leave is_log prefix =
    prefix.name.kept ≡ true → (end : E) × IsSafe may_leave is_log prefix.name.origin prefix.log end

-- ---- one request

-- Private: what is kept of a request that came to this
abbrev pub kept_by : Outcome → ℕ → ℕ → ℕ → List Change → List KeptEntry
kept_by (Committed version) client number store changes = kept_entry version client number store changes ∷ []
kept_by outcome client number store changes = []

-- Private: it is known what became of the request
abbrev pub IsOutcomeKnown : Outcome → Type 0
IsOutcomeKnown Unknown = ⊥
IsOutcomeKnown outcome = ⊤

-- Private: what is told of it
abbrev pub told_if : Bool → Outcome → Outcome
told_if goes_on outcome = if goes_on then outcome else Unknown
