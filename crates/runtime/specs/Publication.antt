-- The rule of the published state, and what its steps tell. A view is the log that its thread saw last.
use Rattle.std.specs.Prelude.{◌≡◌, ℕ, true, false, List, [], ◌∷◌, ◌++◌, map}
use mathlib.Core.List.{IsPrefix}
use mathlib.Core.Option.{some}
use lib.ListN.{get_elem?}
use Rattle.cluster_core.specs.Tier.{TierState, absorb_all}
use Rattle.runtime.specs.declared.log_entry.Entry.{Entry}
use Rattle.runtime.specs.declared.published.Published.{Published}
use Rattle.runtime.specs.declared.published.Step.{Step}
use Rattle.runtime.specs.declared.published.View.{View}
use Rattle.runtime.specs.Origins.{no_config, origin_of}
use Rattle.runtime.specs.Logs.{log_tier, logged_next}
use Rattle.runtime.specs.Submissions.{Recent, outcomes_of, version_next, with_outcome}
use Rattle.runtime.specs.History.{Name, Prefix, database_name, log_prefix, submitted_entry}

-- Private: a name in the place of one that isn't known yet
abbrev pub no_name : Name
no_name = database_name (record { number = 0; log_name = 0; cells_name = 0 }) (origin_of no_config []) false

-- Private: the view of a thread that hasn't seen the state
abbrev pub newcomer : View
newcomer = record { named = false; prefix = log_prefix no_name [] }

-- the view of a thread that knows of which database the state is, and has seen no log of it
abbrev pub knows : Name → View
knows name = record { named = true; prefix = log_prefix name [] }

-- the view of a thread that saw this log last
abbrev pub has_seen : Prefix → View
has_seen prefix = record { named = true; prefix = prefix }

-- Private: the view that a new thread is given: of which database the state is
abbrev pub newly_given : View → View
newly_given v = record { named = v.named; prefix = log_prefix v.prefix.name [] }

-- it is of the same database, and its log begins with the other one's
abbrev pub IsLater : Prefix → Prefix → Type 0
IsLater old new = (new.name ≡ old.name) × IsPrefix old.log new.log

-- Private: the servers have pulled just the published log, and the outcomes are those of its entries
abbrev pub IsFold : Published → Type 0
IsFold x =
    (x.tier ≡ log_tier x.prefix.name.origin x.prefix.log) × (x.recent ≡ outcomes_of x.prefix.name.origin x.prefix.log)

-- Private: both are of just the log, which begins with each log that a thread saw last
abbrev pub Kept : Published → List View → Type 0
Kept x views =
    IsFold x
    × ((seat : ℕ) (v : View) → get_elem? views seat ≡ some v → v.named ≡ true → IsLater v.prefix x.prefix)

-- Private: the state y was seen, whose log begins with the one that was seen before
abbrev pub Sees : View → Published → Published → View → Type 0
Sees v x y w = (w ≡ has_seen y.prefix) × IsFold y × (v.named ≡ true → IsLater v.prefix y.prefix)

-- Private: the step leads from a log to the next: it has the entry's mutations and its version where that is committed,
-- and else none, and 0
abbrev pub Leads : Name → List Entry → Step → Type 0
Leads name log step =
    (step.prefix ≡ log_prefix name (log ++ submitted_entry step.submitted ∷ []))
    × (step.mutations ≡ logged_next name.origin log step.submitted.request.value)
    × (step.version ≡ version_next name.origin log step.submitted.request.value)

-- Private: the steps after a log lead on from it, one after another
abbrev pub LeadOn : Name → List Entry → List Step → Type 0
LeadOn name log [] = Unit {0}
LeadOn name log (step ∷ steps) = Leads name log step × LeadOn name (log ++ submitted_entry step.submitted ∷ []) steps

-- Private: the entries of steps
abbrev pub entries_of : List Step → List Entry
entries_of steps = map (λ step. submitted_entry step.submitted) steps

-- Private: the servers, the outcomes and the log after a step
abbrev pub applied : TierState × Recent × Prefix → Step → TierState × Recent × Prefix
applied s step = (absorb_all step.mutations s.0, with_outcome s.1 step.submitted.client step.version, step.prefix)

-- Private: the writer's side: the log that readers take, and the entries that they don't see yet
pub record PublisherView : Type 0 where
  pub name : Name
  pub published : List Entry
  pub pending : List Entry

-- Private: the writer's side of a database of this name
abbrev pub publisher_view : Name → List Entry → List Entry → PublisherView
publisher_view name published pending = record { name = name; published = published; pending = pending }
