-- Steps one after another, over plain values.
use Rattle.std.proofs.Common.{◌≡◌, ℕ, zero, suc, ◌+◌, ◌-◌, ◌<◌, ◌≤◌, List, [], ◌∷◌, ◌++◌, length, take, get_or, map, refl, sym, ap, subst, subst₂, ◌∙◌, Option, None, replicate, append-nil, append_assoc, arith}
use Rattle.std.specs.Prelude.{All}
use Rattle.std.proofs.Math.Seq.{drop-nil}
use Rattle.std.proofs.lemmas.List.{take_more}
use Rattle.kv_core.specs.declared.change.CommitRequest.{CommitRequest}
use Rattle.kv_core.specs.Map.{Map}
use Rattle.cluster_core.specs.declared.answers.Config.{Config}
use Rattle.cluster_core.specs.Cluster.{ClusterState, database_at}
use Rattle.cluster_core.specs.Configuration.{first_cluster_over}
use Rattle.cluster_core.specs.Decision.{owners}
use Rattle.cluster_core.specs.History.{IsLegalOver}
use Rattle.cluster_core.specs.Roles.{history}
use Rattle.schedule.specs.declared.step.Step.{Step}
use Rattle.schedule.specs.declared.step.TheConstants.{CLIENTS}
use Rattle.schedule.specs.declared.reply.Reply.{Reply}
use Rattle.schedule.specs.declared.transcript.CommitEntry.{CommitEntry}
use Rattle.schedule.specs.declared.transcript.Transcript.{Transcript}
use Rattle.schedule.specs.declared.database.Database.{Database}
use Rattle.schedule.specs.declared.database.OpenTransaction.{OpenTransaction}
use Rattle.planner.specs.Asked.{AskedPlan}
use Rattle.schedule.specs.Past.{Open, Past, submitted_in}
use Rattle.schedule.specs.Contract.{EachRequest, HasReplies, HoldsCommitted, past_of}
use Rattle.schedule.specs.Holds.{HoldsAll, Stores}
use Rattle.schedule.specs.Exact.{IsExactOver, IsExactRequest, IsReplyHeld, IsReplyTo, IsSerial, IsSerialAt}
use Rattle.schedule.specs.Headline.{IsHeadlineOver, WasOpen}
use Rattle.schedule.specs.Right.{IsRightOver}
use Rattle.schedule.specs.Commits.{committed_over}
use Rattle.schedule.specs.Standing.{cluster_from, cluster_stepped}
use Rattle.schedule.specs.Running.{AreKept, HasRun, IsFirst, IsStandingAt, IsStillOpen, IsSteppedWith, StandsAfter, Steps, kept}
use Rattle.schedule.proofs.ClientSteps.{standing_as}
use Rattle.schedule.proofs.Isolated.{isolated_in}
use Rattle.schedule.proofs.Composed.{are_requests, holds_all, is_serial, open_served}
use Rattle.schedule.proofs.Promised.{all_answered, exact_indexes}
use Rattle.schedule.proofs.Transactions.{opened_next}
use Rattle.schedule.proofs.Growing.{each_reply_append, past_of_append}
use Rattle.schedule.proofs.Places.{places_first}
use Rattle.schedule.proofs.Refusing.{refusals_leave}
use Rattle.schedule.proofs.Rightly.{cluster_base, replies_held, replies_right, requests_right, serial_right, stepped_base}

-- ---- the start

-- clocks that all stand here
all_here : {X : Type 0} (xs : List X) (here top : ℕ) → here ≤ top → All (λ clock. clock ≤ top) (map (λ _. here) xs)
all_here [] here top below k d within = absurd (omega (arith, within))
all_here (x ∷ xs) here top below zero d within = below
all_here (x ∷ xs) here top below (suc k) d within = all_here xs here top below k d (omega (arith, within))

first_standing : (base : Map) (config : Config) (transactions : List (Option OpenTransaction)) → transactions ≡ replicate CLIENTS None → IsStandingAt (first_cluster_over base config) (λ client. None) [] transactions [] []
first_standing base config transactions are = record {
  begun = omega arith;
  given = omega arith;
  pulled = all_here (owners config.storage_splits) config.start (config.start + 0) (omega arith);
  places = places_first (database_at (first_cluster_over base config)) config.start transactions are;
  unreported = sym (ap (map kept) (drop-nil (config.start - config.start)));
  commits = refl;
  submitted = tt;
}

pub first_run : (base : Map) (config : Config) (database : Database) → IsFirst (first_cluster_over base config) database → HasRun (first_cluster_over base config) [] [] database
first_run base config database first = record {
  right = λ more. tt;
  cluster = λ more. sym first.cluster;
  opened = λ transaction was. absurd was;
  stands = standing_as (λ client. None) [] database (first_cluster_over base config) database.transactions.items [] [] first.cluster refl first.unreported first.commits (first_standing base config database.transactions.items first.places);
}

-- ---- one step more

-- the past of a run that is one step longer
one_more_past : (first : ClusterState) (steps : List Step) (replies : List Reply) (step : Step) (reply : Reply) (database : Database) → HasRun first steps replies database →
    past_of [] (steps ++ step ∷ []) (replies ++ reply ∷ []) ≡ (step, reply) ∷ past_of [] steps replies
one_more_past first steps replies step reply database run =
    past_of_append (λ past one answer. IsReplyTo (cluster_from first (database.cluster.pipeline.requests ++ []) past) past one answer) [] steps replies step reply (run.right [])

pub next_run : (first : ClusterState) (steps : List Step) (replies : List Reply) (step : Step) (reply : Reply) (old new : Database) → HasRun first steps replies old → Steps (past_of [] steps replies) step reply old new →
    HasRun first (steps ++ step ∷ []) (replies ++ reply ∷ []) new
next_run first steps replies step reply old new run next = record {
  right = λ more.
      subst (λ full. HasReplies IsReplyHeld first full (steps ++ step ∷ []) (replies ++ reply ∷ [])) (sym (longer more))
      (each_reply_append (λ past one answer. IsReplyTo (cluster_from first (old.cluster.pipeline.requests ++ (next.added ++ more)) past) past one answer) [] steps replies step reply (run.right (next.added ++ more))
      (subst (λ c. IsReplyTo c (past_of [] steps replies) step reply) (sym (run.cluster (next.added ++ more))) next.right));
  cluster = λ more.
      ap (cluster_from first (new.cluster.pipeline.requests ++ more)) (one_more_past first steps replies step reply old run)
      ∙ ap (cluster_stepped (new.cluster.pipeline.requests ++ more) step reply) (ap (λ full. cluster_from first full (past_of [] steps replies)) (longer more) ∙ run.cluster (next.added ++ more))
      ∙ next.moved more;
  stands = subst (λ past. StandsAfter past new) (sym (one_more_past first steps replies step reply old run)) next.after;
  opened =
      subst (λ past. (transaction : Open) → WasOpen past transaction → IsStillOpen new.cluster transaction) (sym (one_more_past first steps replies step reply old run))
      (opened_next (past_of [] steps replies) step reply old new run.stands next run.opened);
}
  where
    longer : (more : List CommitRequest) → new.cluster.pipeline.requests ++ more ≡ old.cluster.pipeline.requests ++ (next.added ++ more)
    longer more = ap (λ rs. rs ++ more) next.grown ∙ append_assoc old.cluster.pipeline.requests next.added more

-- the steps were done, and these plans are kept
abbrev pub RunsWith : ClusterState → List Step → List Reply → Database → List (Option AskedPlan) → Type 0
RunsWith first steps replies database plans = HasRun first steps replies database × AreKept (past_of [] steps replies) plans

-- so it is after one step more
pub longer_run : (first : ClusterState) (steps : List Step) (replies : List Reply) (step : Step) (reply : Reply) (old new : Database) (plans kept : List (Option AskedPlan)) →
    RunsWith first steps replies old plans → IsSteppedWith plans step reply old new → ((past : Past) → AreKept past plans → AreKept ((step, reply) ∷ past) kept) → RunsWith first (steps ++ step ∷ []) (replies ++ reply ∷ []) new kept
longer_run first steps replies step reply old new plans kept run stepped_so keeps = (
  next_run first steps replies step reply old new run.0 (stepped_so (past_of [] steps replies) run.0.stands run.1),
  subst (λ past. AreKept past kept) (sym (one_more_past first steps replies step reply old run.0)) (keeps (past_of [] steps replies) run.1),
)

-- a turn of the loop over steps
pub turn : (first : ClusterState) (steps : List Step) (i : ℕ) (step : Step) (before after : List Reply) (reply : Reply) (old new : Database) (plans kept : List (Option AskedPlan)) → i < length steps → step ≡ get_or steps i step → after ≡ before ++ reply ∷ [] →
    RunsWith first (take i steps) before old plans → IsSteppedWith plans step reply old new → ((past : Past) → AreKept past plans → AreKept ((step, reply) ∷ past) kept) → RunsWith first (take (i + 1) steps) after new kept
turn first steps i step before after reply old new plans kept within is pushed run stepped_so keeps =
    let longer : take (i + 1) steps ≡ take i steps ++ step ∷ [] = take_more steps i step within ∙ ap (λ s. take i steps ++ s ∷ []) (sym is) in
    subst₂ (λ ss rs. RunsWith first ss rs new kept) (sym longer) (sym pushed) (longer_run first (take i steps) before step reply old new plans kept run stepped_so keeps)

-- a run leaves the base
pub run_base : (first : ClusterState) (steps : List Step) (replies : List Reply) (database : Database) → HasRun first steps replies database → database.cluster.base ≡ first.base
run_base first steps replies database run =
    ap (λ (c : ClusterState). c.base) (sym (run.cluster [])) ∙ cluster_base first (database.cluster.pipeline.requests ++ []) (past_of [] steps replies)

-- so does a step
pub step_base : (plans : List (Option AskedPlan)) (step : Step) (reply : Reply) (old new : Database) → IsSteppedWith plans step reply old new → (past : Past) → StandsAfter past old → AreKept past plans → new.cluster.base ≡ old.cluster.base
step_base plans step reply old new is past stands keeps =
    ap (λ (c : ClusterState). c.base) (sym ((is past stands keeps).moved [])) ∙ stepped_base (new.cluster.pipeline.requests ++ []) step reply old.cluster

-- ---- the end

-- what is handed out
abbrev pub handed_out : List Reply → List CommitEntry → ClusterState → Transcript
handed_out answers entries c = record { replies = answers; commits = entries; cluster = c }

-- what was done from where the cluster was this, over stores that its base holds
module _ (first : ClusterState) (at_first : Stores) (holds : HoldsAll first.base at_first) (steps : List Step) where
  held : (answers : List Reply) (database : Database) → HasRun first steps answers database → HoldsAll database.cluster.base at_first
  held answers database run = subst (λ m. HoldsAll m at_first) (sym (run_base first steps answers database run)) holds

  -- EXACT
  exact_ends : (answers : List Reply) (database : Database) → HasRun first steps answers database → IsLegalOver database.cluster.base (history database.cluster.pipeline) →
      IsExactOver first at_first steps (handed_out answers database.commits database.cluster)
  exact_ends answers database run legal =
      let c = database.cluster in
      let subs = submitted_in (past_of [] steps answers) in
      let s = run.stands in
      let over = held answers database run in
      record {
        replies = replies_held at_first first c.pipeline.requests steps answers holds (subst (λ full. HasReplies IsReplyHeld first full steps answers) (append-nil c.pipeline.requests) (run.right []));
        serial = subst (λ commits. IsSerial at_first c commits subs) (sym s.commits) (is_serial c at_first over subs legal s.submitted);
        requests = subst (λ commits. EachRequest (IsExactRequest (database_at c) at_first commits) subs c.pipeline.requests) (sym s.commits) (are_requests c at_first over subs legal s.submitted);
      }

  -- HEADLINE
  headline_ends : (answers : List Reply) (database : Database) → HasRun first steps answers database → IsLegalOver database.cluster.base (history database.cluster.pipeline) →
      IsHeadlineOver at_first steps (handed_out answers database.commits database.cluster)
  headline_ends answers database run legal =
      let c = database.cluster in
      let subs = submitted_in (past_of [] steps answers) in
      let s = run.stands in
      let over = held answers database run in
      let there = subst (HoldsCommitted at_first c) (sym s.commits) (holds_all c at_first over subs legal s.submitted) in
      record {
        rows = λ transaction was.
            let still = run.opened transaction was in
            all_answered (committed_over at_first transaction.store database.commits transaction.read_version) transaction.attempts
            (subst (λ commits. IsSerialAt (committed_over at_first transaction.store commits transaction.read_version) transaction.attempts) (sym s.commits)
            (open_served c.base c.pipeline subs at_first over legal s.submitted transaction still.request still.is));
        indexes = λ number lawful version from upto. exact_indexes number (database_at c version) (committed_over at_first number database.commits version) ((there version from upto).each number lawful);
      }

  -- RIGHT, but for what follows from what is exact
  pub record IsEnded (run : Transcript) : Type 0 where
    pub exact : IsExactOver first at_first steps run
    pub headline : IsHeadlineOver at_first steps run
    pub right : IsRightOver first at_first steps run

  pub run_ends : (answers : List Reply) (database : Database) → HasRun first steps answers database → IsLegalOver database.cluster.base (history database.cluster.pipeline) →
      IsEnded (handed_out answers database.commits database.cluster)
  run_ends answers database run legal =
      let c = database.cluster in
      let subs = submitted_in (past_of [] steps answers) in
      let s = run.stands in
      let over = held answers database run in
      let exact = exact_ends answers database run legal in
      record {
        exact = exact;
        headline = headline_ends answers database run legal;
        right = record {
          replies = replies_right at_first first c.pipeline.requests steps answers exact.replies;
          cluster = sym (ap (λ full. cluster_from first full (past_of [] steps answers)) (sym (append-nil c.pipeline.requests)) ∙ run.cluster []);
          commits = s.commits;
          legal = subst (λ m. IsLegalOver m (history c.pipeline)) (run_base first steps answers database run) legal;
          holds = subst (HoldsCommitted at_first c) (sym s.commits) (holds_all c at_first over subs legal s.submitted);
          serial = serial_right at_first c database.commits subs exact.serial;
          requests = requests_right (database_at c) at_first database.commits subs c.pipeline.requests exact.requests;
          isolated = isolated_in (database_at c) at_first database.commits c.pipeline subs s.submitted (requests_right (database_at c) at_first database.commits subs c.pipeline.requests exact.requests);
          refusals = refusals_leave first c.pipeline.requests steps answers (subst (λ full. HasReplies IsReplyHeld first full steps answers) (append-nil c.pipeline.requests) (run.right []));
        };
      }

  -- the same, with the replies and the commits as they are handed out
  pub ended : (given answers : List Reply) (handed : List CommitEntry) (database : Database) → answers ≡ given → handed ≡ database.commits → HasRun first steps given database →
      IsLegalOver database.cluster.base (history database.cluster.pipeline) → IsEnded (handed_out answers handed database.cluster)
  ended given answers handed database is_answers is_handed run legal =
      subst₂ (λ rs es. IsEnded (handed_out rs es database.cluster)) (sym is_answers) (sym is_handed) (run_ends given database run legal)
