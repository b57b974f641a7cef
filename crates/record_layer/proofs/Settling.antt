-- A cluster whose roles go on with the version that isn't reported, and whose servers pull it before its report.
use Rattle.std.proofs.Common.{◌≡◌, ◌∙◌, ℕ, zero, suc, ◌+◌, ◌-◌, ◌<◌, ◌≤◌, ◌%◌, min, Bool, true, false, true≢false, Option, None, Some, Result, Ok, Err, IfOk, IfErr, OnOk, List, [], ◌∷◌, All, ap, arith, cond, get_or, length, max, refl, subst, sym}
use Rattle.std.proofs.Math.Nat.{mod-lt}
use Rattle.std.proofs.lemmas.List.{get_or_default}
use Rattle.std.specs.List.{slice_get}
use Rattle.std.specs.Prelude.{slice_index}
use Rattle.kv_core.specs.declared.change.CommitRequest.{CommitRequest}
use Rattle.cluster_core.specs.declared.answers.Reported.TheVariants as reported
use Rattle.cluster_core.specs.declared.answers.Reported.{Reported}
use Rattle.cluster_core.specs.declared.answers.Work.{Work}
use Rattle.cluster_core.specs.declared.answers.Work.TheVariants.{Done, NothingToDo}
use Rattle.cluster_core.specs.Cluster.{ClusterState, Did, HasPulled, IsAllPulled, IsReadable, done_with_by, forget as forget_by_all, log_of, with_pipeline}
use Rattle.cluster_core.specs.Decision.{Cause}
use Rattle.cluster_core.specs.Roles.{AreInOrder, PipelineState, all_handled, done_with, entries, forget, may_report, outcome, report, submit, submitted, told, told_of}
use Rattle.cluster_core.proofs.Keeping.{length-numbered}
use Rattle.commits.specs.Finishing.{HasGoneOn, IsUnfinished}
use Rattle.commits.proofs.GoingOn.{finished_is, finished_told, gone_on_trans, still_answered, still_submitted}
use Rattle.commits.proofs.Handling.{has-moved, outcome-last, stood-both, stood-from, submitted-more, told-any}
use Rattle.commits.specs.Holds.{verdict}
use Rattle.record_layer.specs.declared.database.NotCommitted.{NotCommitted}
use Rattle.record_layer.specs.declared.database.NotCommitted.TheVariants.{Conflict, Later, Refused, Unknown, Unsettled}
use Rattle.record_layer.specs.Databases.{DatabaseView, IsFinished, IsCommittedAt, IsDatabase, IsNotCommitted, IsNotSettledAs, IsTaken, IsWaiting, last_told}

-- ---- a role's step

-- a step of a role is one of the pipeline
pub did_pipeline : (work : Work) (may : Bool) (old new : ClusterState) (next : PipelineState) → Did work may old new (with_pipeline next old) → Did work may old.pipeline new.pipeline next
did_pipeline Done may old new next did = (did.0, ap (λ (c : ClusterState). c.pipeline) did.1)
did_pipeline NothingToDo may old new next did = (did.0, ap (λ (c : ClusterState). c.pipeline) did.1)

-- and leaves the servers
pub did_stood : (work : Work) (may : Bool) (old new : ClusterState) (next : PipelineState) → Did work may old new (with_pipeline next old) → new ≡ with_pipeline new.pipeline old
did_stood Done may old new next did = stood-from old new next did.1
did_stood NothingToDo may old new next did = stood-from old new old.pipeline did.1

-- ---- the report

-- where it is made or not, the servers stand
pub report_stood : (may : Bool) (old new : ClusterState) (next : PipelineState) → new ≡ cond may (with_pipeline next old) old → new ≡ with_pipeline new.pipeline old
report_stood true old new next step = stood-from old new next step
report_stood false old new next step = stood-from old new old.pipeline step

pub report_pipeline : (may : Bool) (old new : ClusterState) (next : PipelineState) → new ≡ cond may (with_pipeline next old) old → new.pipeline ≡ cond may next old.pipeline
report_pipeline true old new next step = ap (λ (c : ClusterState). c.pipeline) step
report_pipeline false old new next step = ap (λ (c : ClusterState). c.pipeline) step

pub report_logged : (may : Bool) (old new : ClusterState) → new ≡ cond may (with_pipeline (report old.pipeline) old) old → new.pipeline.logged ≡ old.pipeline.logged
report_logged true old new step = ap (λ (c : ClusterState). c.pipeline.logged) step
report_logged false old new step = ap (λ (c : ClusterState). c.pipeline.logged) step

-- what servers have pulled of logs counts from other clocks of the resolvers too
pub pulled_then : (old mid new : ClusterState) → HasPulled (with_pipeline mid.pipeline old) mid → new ≡ with_pipeline new.pipeline mid → new.pipeline.logged ≡ mid.pipeline.logged → HasPulled (with_pipeline new.pipeline old) new
pulled_then old mid new pulled stood same =
    subst (HasPulled (with_pipeline new.pipeline old)) (sym stood) (record {
      base = pulled.base;
      pipeline = refl;
      splits = pulled.splits;
      count = pulled.count;
      on = pulled.on;
      within = λ s. subst (λ (logged : List ℕ). slice_index mid.pulled s ≤ max (slice_index old.pulled s) (slice_index logged (s % length logged))) (sym same) (pulled.within s);
    })

-- ---- what can be read

-- servers that go on have what they had
pub still_readable : (old new : ClusterState) → IsReadable old → HasPulled (with_pipeline new.pipeline old) new → new.pipeline.reported ≡ old.pipeline.reported → IsReadable new
still_readable old new readable pulled same k d inside =
    let count = pulled.count in
    let any = get_or_default new.pulled k d 0 inside in
    let had = readable k 0 (omega (arith, count, inside)) in
    let on = pulled.on k in
    omega (arith, any, had, on, same)

-- servers that have all of logs that have all that was submitted can be read at it
pub now_readable : (mid new : ClusterState) (version : ℕ) → HasPulled mid new → IsAllPulled new → 1 ≤ length mid.pipeline.logged → All (λ clock. version ≤ clock) mid.pipeline.logged → All (λ clock. version ≤ clock) new.pulled
now_readable mid new version pulled all some logged k d inside =
    let least : version ≤ log_of mid k = logged (k % length mid.pipeline.logged) 0 (mod-lt k (omega (arith, some))) in
    let same : log_of new k ≡ log_of mid k = ap (λ (p : PipelineState). slice_index p.logged (k % length p.logged)) pulled.pipeline in
    let whole = all k inside in
    let any = get_or_default new.pulled k d 0 inside in
    omega (arith, least, same, whole, any)

pub reported_readable : (mid new : ClusterState) (version : ℕ) → new ≡ with_pipeline new.pipeline mid → new.pipeline.reported ≡ version → All (λ clock. version ≤ clock) mid.pulled → IsReadable new
reported_readable mid new version stood reported all k d inside =
    let same : new.pulled ≡ mid.pulled = ap (λ (c : ClusterState). c.pulled) stood in
    let least : version ≤ get_or new.pulled k d = subst (All (λ clock. version ≤ clock)) (sym same) all k d inside in
    omega (arith, least, reported)

-- ---- one after another: resolvers (b), logs (c), servers (d), the report (e)

module _ (a b c d : ClusterState) (on_b : HasGoneOn a.pipeline b.pipeline) (stood_b : b ≡ with_pipeline b.pipeline a)
    (on_c : HasGoneOn b.pipeline c.pipeline) (stood_c : c ≡ with_pipeline c.pipeline b) (pulled : HasPulled c d) where
  pub on_d : HasGoneOn a.pipeline d.pipeline
  on_d = subst (HasGoneOn a.pipeline) (sym pulled.pipeline) (gone_on_trans a.pipeline b.pipeline c.pipeline on_b on_c)

  pub pulled_d : HasPulled (with_pipeline d.pipeline a) d
  pulled_d = has-moved a c d (stood-both a b c stood_b stood_c) pulled

module _ (a b c d e : ClusterState) (r : Reported) (one : IsUnfinished a.pipeline)
    (on_b : HasGoneOn a.pipeline b.pipeline) (stood_b : b ≡ with_pipeline b.pipeline a) (all_b : All (λ clock. submitted b.pipeline ≤ clock) b.pipeline.resolved)
    (on_c : HasGoneOn b.pipeline c.pipeline) (stood_c : c ≡ with_pipeline c.pipeline b) (same_c : c.pipeline.resolved ≡ b.pipeline.resolved)
    (all_c : All (λ clock. submitted c.pipeline ≤ clock) c.pipeline.logged)
    (pulled : HasPulled c d) (all_d : IsAllPulled d) (order : AreInOrder d.pipeline)
    (told : r ≡ cond (may_report d.pipeline) (outcome d.pipeline (d.pipeline.reported + 1)) reported.NothingToDo)
    (step : e ≡ cond (may_report d.pipeline) (with_pipeline (report d.pipeline) d) d) where
  on : HasGoneOn a.pipeline d.pipeline
  on = on_d a b c d on_b stood_b on_c stood_c pulled

  resolved : All (λ clock. submitted d.pipeline ≤ clock) d.pipeline.resolved
  resolved = subst (λ (p : PipelineState). All (λ clock. submitted p ≤ clock) p.resolved) (sym pulled.pipeline) (still_answered b.pipeline c.pipeline on_c same_c all_b)

  logged : All (λ clock. submitted d.pipeline ≤ clock) d.pipeline.logged
  logged = subst (λ (p : PipelineState). All (λ clock. submitted p ≤ clock) p.logged) (sym pulled.pipeline) all_c

  pub settled_is : e.pipeline ≡ all_handled a.pipeline
  settled_is = finished_is a.pipeline d.pipeline e.pipeline r one on order resolved logged told (report_pipeline (may_report d.pipeline) d e (report d.pipeline) step)

  pub settled_told : r ≡ outcome e.pipeline (submitted e.pipeline)
  settled_told = finished_told a.pipeline d.pipeline e.pipeline r one on order resolved logged told (report_pipeline (may_report d.pipeline) d e (report d.pipeline) step)

  pub settled_pulled : HasPulled (with_pipeline e.pipeline a) e
  settled_pulled =
      pulled_then a d e (pulled_d a b c d on_b stood_b on_c stood_c pulled) (report_stood (may_report d.pipeline) d e (report d.pipeline) step)
      (report_logged (may_report d.pipeline) d e step)

  pub settled_readable : IsReadable e
  settled_readable =
      let same : submitted d.pipeline ≡ submitted c.pipeline = ap submitted pulled.pipeline in
      let version : submitted d.pipeline ≡ submitted a.pipeline = still_submitted a.pipeline d.pipeline on in
      let some : 1 ≤ length c.pipeline.logged = subst (λ (p : PipelineState). 1 ≤ length p.logged) pulled.pipeline order.some_log in
      let reported : e.pipeline.reported ≡ submitted c.pipeline = ap (λ (p : PipelineState). p.reported) settled_is ∙ sym version ∙ same in
      reported_readable d e (submitted c.pipeline) (report_stood (may_report d.pipeline) d e (report d.pipeline) step) reported (now_readable c d (submitted c.pipeline) pulled all_d some all_c)

-- ---- what no role asks for again is forgotten

-- where all servers have come so far, they keep nothing back
done_by_all : (start done : ℕ) (clocks : List ℕ) → All (λ clock. done ≤ clock - start) clocks → done_with_by start done clocks ≡ done
done_by_all start done [] all = refl
done_by_all start done (clock ∷ clocks) all =
    let rest = done_by_all start done clocks (λ k d inside. all (suc k) d (omega (arith, inside))) in
    let here : done ≤ clock - start = all 0 0 (omega arith) in
    omega (arith, rest, here)

module _ (e f : ClusterState) (readable : IsReadable e) (step : f ≡ forget_by_all e) where
  pub forgotten_is : f.pipeline ≡ forget e.pipeline
  forgotten_is =
      let done = done_with e.pipeline in
      let far : All (λ clock. done ≤ clock - e.pipeline.start) e.pulled =
      λ k d inside. let least = readable k d inside in omega (arith, least) in
      ap (λ (c : ClusterState). c.pipeline) step
      ∙ ap (λ (n : ℕ). record e.pipeline { forgotten = n }) (done_by_all e.pipeline.start done e.pulled far)

  pub forgotten_told : (r : Reported) → r ≡ outcome e.pipeline (submitted e.pipeline) → r ≡ outcome f.pipeline (submitted f.pipeline)
  forgotten_told r told = told ∙ sym (ap (λ (p : PipelineState). outcome p (submitted p)) forgotten_is)

  pub forgotten_readable : IsReadable f
  forgotten_readable = subst IsReadable (sym step) readable

  pub forgotten_pulled : (a : ClusterState) → HasPulled (with_pipeline e.pipeline a) e → HasPulled (with_pipeline f.pipeline a) f
  forgotten_pulled a pulled =
      subst (λ (c : ClusterState). HasPulled (with_pipeline c.pipeline a) c) (sym step) (record {
        base = pulled.base;
        pipeline = refl;
        splits = pulled.splits;
        count = pulled.count;
        on = pulled.on;
        within = pulled.within;
      })

-- ---- what is told of the last request

told_something : (why : Option Cause) (version : ℕ) → told why version ≡ reported.NothingToDo → ⊥
told_something None version is = cc
told_something (Some why) version is = cc

there : {X : Type 0} (xs : List X) (i : ℕ) → i < length xs → (x : X) × (slice_get xs i ≡ Some x)
there [] i within = absurd (omega (arith, within))
there (x ∷ xs) zero within = (x, refl)
there (x ∷ xs) (suc i) within = there xs i (omega (arith, within))

-- it is something
pub last_something : (p : PipelineState) → 1 ≤ length p.requests → outcome p (submitted p) ≡ reported.NothingToDo → ⊥
last_something p some nothing =
    let count : length (entries p) ≡ length p.requests = length-numbered p.start p.requests in
    let (entry, is) = there (entries p) (submitted p - p.start - 1) (omega (arith, count, some)) in
    told_something _ entry.version (sym (ap (told_of p) is) ∙ nothing)

-- it is the verdict on it, once all roles have handled it
pub last_verdict : (new old : PipelineState) (request : CommitRequest) → new ≡ forget (all_handled (submit request old)) → outcome new (submitted new) ≡ verdict request new
last_verdict new old request is =
    let given = submit request old in
    let entry = slice_get (entries given) (submitted given - given.start - 1) in
    ap (λ (p : PipelineState). outcome p (submitted p)) is
    ∙ told-any given (all_handled given).resolved (all_handled given).logged (all_handled given).reported entry
    ∙ outcome-last old request
    ∙ ap (verdict request) (sym is)

-- ---- a database of one thread

-- a request has been submitted
pub submitted_database : (old new : ClusterState) (is_settled : Bool) (request : CommitRequest) → IsDatabase old is_settled → is_settled ≡ true → new ≡ with_pipeline (submit request old.pipeline) old → IsDatabase new false
submitted_database old new is_settled request was settled is =
    let caught = was.settled settled in
    let more = submitted-more old.pipeline request in
    subst (λ (c : ClusterState). IsDatabase c false) (sym is) (record {
      readable = was.readable;
      settled = λ is. absurd (true≢false (sym is));
      unfinished = λ _. (omega (arith, caught, more), omega (arith, more));
    })

-- ---- what a commit answers

-- by what is told of the request
abbrev pub answer_of : Reported → Result ℕ NotCommitted
answer_of (reported.Committed version) = Ok version
answer_of (reported.Conflict seen range) = Err (Conflict seen range)
answer_of reported.NothingToDo = Err Unknown

pub refused_so : (old new : DatabaseView) (r : Reported) (result : Result ℕ NotCommitted) → old.is_settled ≡ false → IsFinished old.cluster.pipeline new → 1 ≤ length new.cluster.pipeline.requests → r ≡ last_told new → result ≡ answer_of r → IfErr result (λ error. IsNotSettledAs error old new)
refused_so old new r result was settled some told_r is = subst (λ (it : Result ℕ NotCommitted). IfErr it (λ error. IsNotSettledAs error old new)) (sym is) (refused_by r refl)
  where
    refused_by : (it : Reported) → r ≡ it → IfErr (answer_of it) (λ error. IsNotSettledAs error old new)
    refused_by (reported.Committed version) p = tt
    refused_by (reported.Conflict seen range) p = (was, settled, sym told_r ∙ p)
    refused_by reported.NothingToDo p = absurd (last_something new.cluster.pipeline some (sym told_r ∙ p))

-- of a request that was taken
module _ (request : CommitRequest) (old mid new : DatabaseView) (is : mid.cluster.pipeline ≡ submit request old.cluster.pipeline) where
  settled_request : IsFinished mid.cluster.pipeline new → IsFinished (submit request old.cluster.pipeline) new
  settled_request settled = subst (λ (p : PipelineState). IsFinished p new) is settled

  told_request : IsFinished mid.cluster.pipeline new → last_told new ≡ verdict request new.cluster.pipeline
  told_request settled = last_verdict new.cluster.pipeline old.cluster.pipeline request (settled_request settled).handled

  pub committed_request : (result : Result ℕ NotCommitted) → OnOk result (IsFinished mid.cluster.pipeline new) → IfOk result (λ version. IsCommittedAt version new) → IfOk result (λ version. verdict request new.cluster.pipeline ≡ reported.Committed version)
  committed_request (Ok version) settled committed = sym (told_request settled) ∙ committed
  committed_request (Err error) settled committed = tt

  pub refused_request : (result : Result ℕ NotCommitted) → IsTaken request old → IfErr result (λ error. IsNotSettledAs error mid new) → IfErr result (λ error. IsNotCommitted error request old new)
  refused_request (Ok version) taken refused = tt
  refused_request (Err (Conflict seen range)) taken refused = (taken, settled_request refused.1, sym (told_request refused.1) ∙ refused.2)
  refused_request (Err Unknown) taken refused = (taken, subst (λ (p : PipelineState). IsWaiting p new) is refused.1)
  refused_request (Err Later) taken refused = absurd refused
  refused_request (Err (Refused error)) taken refused = absurd refused
  refused_request (Err Unsettled) taken refused = absurd refused
