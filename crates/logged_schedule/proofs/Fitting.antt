-- So it is with all that clients have open or have submitted, after whatever steps.
use Rattle.std.proofs.Common.{◌≡◌, ◌∙◌, ◌==◌, ℕ, ◌+◌, ◌<◌, ◌≤◌, Bool, true, false, cond, List, [], ◌∷◌, ◌++◌, Option, Some, None, length, drop, get_or, nat_lt, refl, sym, ap, subst, append-nil, arith}
use Rattle.std.specs.List.{AllByRecursion}
use Rattle.std.proofs.lemmas.Bool.{eqb-true, true≢false}
use Rattle.std.proofs.lemmas.List.{length-append}
use Rattle.kv_core.specs.Map.{Map}
use Rattle.kv_core.specs.declared.change.CommitRequest.{CommitRequest}
use Rattle.cluster_core.specs.declared.answers.Config.{Config}
use Rattle.cluster_core.specs.declared.answers.SubmitError.{SubmitError}
use Rattle.cluster_core.specs.declared.answers.SubmitError.TheVariants as submitting
use Rattle.cluster_core.specs.Cluster.{ClusterState, database_at, pull, with_pipeline}
use Rattle.cluster_core.specs.Configuration.{first_cluster_over}
use Rattle.cluster_core.specs.Roles.{PipelineState, append, outcome, report, resolve, submit, submit_refusal, submitted}
use Rattle.planner.specs.Asked.{AskedPlan}
use Rattle.record_store.specs.Layout.{is_store_number}
use Rattle.schedule.specs.declared.refusal.Refusal.TheVariants.{NoSuchClient, NoTransaction, TooOld, VersionsExhausted}
use Rattle.schedule.specs.declared.reply.Reply.{Reply}
use Rattle.schedule.specs.declared.reply.Reply.TheVariants as answers
use Rattle.schedule.specs.declared.step.Command.{Command}
use Rattle.schedule.specs.declared.step.Command.TheVariants as asks
use Rattle.schedule.specs.declared.step.Step.{Step}
use Rattle.schedule.specs.declared.step.Step.TheVariants as steps
use Rattle.schedule.specs.declared.transcript.CommitEntry.{CommitEntry}
use Rattle.schedule.specs.Commits.{committed_over}
use Rattle.schedule.specs.Contract.{EachReply, InTransaction, OfClient, OfStore, WithPlan, begin_reply, commit_reply, past_of, submit_reply}
use Rattle.schedule.specs.Exact.{IsReplyHeld, IsReplyTo}
use Rattle.schedule.specs.Holds.{HoldsAll, Stores}
use Rattle.schedule.specs.Past.{Open, Past, Submission, execution, grown, is_accepted, is_changed, kept_plan, open_after, open_of, submission, submitted_in}
use Rattle.schedule.specs.Standing.{cluster_from, commits_of, is_done, is_reported, is_told, settled, with_next}
use Rattle.schedule.specs.Stepwise.{HasDoneFrom, StepwiseState}
use Rattle.schedule.proofs.Rightly.{cluster_base}
use Rattle.schedule.proofs.Submitting.{commits_submitted, maps_submitted, submitted_length}
use Rattle.logged_schedule.specs.Runs.{LosesNone}
use Rattle.logged_schedule.proofs.Even.{IsEven, full_requests, next_request}
use Rattle.logged_schedule.proofs.Limits.{Fits, Stays, fits_later, fits_more, same_stores}
use Rattle.logged_schedule.proofs.Listed.{even_next, even_none, submitted_grows}

-- ---- a step makes a later cluster

module _ (before : Stores) where
  -- the cluster is a later one, with these submissions
  abbrev Goes : ClusterState → List Submission → ClusterState → List Submission → Type 0
  Goes c subs d later = Stays before c (commits_of c.pipeline subs) d (commits_of d.pipeline later)

  same_goes : (c : ClusterState) (subs : List Submission) → Goes c subs c subs
  same_goes c subs = record { reported = omega arith; maps = λ v h. refl; stores = λ number v h. refl }

  resolved_goes : (c : ClusterState) (subs : List Submission) (r : ℕ) (b : Bool) → Goes c subs (cond b (with_pipeline (resolve r c.pipeline) c) c) subs
  resolved_goes c subs r true = record { reported = omega arith; maps = λ v h. refl; stores = λ number v h. refl }
  resolved_goes c subs r false = same_goes c subs

  logged_goes : (c : ClusterState) (subs : List Submission) (l : ℕ) (b : Bool) → Goes c subs (cond b (with_pipeline (append l c.pipeline) c) c) subs
  logged_goes c subs l true = record { reported = omega arith; maps = λ v h. refl; stores = λ number v h. refl }
  logged_goes c subs l false = same_goes c subs

  pulled_goes : (c : ClusterState) (subs : List Submission) (s : ℕ) (b : Bool) → Goes c subs (cond b (pull s c) c) subs
  pulled_goes c subs s true = record { reported = omega arith; maps = λ v h. refl; stores = λ number v h. refl }
  pulled_goes c subs s false = same_goes c subs

  abbrev told_now : PipelineState → Submission → Bool
  told_now p one = is_told (outcome p one.version)

  reported_goes : (c : ClusterState) (subs : List Submission) (b : Bool) → Goes c subs (cond b (with_pipeline (report c.pipeline) c) c) subs
  reported_goes c subs true = record {
    reported = omega arith;
    maps = λ v h. refl;
    stores = λ number v h. same_stores before number v (told_now c.pipeline) c.pipeline.reported (c.pipeline.reported + 1) subs h (omega arith);
  }
  reported_goes c subs false = same_goes c subs

  settled_goes : (c : ClusterState) (subs : List Submission) → c.pipeline.reported ≤ submitted c.pipeline → Goes c subs (settled c) subs
  settled_goes c subs given = record {
    reported = given;
    maps = λ v h. refl;
    stores = λ number v h. same_stores before number v (told_now c.pipeline) c.pipeline.reported (submitted c.pipeline) subs h given;
  }

  submitted_goes : (c : ClusterState) (R : List CommitRequest) (past : Past) (one : Submission) → IsEven R c.pipeline past → length (submitted_in past) < length R → one.version ≡ submitted c.pipeline + 1 →
      Goes c (submitted_in past) (with_pipeline (with_next R c.pipeline) c) (submitted_in past ++ one ∷ [])
  submitted_goes c R past one even within at = subst (λ q. Goes c subs (with_pipeline q c) (subs ++ one ∷ [])) (sym next) (record {
    reported = omega arith;
    maps = λ v h. maps_submitted c.base p request v (omega (arith, h, given, full));
    stores = λ number v h. ap (λ (cs : List CommitEntry). committed_over before number cs v) (sym (commits_submitted p request subs one even.versions (sym full) (omega (arith, given, full)) at));
  })
    where
      p : PipelineState
      p = c.pipeline

      subs : List Submission
      subs = submitted_in past

      full : length p.requests ≡ length subs
      full = full_requests R p past even (omega (arith, within))

      given : p.reported ≤ p.start + length subs
      given = even.given

      found : (request : CommitRequest) × (with_next R p ≡ submit request p)
      found = next_request R p past even within

      request : CommitRequest
      request = found.0

      next : with_next R p ≡ submit request p
      next = found.1

  -- ---- what fits

  abbrev FitsSome : ClusterState → List CommitEntry → Option Open → Type 0
  FitsSome c commits None = Unit {0}
  FitsSome c commits (Some open_now) = Fits before c commits open_now

  abbrev FitEach : ClusterState → List CommitEntry → List Submission → Type 0
  FitEach c commits subs = AllByRecursion (λ (one : Submission). Fits before c commits one.transaction) subs

  -- all that is open, and all that was submitted
  pub record AllFit (c : ClusterState) (past : Past) : Type 0 where
    pub opens : (client : ℕ) → FitsSome c (commits_of c.pipeline (submitted_in past)) (open_of client past)
    pub given : FitEach c (commits_of c.pipeline (submitted_in past)) (submitted_in past)

  some_later : (c d : ClusterState) (commits later : List CommitEntry) (o : Option Open) → Stays before c commits d later → FitsSome c commits o → FitsSome d later o
  some_later c d commits later None stays fits = tt
  some_later c d commits later (Some open_now) stays fits = fits_later before c d commits later open_now stays fits

  each_later : (c d : ClusterState) (commits later : List CommitEntry) (subs : List Submission) → Stays before c commits d later → FitEach c commits subs → FitEach d later subs
  each_later c d commits later [] stays fit = tt
  each_later c d commits later (one ∷ subs) stays fit = (fits_later before c d commits later one.transaction stays fit.0, each_later c d commits later subs stays fit.1)

  each_more : (c : ClusterState) (commits : List CommitEntry) (subs : List Submission) (one : Submission) → FitEach c commits subs → Fits before c commits one.transaction → FitEach c commits (subs ++ one ∷ [])
  each_more c commits [] one fit new = (new, tt)
  each_more c commits (first ∷ subs) one fit new = (fit.0, each_more c commits subs one fit.1 new)

  or_none : (c : ClusterState) (commits : List CommitEntry) (b : Bool) (o : Option Open) → FitsSome c commits o → FitsSome c commits (cond b None o)
  or_none c commits true o fits = tt
  or_none c commits false o fits = fits

  -- ---- one step

  -- where only the cluster moves
  moved_fit : (c d : ClusterState) (past longer : Past) → Goes c (submitted_in past) d (submitted_in past) → submitted_in longer ≡ submitted_in past → ((client : ℕ) → open_of client longer ≡ open_of client past) → AllFit c past → AllFit d longer
  moved_fit c d past longer goes subs opens fit =
      record {
        opens = λ client.
            subst (λ ss. FitsSome d (commits_of d.pipeline ss) (open_of client longer)) (sym subs)
            (subst (FitsSome d (commits_of d.pipeline (submitted_in past))) (sym (opens client)) (some_later c d (commits_of c.pipeline (submitted_in past)) (commits_of d.pipeline (submitted_in past)) (open_of client past) goes (fit.opens client)));
        given = subst (λ ss. FitEach d (commits_of d.pipeline ss) ss) (sym subs) (each_later c d (commits_of c.pipeline (submitted_in past)) (commits_of d.pipeline (submitted_in past)) (submitted_in past) goes fit.given);
      }

  -- where a client's transaction is another one
  changed_fit : (c : ClusterState) (past longer : Past) → submitted_in longer ≡ submitted_in past → ((client : ℕ) → FitsSome c (commits_of c.pipeline (submitted_in past)) (open_of client longer)) → AllFit c past → AllFit c longer
  changed_fit c past longer subs opens fit = record {
    opens = λ client. subst (λ ss. FitsSome c (commits_of c.pipeline ss) (open_of client longer)) (sym subs) (opens client);
    given = subst (λ ss. FitEach c (commits_of c.pipeline ss) ss) (sym subs) fit.given;
  }

  begun_fit : (c : ClusterState) (past : Past) (who store : ℕ) (reply : Reply) → IsReplyTo c past (steps.Begin who store) reply → AllFit c past → AllFit c ((steps.Begin who store, reply) ∷ past)
  begun_fit c past who store reply right fit = changed_fit c past ((steps.Begin who store, reply) ∷ past) refl (λ client. by_client client (nat_lt who 16) refl) fit
    where
      commits : List CommitEntry
      commits = commits_of c.pipeline (submitted_in past)

      Goal : ℕ → Reply → Type 0
      Goal client r = FitsSome c commits (open_after client (steps.Begin who store) r (open_of client past))

      begun : (client : ℕ) (b : Bool) → FitsSome c commits (cond b (Some (record { store = store; read_version = c.pipeline.reported; attempts = [] })) (open_of client past))
      begun client true = (omega arith, refl)
      begun client false = fit.opens client

      by_open : (client : ℕ) (o : Option Open) → reply ≡ begin_reply c o → Goal client reply
      by_open client None is = subst (Goal client) (sym is) (begun client (who == client))
      by_open client (Some open_now) is = subst (Goal client) (sym is) (fit.opens client)

      by_store : (client : ℕ) (b : Bool) → is_store_number store ≡ b → OfStore store reply (reply ≡ begin_reply c (open_of who past)) → Goal client reply
      by_store client true is of_store = by_open client (open_of who past) (of_store.0 is)
      by_store client false is of_store = subst (Goal client) (sym (of_store.1 is)) (fit.opens client)

      by_client : (client : ℕ) (b : Bool) → nat_lt who 16 ≡ b → Goal client reply
      by_client client true is = by_store client (is_store_number store) refl (right.0 is)
      by_client client false is = subst (Goal client) (sym (right.1 is)) (fit.opens client)

  -- of an accepted command it is so in the open transaction
  held_reply : (who : ℕ) (past : Past) (Is : Open → Type 0) (reply : Reply) (open_now : Open) → open_of who past ≡ Some open_now → OfClient who reply (InTransaction (open_of who past) Is reply) → is_accepted reply ≡ true → Is open_now
  held_reply who past Is reply open_now there right yes_accepted = by_client (nat_lt who 16) refl
    where
      by_client : (b : Bool) → nat_lt who 16 ≡ b → Is open_now
      by_client true is = subst (λ o. InTransaction o Is reply) there (right.0 is)
      by_client false is = absurd (true≢false (sym yes_accepted ∙ ap is_accepted (right.1 is)))

  grown_fit : (c : ClusterState) (past : Past) (who : ℕ) (command : Command) (reply : Reply) → HoldsAll c.base before →
      OfClient who reply (InTransaction (open_of who past) (λ open_now. IsReplyHeld c (commits_of c.pipeline (submitted_in past)) open_now command reply) reply) → AllFit c past →
      (client : ℕ) → FitsSome c (commits_of c.pipeline (submitted_in past)) (open_after client (steps.Perform who command) reply (open_of client past))
  grown_fit c past who command reply held right fit client = by_client (who == client) refl
    where
      commits : List CommitEntry
      commits = commits_of c.pipeline (submitted_in past)

      more : Option Open → Option Open
      more o = grown (record { command = command; reply = reply }) o

      by_open : (o : Option Open) → open_of who past ≡ o → FitsSome c commits o → FitsSome c commits (more o)
      by_open None there fits = tt
      by_open (Some open_now) there fits =
          fits_more before c commits open_now command reply held fits (held_reply who past (λ now. IsReplyHeld c commits now command reply) reply open_now there right)

      by_client : (b : Bool) → (who == client) ≡ b → FitsSome c commits (cond b (more (open_of client past)) (open_of client past))
      by_client true is = subst (λ w. FitsSome c commits (more (open_of w past))) (eqb-true who client is) (by_open (open_of who past) refl (fit.opens who))
      by_client false is = fit.opens client

  executed_fit : (c : ClusterState) (past : Past) (who : ℕ) (reply : Reply) → HoldsAll c.base before → IsReplyTo c past (steps.Execute who) reply → AllFit c past → AllFit c ((steps.Execute who, reply) ∷ past)
  executed_fit c past who reply held right fit = changed_fit c past ((steps.Execute who, reply) ∷ past) refl (by_plan (kept_plan who past) right) fit
    where
      commits : List CommitEntry
      commits = commits_of c.pipeline (submitted_in past)

      by_plan : (kept : Option AskedPlan) →
          OfClient who reply (InTransaction (open_of who past) (λ open_now. WithPlan kept (λ plan. IsReplyHeld c commits open_now (asks.Execute plan) reply) reply) reply) →
          (client : ℕ) → FitsSome c commits (open_after client (execution who kept) reply (open_of client past))
      by_plan None is client = fit.opens client
      by_plan (Some plan) is client = grown_fit c past who (asks.Execute plan) reply held is fit client

  abandoned_fit : (c : ClusterState) (past : Past) (who : ℕ) (reply : Reply) → IsReplyTo c past (steps.Abandon who) reply → AllFit c past → AllFit c ((steps.Abandon who, reply) ∷ past)
  abandoned_fit c past who reply right fit = changed_fit c past ((steps.Abandon who, reply) ∷ past) refl (λ client. by_client client (nat_lt who 16) refl) fit
    where
      commits : List CommitEntry
      commits = commits_of c.pipeline (submitted_in past)

      Goal : ℕ → Reply → Type 0
      Goal client r = FitsSome c commits (open_after client (steps.Abandon who) r (open_of client past))

      by_open : (client : ℕ) (o : Option Open) → InTransaction o (λ open_now. reply ≡ answers.Done) reply → Goal client reply
      by_open client None is = subst (Goal client) (sym is) (fit.opens client)
      by_open client (Some open_now) is = subst (Goal client) (sym is) (or_none c commits (who == client) (open_of client past) (fit.opens client))

      by_client : (client : ℕ) (b : Bool) → nat_lt who 16 ≡ b → Goal client reply
      by_client client true is = by_open client (open_of who past) (right.0 is)
      by_client client false is = subst (Goal client) (sym (right.1 is)) (fit.opens client)

  committed_fit : (first : ClusterState) (R : List CommitRequest) (past : Past) (who : ℕ) (reply : Reply) → IsEven R (cluster_from first R past).pipeline past → IsReplyTo (cluster_from first R past) past (steps.Commit who) reply →
      length (submitted_in ((steps.Commit who, reply) ∷ past)) ≤ length R → AllFit (cluster_from first R past) past → AllFit (cluster_from first R ((steps.Commit who, reply) ∷ past)) ((steps.Commit who, reply) ∷ past)
  committed_fit first R past who reply even right room fit = by_client (nat_lt who 16) refl room
    where
      c : ClusterState
      c = cluster_from first R past

      commits : List CommitEntry
      commits = commits_of c.pipeline (submitted_in past)

      Goal : Reply → Type 0
      Goal r = length (submitted_in ((steps.Commit who, r) ∷ past)) ≤ length R → AllFit (cluster_from first R ((steps.Commit who, r) ∷ past)) ((steps.Commit who, r) ∷ past)

      -- the transaction has ended
      ended : (longer : Past) → submitted_in longer ≡ submitted_in past → ((client : ℕ) → open_of client longer ≡ cond (who == client) None (open_of client past)) → AllFit c longer
      ended longer subs opens = changed_fit c past longer subs (λ client. subst (FitsSome c commits) (sym (opens client)) (or_none c commits (who == client) (open_of client past) (fit.opens client))) fit

      given : (open_now : Open) → open_of who past ≡ Some open_now → Goal (answers.Submitted (submitted c.pipeline + 1))
      given open_now there room_now =
          let one : Submission = record { version = submitted c.pipeline + 1; client = who; transaction = open_now } in
          let now : submitted_in past ++ submission who (submitted c.pipeline + 1) (open_of who past) ≡ submitted_in past ++ one ∷ [] = ap (λ o. submitted_in past ++ submission who (submitted c.pipeline + 1) o) there in
          let d = with_pipeline (with_next R c.pipeline) c in
          let longer : length (submitted_in past ++ one ∷ []) ≡ length (submitted_in past) + 1 = length-append (submitted_in past) (one ∷ []) in
          let room_for : length (submitted_in past ++ one ∷ []) ≤ length R = subst (λ ss. length ss ≤ length R) now room_now in
          let goes = submitted_goes c R past one even (omega (arith, longer, room_for)) refl in
          let later = commits_of d.pipeline (submitted_in past ++ one ∷ []) in
          let fits : Fits before c commits open_now = subst (FitsSome c commits) there (fit.opens who) in
          record {
            opens = λ client.
                subst (λ ss. FitsSome d (commits_of d.pipeline ss) (cond (who == client) None (open_of client past))) (sym now)
                (or_none d later (who == client) (open_of client past) (some_later c d commits later (open_of client past) goes (fit.opens client)));
            given =
                subst (λ ss. FitEach d (commits_of d.pipeline ss) ss) (sym now)
                (each_more d later (submitted_in past) one (each_later c d commits later (submitted_in past) goes fit.given) (fits_later before c d commits later open_now goes fits));
          }

      by_refusal : (open_now : Open) → open_of who past ≡ Some open_now → (o : Option SubmitError) → reply ≡ submit_reply c.pipeline o → Goal reply
      by_refusal open_now there None is = subst Goal (sym is) (given open_now there)
      by_refusal open_now there (Some submitting.TooOld) is = subst Goal (sym is) (λ room_now. ended ((steps.Commit who, answers.Refused TooOld) ∷ past) refl (λ client. refl))
      by_refusal open_now there (Some submitting.VersionsExhausted) is = subst Goal (sym is) (λ room_now. ended ((steps.Commit who, answers.Refused VersionsExhausted) ∷ past) refl (λ client. refl))
      by_refusal open_now there (Some submitting.Memory) is = subst Goal (sym is) (λ room_now. ended ((steps.Commit who, answers.Refused VersionsExhausted) ∷ past) refl (λ client. refl))

      by_change : (open_now : Open) → open_of who past ≡ Some open_now → (b : Bool) → reply ≡ cond b (submit_reply c.pipeline (submit_refusal c.pipeline open_now.read_version)) answers.ReadOnly → Goal reply
      by_change open_now there true is = by_refusal open_now there (submit_refusal c.pipeline open_now.read_version) is
      by_change open_now there false is = subst Goal (sym is) (λ room_now. ended ((steps.Commit who, answers.ReadOnly) ∷ past) refl (λ client. refl))

      by_open : (o : Option Open) → open_of who past ≡ o → InTransaction o (λ open_now. reply ≡ commit_reply c open_now) reply → Goal reply
      by_open None there is = subst Goal (sym is) (λ room_now. ended ((steps.Commit who, answers.Refused NoTransaction) ∷ past) refl (λ client. refl))
      by_open (Some open_now) there is = by_change open_now there (is_changed open_now.attempts) is

      by_client : (b : Bool) → nat_lt who 16 ≡ b → Goal reply
      by_client true is = by_open (open_of who past) refl (right.0 is)
      by_client false is = subst Goal (sym (right.1 is)) (λ room_now. ended ((steps.Commit who, answers.Refused NoSuchClient) ∷ past) refl (λ client. refl))

  fit_next : (first : ClusterState) (R : List CommitRequest) (past : Past) (step : Step) (reply : Reply) → HoldsAll first.base before → IsEven R (cluster_from first R past).pipeline past → IsReplyTo (cluster_from first R past) past step reply →
      length (submitted_in ((step, reply) ∷ past)) ≤ length R → AllFit (cluster_from first R past) past → AllFit (cluster_from first R ((step, reply) ∷ past)) ((step, reply) ∷ past)
  fit_next first R past step reply held even right room fit = by_step step right room
    where
      c : ClusterState
      c = cluster_from first R past

      held_now : HoldsAll c.base before
      held_now = subst (λ m. HoldsAll m before) (sym (cluster_base first R past)) held

      given_now : length (submitted_in past) ≤ length R → c.pipeline.reported ≤ submitted c.pipeline
      given_now within =
          let upto : c.pipeline.reported ≤ c.pipeline.start + length (submitted_in past) = even.given in
          let full : length c.pipeline.requests ≡ length (submitted_in past) = full_requests R c.pipeline past even within in
          omega (arith, upto, full)

      by_step : (one : Step) → IsReplyTo c past one reply → length (submitted_in ((one, reply) ∷ past)) ≤ length R → AllFit (cluster_from first R ((one, reply) ∷ past)) ((one, reply) ∷ past)
      by_step (steps.Begin who store) is room_now = begun_fit c past who store reply is fit
      by_step (steps.Perform who command) is room_now = changed_fit c past ((steps.Perform who command, reply) ∷ past) refl (grown_fit c past who command reply held_now is fit) fit
      by_step (steps.Execute who) is room_now = executed_fit c past who reply held_now is fit
      by_step (steps.Commit who) is room_now = committed_fit first R past who reply even is room_now fit
      by_step (steps.Abandon who) is room_now = abandoned_fit c past who reply is fit
      by_step (steps.Resolve r) is room_now = moved_fit c _ past ((steps.Resolve r, reply) ∷ past) (resolved_goes c (submitted_in past) r (is_done reply)) refl (λ client. refl) fit
      by_step (steps.Log l) is room_now = moved_fit c _ past ((steps.Log l, reply) ∷ past) (logged_goes c (submitted_in past) l (is_done reply)) refl (λ client. refl) fit
      by_step (steps.Pull s) is room_now = moved_fit c _ past ((steps.Pull s, reply) ∷ past) (pulled_goes c (submitted_in past) s (is_done reply)) refl (λ client. refl) fit
      by_step steps.Report is room_now = moved_fit c _ past ((steps.Report, reply) ∷ past) (reported_goes c (submitted_in past) (is_reported reply)) refl (λ client. refl) fit
      by_step steps.Lost is room_now = moved_fit c _ past ((steps.Lost, reply) ∷ past) (reported_goes c (submitted_in past) (is_reported reply)) refl (λ client. refl) fit
      by_step steps.Settle is room_now = moved_fit c _ past ((steps.Settle, reply) ∷ past) (settled_goes c (submitted_in past) (given_now room_now)) refl (λ client. refl) fit

  -- ---- steps, one after another

  fit_run : (first : ClusterState) (R : List CommitRequest) (past : Past) (done : List Step) (replies : List Reply) → HoldsAll first.base before → EachReply (λ past step reply. IsReplyTo (cluster_from first R past) past step reply) past done replies → LosesNone done →
      length (submitted_in (past_of past done replies)) ≤ length R → IsEven R (cluster_from first R past).pipeline past → AllFit (cluster_from first R past) past → AllFit (cluster_from first R (past_of past done replies)) (past_of past done replies)
  fit_run first R past [] [] held each none within even fit = fit
  fit_run first R past [] (reply ∷ replies) held each none within even fit = absurd each
  fit_run first R past (step ∷ done) [] held each none within even fit = absurd each
  fit_run first R past (step ∷ done) (reply ∷ replies) held each none within even fit =
      let rest : length (submitted_in ((step, reply) ∷ past)) ≤ length (submitted_in (past_of ((step, reply) ∷ past) done replies)) = submitted_grows ((step, reply) ∷ past) done replies in
      let room : length (submitted_in ((step, reply) ∷ past)) ≤ length R = omega (arith, rest, within) in
      fit_run first R ((step, reply) ∷ past) done replies held each.1 (ap (drop 1) none) within (even_next first R past step reply even each.0 (ap (λ l. get_or l 0 step) none) room)
      (fit_next first R past step reply held even each.0 room fit)

  -- so it is after what a schedule has done
  pub fit_done : (base : Map) (config : Config) (done : List Step) (replies : List Reply) (state : StepwiseState) → HoldsAll base before → HasDoneFrom (first_cluster_over base config) done replies state → LosesNone done → AllFit state.database.cluster (past_of [] done replies)
  fit_done base config done replies state held has none =
      let requests = state.database.cluster.pipeline.requests in
      let R : List CommitRequest = requests ++ [] in
      let last = state.database.cluster.pipeline in
      let count : length (submitted_in (past_of [] done replies)) ≡ length requests = submitted_length (database_at state.database.cluster) last.reported last.start (submitted_in (past_of [] done replies)) requests has.0.stands.submitted in
      let all : length R ≡ length requests = ap length (append-nil requests) in
      subst (λ (c : ClusterState). AllFit c (past_of [] done replies)) (has.0.cluster [])
      (fit_run (first_cluster_over base config) R [] done replies held (has.0.right []) none (omega (arith, count, all)) (even_none base config R) (record { opens = λ client. tt; given = tt }))
