-- What a report tells and leaves, over plain values.
use Rattle.std.proofs.Common.{◌≡◌, ℕ, zero, suc, ◌+◌, ◌-◌, ◌<◌, ◌≤◌, Bool, true, false, cond, List, [], ◌∷◌, ◌++◌, length, drop, get_or, map, slice_get, refl, sym, ap, subst, ◌∙◌, Option, Some, None, append-nil, arith}
use Rattle.std.proofs.lemmas.Bool.{true≢false}
use Rattle.std.proofs.lemmas.List.Elements.{All-get_or}
use Rattle.kv_core.specs.Map.{Map}
use Rattle.cluster_core.specs.declared.answers.Reported.{Reported}
use Rattle.cluster_core.specs.declared.answers.Reported.TheVariants.{Committed, Conflict, NothingToDo}
use Rattle.cluster_core.specs.Cluster.{ClusterState, database_at, with_pipeline}
use Rattle.cluster_core.specs.Decision.{Cause}
use Rattle.cluster_core.specs.Roles.{AreInOrder, PipelineState, entries, may_report, outcome, report, submitted, told, told_of}
use Rattle.schedule.specs.declared.step.Step.TheVariants.{Report, Lost}
use Rattle.schedule.specs.declared.reply.Reply.{Reply}
use Rattle.schedule.specs.declared.reply.Reply.TheVariants as answers
use Rattle.schedule.specs.declared.reply.Report as telling
use Rattle.schedule.specs.declared.reply.Report.TheVariants as tells
use Rattle.schedule.specs.declared.database.Database.{Database}
use Rattle.schedule.specs.declared.database.OpenTransaction.{OpenTransaction}
use Rattle.schedule.specs.declared.database.Told.{Told}
use Rattle.schedule.specs.declared.database.Unreported.{Unreported}
use Rattle.schedule.specs.declared.transcript.CommitEntry.{CommitEntry}
use Rattle.schedule.specs.Past.{Open, Submission, open_of, submitted_in}
use Rattle.schedule.specs.Contract.{client_of, report_reply, report_to, reports_reply}
use Rattle.schedule.specs.Standing.{is_reported, is_told}
use Rattle.schedule.specs.Running.{IsIdle, IsPlace, IsReported, IsReportedAs, IsStanding, IsStandingAt, IsStepped}
use Rattle.schedule.specs.Running.{IsTelling, IsTold, Steps, Tells, kept, unreported_entry}
use Rattle.schedule.proofs.ClientSteps.{none_added, same_requests, standing_as}
use Rattle.schedule.proofs.RoleSteps.{OnlyCluster, log_given, standing_moved}
use Rattle.schedule.proofs.Submitting.{client_here, commits_reported, numbered_length, submitted_later, submitted_length, submitted_versions, version_here}
use Rattle.schedule.proofs.Turning.{open_later}

-- ---- the next version

-- what is reported was submitted
pub reported_given : (p : PipelineState) → AreInOrder p → p.reported ≤ submitted p
reported_given p ordered =
    let some : 0 < length p.logged = (let h : 1 ≤ length p.logged = ordered.some_log in omega (arith, h)) in
    let behind : p.reported ≤ get_or p.logged 0 0 = All-get_or (λ log. p.reported ≤ log) p.logged 0 0 some ordered.appended in
    let given : get_or p.logged 0 0 ≤ submitted p = log_given p 0 ordered some in
    omega (arith, behind, given)

told_something : (why : Option Cause) (version : ℕ) → told why version ≡ NothingToDo → ⊥
told_something None version is = cc
told_something (Some why) version is = cc

-- an item of a list that is long enough
pub slice_some : {X : Type 0} (xs : List X) (i : ℕ) → i < length xs → (x : X) × (slice_get xs i ≡ Some x) × (drop i xs ≡ x ∷ drop (i + 1) xs)
slice_some [] i within = absurd (omega (arith, within))
slice_some (x ∷ xs) zero within = (x, refl, refl)
slice_some (x ∷ xs) (suc i) within =
    let (y, is, rest) = slice_some xs i (omega (arith, within)) in
    let n : suc (i + 1) ≡ suc i + 1 = omega arith in
    (y, is, rest ∙ ap (λ k. y ∷ drop k (x ∷ xs)) n)

-- what is told of a submitted version is something
outcome_something : (p : PipelineState) → p.start ≤ p.reported → p.reported + 1 ≤ submitted p → outcome p (p.reported + 1) ≡ NothingToDo → ⊥
outcome_something p from upto nothing =
    let count : length (entries p) ≡ length p.requests = numbered_length p.start p.requests in
    let (entry, is, rest) = slice_some (entries p) (p.reported + 1 - p.start - 1) (omega (arith, count, from, upto)) in
    told_something _ entry.version (sym (ap (told_of p) is) ∙ nothing)

-- ---- no next version

pub report_idle : (opens : ℕ → Option Open) (submissions : List Submission) (old new : Database) (result : Reported) → IsStanding opens submissions old → AreInOrder new.cluster.pipeline →
    result ≡ cond (may_report old.cluster.pipeline) (outcome old.cluster.pipeline (old.cluster.pipeline.reported + 1)) NothingToDo →
    new.cluster ≡ cond (may_report old.cluster.pipeline) (with_pipeline (report old.cluster.pipeline) old.cluster) old.cluster → result ≡ NothingToDo → OnlyCluster old new → IsIdle opens submissions old new
report_idle opens submissions old new result s ordered is moved nothing only = by_test (may_report old.cluster.pipeline) refl
  where
    by_test : (b : Bool) → may_report old.cluster.pipeline ≡ b → IsIdle opens submissions old new
    by_test true may =
        let p = old.cluster.pipeline in
        let cluster : new.cluster ≡ with_pipeline (report p) old.cluster = moved ∙ ap (λ b. cond b (with_pipeline (report p) old.cluster) old.cluster) may in
        let given : p.reported + 1 ≤ submitted p = reported_given (report p) (subst (λ (c : ClusterState). AreInOrder c.pipeline) cluster ordered) in
        absurd (outcome_something p s.begun given (sym (ap (λ b. cond b (outcome p (p.reported + 1)) NothingToDo) may) ∙ sym is ∙ nothing))
    by_test false may =
        let cluster : new.cluster ≡ old.cluster = moved ∙ ap (λ b. cond b (with_pipeline (report old.cluster.pipeline) old.cluster) old.cluster) may in
        record { may = may; cluster = cluster; after = standing_moved opens submissions old new old.cluster cluster only s }

-- where something was told, there was a next version
told_may : (may : Bool) (result other : Reported) → result ≡ cond may other NothingToDo → (result ≡ NothingToDo → ⊥) → may ≡ true
told_may true result other is something = refl
told_may false result other is something = absurd (something is)

not_shorter : {X : Type 0} (xs ys : List X) → 0 < length xs → xs ≡ ys → ys ≡ drop 1 xs → ⊥
not_shorter [] ys some same rest = omega (arith, some)
not_shorter (x ∷ xs) ys some same rest = let n : suc (length xs) ≡ length xs = ap length (same ∙ rest) in omega (arith, n)

-- what waits, where there is a next version
waiting_next : (opens : ℕ → Option Open) (submissions : List Submission) (old : Database) → IsStanding opens submissions old → old.cluster.pipeline.reported + 1 ≤ submitted old.cluster.pipeline →
    (one : Submission) × (slice_get submissions (old.cluster.pipeline.reported - old.cluster.pipeline.start) ≡ Some one)
    × (old.unreported.items ≡ kept one ∷ map kept (drop (old.cluster.pipeline.reported - old.cluster.pipeline.start + 1) submissions))
waiting_next opens submissions old s given =
    let p = old.cluster.pipeline in
    let count : length submissions ≡ length p.requests = submitted_length (database_at old.cluster) p.reported p.start submissions p.requests s.submitted in
    let from : p.start ≤ p.reported = s.begun in
    let (one, is, rest) = slice_some submissions (p.reported - p.start) (omega (arith, count, from, given)) in
    (one, is, s.unreported ∙ ap (map kept) rest)

pub report_none : (opens : ℕ → Option Open) (submissions : List Submission) (old new : Database) (result : Reported) (c : ClusterState) (left : List Unreported) → IsStanding opens submissions old → AreInOrder c.pipeline →
    result ≡ cond (may_report old.cluster.pipeline) (outcome old.cluster.pipeline (old.cluster.pipeline.reported + 1)) NothingToDo →
    c ≡ cond (may_report old.cluster.pipeline) (with_pipeline (report old.cluster.pipeline) old.cluster) old.cluster → (result ≡ NothingToDo → ⊥) →
    old.unreported.items ≡ left → left ≡ drop 1 old.unreported.items → IsIdle opens submissions old new
report_none opens submissions old new result c left s ordered is moved something same rest =
    let p = old.cluster.pipeline in
    let may = told_may (may_report p) result (outcome p (p.reported + 1)) is something in
    let cluster : c ≡ with_pipeline (report p) old.cluster = moved ∙ ap (λ b. cond b (with_pipeline (report p) old.cluster) old.cluster) may in
    let given : p.reported + 1 ≤ submitted p = reported_given (report p) (subst (λ (c : ClusterState). AreInOrder c.pipeline) cluster ordered) in
    let (one, at, waits) = waiting_next opens submissions old s given in
    let n : length old.unreported.items ≡ suc (length (map kept (drop (p.reported - p.start + 1) submissions))) = ap length waits in
    absurd (not_shorter old.unreported.items left (omega (arith, n)) same rest)

-- ---- a next version

place_later : (maps : ℕ → Map) (reported later : ℕ) (o : Option Open) (value : Option OpenTransaction) → reported ≤ later → IsPlace maps reported o value → IsPlace maps later o value
place_later maps reported later None None below is = tt
place_later maps reported later None (Some transaction) below is = absurd is
place_later maps reported later (Some open_now) None below is = absurd is
place_later maps reported later (Some open_now) (Some transaction) below is = record {
  store = is.store;
  done = open_later maps reported later open_now transaction.transaction below is.done;
  commands = is.commands;
  known = is.known;
}

standing_reported : (opens : ℕ → Option Open) (submissions : List Submission) (c : ClusterState) (transactions : List (Option OpenTransaction)) (waiting left : List Unreported) (entries : List CommitEntry) (next : Unreported) (one : Submission) →
    IsStandingAt c opens submissions transactions waiting entries → c.pipeline.reported + 1 ≤ submitted c.pipeline → slice_get submissions (c.pipeline.reported - c.pipeline.start) ≡ Some one →
    next ≡ kept one → left ≡ map kept (drop (c.pipeline.reported - c.pipeline.start + 1) submissions) →
    IsStandingAt (with_pipeline (report c.pipeline) c) opens submissions transactions left
    (entries ++ cond (is_told (outcome c.pipeline (c.pipeline.reported + 1))) (unreported_entry (c.pipeline.reported + 1) next ∷ []) [])
standing_reported opens submissions c transactions waiting left entries next one s given at is rest =
    let p = c.pipeline in
    let from : p.start ≤ p.reported = s.begun in
    let versions = submitted_versions (database_at c) p.reported p.start submissions p.requests s.submitted in
    let version : one.version ≡ p.reported + 1 = version_here p.start submissions (p.reported - p.start) one versions at ∙ omega (arith, from) in
    let places : p.reported - p.start + 1 ≡ p.reported + 1 - p.start = omega (arith, from) in
    record {
      begun = omega (arith, from);
      given = given;
      pulled = s.pulled;
      places = λ who there. place_later (database_at c) p.reported (p.reported + 1) (opens who) (get_or transactions who None) (omega arith) (s.places who there);
      unreported = rest ∙ ap (λ n. map kept (drop n submissions)) places;
      commits =
          (λ i. s.commits i ++ cond (is_told (outcome p (p.reported + 1))) (unreported_entry (sym version i) (is i) ∷ []) [])
          ∙ sym (commits_reported p submissions one versions from at);
      submitted = submitted_later (database_at c) p.reported (p.reported + 1) p.start submissions p.requests (omega arith) s.submitted;
    }

pub report_told : (opens : ℕ → Option Open) (submissions : List Submission) (old new : Database) (result : Reported) (version : ℕ) (next : Unreported) → IsStanding opens submissions old → AreInOrder new.cluster.pipeline →
    result ≡ cond (may_report old.cluster.pipeline) (outcome old.cluster.pipeline (old.cluster.pipeline.reported + 1)) NothingToDo →
    new.cluster ≡ cond (may_report old.cluster.pipeline) (with_pipeline (report old.cluster.pipeline) old.cluster) old.cluster → (result ≡ NothingToDo → ⊥) → version ≡ new.cluster.pipeline.reported →
    new.transactions.items ≡ old.transactions.items → old.unreported.items ≡ next ∷ new.unreported.items → new.commits ≡ old.commits ++ cond (is_told result) (unreported_entry version next ∷ []) [] →
    IsTold opens submissions (record { client = next.client; reported = result }) old new
report_told opens submissions old new result version next s ordered is moved something at transactions popped entries =
    let p = old.cluster.pipeline in
    let may = told_may (may_report p) result (outcome p (p.reported + 1)) is something in
    let cluster : new.cluster ≡ with_pipeline (report p) old.cluster = moved ∙ ap (λ b. cond b (with_pipeline (report p) old.cluster) old.cluster) may in
    let given : p.reported + 1 ≤ submitted p = reported_given (report p) (subst (λ (c : ClusterState). AreInOrder c.pipeline) cluster ordered) in
    let (one, here, waits) = waiting_next opens submissions old s given in
    let both : next ∷ new.unreported.items ≡ kept one ∷ map kept (drop (p.reported - p.start + 1) submissions) = sym popped ∙ waits in
    let first : next ≡ kept one = cc in
    let others : new.unreported.items ≡ map kept (drop (p.reported - p.start + 1) submissions) = cc in
    let told_so : result ≡ outcome p (p.reported + 1) = is ∙ ap (λ b. cond b (outcome p (p.reported + 1)) NothingToDo) may in
    let is_version : version ≡ p.reported + 1 = at ∙ ap (λ (c : ClusterState). c.pipeline.reported) cluster in
    let from : p.start ≤ p.reported = s.begun in
    let place : p.start + (p.reported - p.start) + 1 ≡ p.reported + 1 = omega (arith, from) in
    let versions = submitted_versions (database_at old.cluster) p.reported p.start submissions p.requests s.submitted in
    record {
      may = may;
      client = ap (λ (u : Unreported). u.client) first ∙ sym (client_here p.start submissions (p.reported - p.start) one versions here) ∙ ap (client_of submissions) place;
      reported = told_so;
      something = something;
      cluster = cluster;
      after = standing_as opens submissions new (with_pipeline (report p) old.cluster) old.transactions.items new.unreported.items
          (old.commits ++ cond (is_told (outcome p (p.reported + 1))) (unreported_entry (p.reported + 1) next ∷ []) []) cluster transactions refl
          (entries ∙ (λ i. old.commits ++ cond (is_told (told_so i)) (unreported_entry (is_version i) next ∷ []) []))
          (standing_reported opens submissions old.cluster old.transactions.items old.unreported.items new.unreported.items old.commits next one s given here first others);
    }

-- ---- what is told of it

pub tells_some : (opens : ℕ → Option Open) (submissions : List Submission) (before after : List telling.Report) (found : Option Told) (told_now : Told) (old new : Database) → IsReportedAs opens submissions found old new →
    found ≡ Some told_now → after ≡ before ++ report_to told_now.client told_now.reported → Tells opens submissions before true after old new
tells_some opens submissions before after found told_now old new reported_as is some =
    let t = subst (λ o. IsReportedAs opens submissions o old new) is reported_as in
    record {
      may = sym t.may;
      something = λ _ nothing. t.something (t.reported ∙ nothing);
      reports = some ∙ (λ i. before ++ report_to (t.client i) (t.reported i));
      cluster = t.cluster;
      standing = t.after;
    }

pub tells_none : (opens : ℕ → Option Open) (submissions : List Submission) (before : List telling.Report) (found : Option Told) (old new : Database) → IsReportedAs opens submissions found old new →
    found ≡ None → Tells opens submissions before false before old new
tells_none opens submissions before found old new reported_as is =
    let t = subst (λ o. IsReportedAs opens submissions o old new) is reported_as in
    record {
      may = sym t.may;
      something = λ e. absurd (true≢false (sym e));
      reports = sym (append-nil before);
      cluster = t.cluster;
      standing = t.after;
    }

-- ---- steps

-- where something is told, something was reported
reports_told : (client : ℕ) (told_now : Reported) → (told_now ≡ NothingToDo → ⊥) → is_reported (reports_reply (report_to client told_now)) ≡ true
reports_told client (Committed version) something = refl
reports_told client (Conflict seen range) something = refl
reports_told client NothingToDo something = absurd (something refl)

pub report_steps : (old new : Database) (before : List telling.Report) (done : Bool) (reports : List telling.Report) (reply : Reply) → before ≡ [] → IsTelling before done reports old new → reply ≡ reports_reply reports →
    IsStepped Report reply old new
report_steps old new before done reports reply empty telling_so is past s = by_test done refl
  where
    t : Tells (λ client. open_of client past) (submitted_in past) [] done reports old new
    t = subst (λ ones. Tells (λ client. open_of client past) (submitted_in past) ones done reports old new) empty (telling_so (λ client. open_of client past) (submitted_in past) s)

    p : PipelineState
    p = old.cluster.pipeline

    next : List telling.Report
    next = report_to (client_of (submitted_in past) (old.cluster.pipeline.reported + 1)) (outcome old.cluster.pipeline (old.cluster.pipeline.reported + 1))

    is_next : (b : Bool) → done ≡ b → reply ≡ reports_reply (cond b next [])
    is_next b e = is ∙ ap reports_reply (t.reports ∙ ap (λ d. cond d next []) e)

    right : (b : Bool) → done ≡ b → reply ≡ reports_reply (cond b next []) → reply ≡ report_reply old.cluster.pipeline (submitted_in past)
    right true e so = so ∙ ap reports_reply (sym (append-nil next)) ∙ ap (λ may. cond may (reports_reply (next ++ [])) answers.Nothing) (sym e ∙ t.may)
    right false e so = so ∙ ap (λ may. cond may (reports_reply (next ++ [])) answers.Nothing) (sym e ∙ t.may)

    reported_so : (b : Bool) → done ≡ b → reply ≡ reports_reply (cond b next []) → is_reported reply ≡ b
    reported_so true e so = ap is_reported so ∙ reports_told (client_of (submitted_in past) (old.cluster.pipeline.reported + 1)) (outcome old.cluster.pipeline (old.cluster.pipeline.reported + 1)) (t.something e)
    reported_so false e so = ap is_reported so

    cluster_is : (b : Bool) → done ≡ b → cond (is_reported reply) (with_pipeline (report old.cluster.pipeline) old.cluster) old.cluster ≡ new.cluster
    cluster_is b e = ap (λ r. cond r (with_pipeline (report old.cluster.pipeline) old.cluster) old.cluster) (reported_so b e (is_next b e) ∙ sym e) ∙ sym t.cluster

    grown_so : (b : Bool) → done ≡ b → new.cluster.pipeline.requests ≡ old.cluster.pipeline.requests
    grown_so true e = ap (λ (c : ClusterState). c.pipeline.requests) (t.cluster ∙ ap (λ d. cond d (with_pipeline (report old.cluster.pipeline) old.cluster) old.cluster) e)
    grown_so false e = ap (λ (c : ClusterState). c.pipeline.requests) (t.cluster ∙ ap (λ d. cond d (with_pipeline (report old.cluster.pipeline) old.cluster) old.cluster) e)

    by_test : (b : Bool) → done ≡ b → Steps past Report reply old new
    by_test b e = record {
      right = right b e (is_next b e);
      moved = λ more. cluster_is b e;
      added = [];
      grown = grown_so b e ∙ none_added old.cluster.pipeline.requests;
      after = t.standing;
    }

pub lost_some : (old new : Database) (found : Option Told) (told_now : Told) (reports : List telling.Report) → IsReported found old new → found ≡ Some told_now → reports ≡ tells.Unknown told_now.client ∷ [] →
    IsStepped Lost (answers.Reported reports) old new
lost_some old new found told_now reports reported_so is some past s =
    let subs = submitted_in past in
    let t = subst (λ o. IsReportedAs (λ client. open_of client past) subs o old new) is (reported_so (λ client. open_of client past) subs s) in
    record {
      right =
          ap answers.Reported (some ∙ ap (λ client. tells.Unknown client ∷ []) t.client)
          ∙ sym (ap (λ may. cond may (answers.Reported (tells.Unknown (client_of subs (old.cluster.pipeline.reported + 1)) ∷ [])) answers.Nothing) t.may);
      moved = λ more. sym t.cluster;
      added = [];
      grown = ap (λ (c : ClusterState). c.pipeline.requests) t.cluster ∙ none_added old.cluster.pipeline.requests;
      after = t.after;
    }

pub lost_none : (old new : Database) (found : Option Told) → IsReported found old new → found ≡ None → IsStepped Lost answers.Nothing old new
lost_none old new found reported_so is past s =
    let subs = submitted_in past in
    let t = subst (λ o. IsReportedAs (λ client. open_of client past) subs o old new) is (reported_so (λ client. open_of client past) subs s) in
    record {
      right = sym (ap (λ may. cond may (answers.Reported (tells.Unknown (client_of subs (old.cluster.pipeline.reported + 1)) ∷ [])) answers.Nothing) t.may);
      moved = λ more. sym t.cluster;
      added = [];
      grown = same_requests old new t.cluster;
      after = t.after;
    }
