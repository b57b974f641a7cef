-- Rounds of the roles, and the end of them, over plain values.
use Rattle.std.proofs.Common.{◌≡◌, ℕ, zero, suc, ◌+◌, ◌-◌, ◌%◌, ◌<◌, ◌≤◌, Bool, true, false, cond, ◌&&◌, ◌||◌, List, [], ◌∷◌, ◌++◌, length, get_or, map, nat_lt, refl, sym, ap, subst, ◌∙◌, Option, append-nil, append_assoc, arith}
use Rattle.std.specs.Prelude.{All}
use Rattle.std.specs.List.{list_all, range_with_len}
use Rattle.std.proofs.lemmas.Bool.{lt-ltb, ltb-false, ltb-true, true≢false}
use Rattle.std.proofs.lemmas.List.Elements.{All-get_or}
use Rattle.cluster_core.specs.Cluster.{ClusterState, log_of, may_pull, with_pipeline}
use Rattle.cluster_core.specs.Roles.{AreInOrder, PipelineState, may_report, outcome, report, submitted}
use Rattle.schedule.specs.declared.step.Step.TheVariants.{Settle}
use Rattle.schedule.specs.declared.reply.Reply.{Reply}
use Rattle.schedule.specs.declared.reply.Report.{Report}
use Rattle.schedule.specs.declared.database.Database.{Database}
use Rattle.schedule.specs.Past.{Open, Submission, open_of, submitted_in}
use Rattle.schedule.specs.Contract.{client_of, report_to, reports_of, reports_reply}
use Rattle.schedule.specs.Standing.{settled}
use Rattle.schedule.specs.Running as running
use Rattle.schedule.specs.Running.{IsStanding, IsStepped, IsTelling, Steps}
use Rattle.schedule.specs.Settling.{HasSettled, HaveTold, HaveWorked, IsMoved, IsNearer, IsRound, IsSettled, NoneMay, Rounds, left, log_may, moved, resolver_may}
use Rattle.schedule.proofs.ClientSteps.{none_added}
use Rattle.schedule.proofs.RoleSteps.{log_there, log_given}
use Rattle.schedule.proofs.WorkSteps.{moved_stays, moved_then, nearer_stays, nearer_then, or_false_left, or_false_right}

-- ---- what is told

reports_append : (p : PipelineState) (subs : List Submission) (versions others : List ℕ) → reports_of p subs (versions ++ others) ≡ reports_of p subs versions ++ reports_of p subs others
reports_append p subs [] others = refl
reports_append p subs (version ∷ versions) others =
    ap (λ rest. report_to (client_of subs version) (outcome p version) ++ rest) (reports_append p subs versions others)
    ∙ sym (append_assoc (report_to (client_of subs version) (outcome p version)) (reports_of p subs versions) (reports_of p subs others))

-- what is told of versions doesn't depend on the clocks
reports_moved : (c : ClusterState) (resolved logged : List ℕ) (reported : ℕ) (pulled : List ℕ) (subs : List Submission) (versions : List ℕ) →
    reports_of (moved c resolved logged reported pulled).pipeline subs versions ≡ reports_of c.pipeline subs versions
reports_moved c resolved logged reported pulled subs [] = refl
reports_moved c resolved logged reported pulled subs (version ∷ versions) =
    ap (λ rest. report_to (client_of subs version) (outcome c.pipeline version) ++ rest) (reports_moved c resolved logged reported pulled subs versions)

range_append : (from n m : ℕ) → range_with_len from (n + m) ≡ range_with_len from n ++ range_with_len (from + n) m
range_append from zero m = let k : 0 + m ≡ m = omega arith in let f : from ≡ from + 0 = omega arith in (λ i. range_with_len (f i) (k i))
range_append from (suc n) m =
    let k : suc n + m ≡ suc (n + m) = omega arith in
    let f : (from + 1) + n ≡ from + suc n = omega arith in
    ap (range_with_len from) k ∙ ap (λ rest. from ∷ rest) (range_append (from + 1) n m ∙ ap (λ start. range_with_len (from + 1) n ++ range_with_len start m) f)

-- nothing was told where nothing was reported
told_none : (opens : ℕ → Option Open) (subs : List Submission) (before : List Report) (old new : Database) → IsStanding opens subs new → IsMoved old.cluster new.cluster →
    new.cluster.pipeline.reported ≡ old.cluster.pipeline.reported → HaveTold opens subs before before old new
told_none opens subs before old new s is same = record {
  standing = s;
  moved = is;
  reports =
      let none : 0 ≡ new.cluster.pipeline.reported - old.cluster.pipeline.reported = omega (arith, same) in
      sym (append-nil before) ∙ ap (λ n. before ++ reports_of old.cluster.pipeline subs (range_with_len (old.cluster.pipeline.reported + 1) n)) none;
}

pub told_then : (opens : ℕ → Option Open) (subs : List Submission) (before between after : List Report) (a b c : Database) → HaveTold opens subs before between a b → HaveTold opens subs between after b c → HaveTold opens subs before after a c
told_then opens subs before between after a b c first second = record {
  standing = second.standing;
  moved = moved_then a.cluster b.cluster c.cluster first.moved second.moved;
  reports =
      let from = a.cluster.pipeline.reported in
      let mid = b.cluster.pipeline.reported in
      let upto = c.cluster.pipeline.reported in
      let up : from ≤ mid = first.moved.onward in
      let on : mid ≤ upto = second.moved.onward in
      let count : (mid - from) + (upto - mid) ≡ upto - from = omega (arith, up, on) in
      let start : (from + 1) + (mid - from) ≡ mid + 1 = omega (arith, up) in
      let later = range_with_len (mid + 1) (upto - mid) in
      second.reports
      ∙ (λ i. first.reports i ++ reports_of (first.moved.frame i).pipeline subs later)
      ∙ ap (λ rest. (before ++ reports_of a.cluster.pipeline subs (range_with_len (from + 1) (mid - from))) ++ rest)
      (reports_moved a.cluster b.cluster.pipeline.resolved b.cluster.pipeline.logged b.cluster.pipeline.reported b.cluster.pulled subs later)
      ∙ append_assoc before (reports_of a.cluster.pipeline subs (range_with_len (from + 1) (mid - from))) (reports_of a.cluster.pipeline subs later)
      ∙ ap (λ rest. before ++ rest) (sym (reports_append a.cluster.pipeline subs (range_with_len (from + 1) (mid - from)) later))
      ∙ ap (λ vs. before ++ reports_of a.cluster.pipeline subs vs)
      (ap (λ s. range_with_len (from + 1) (mid - from) ++ range_with_len s (upto - mid)) (sym start) ∙ sym (range_append (from + 1) (mid - from) (upto - mid)) ∙ ap (range_with_len (from + 1)) count);
}

-- ---- a report

report_nearer : (c : ClusterState) → c.pipeline.reported + 1 ≤ submitted c.pipeline → IsNearer true c (with_pipeline (report c.pipeline) c)
report_nearer c given = record {
  moved = record { frame = refl; resolvers = refl; logs = refl; servers = refl; onward = omega arith };
  less = omega (arith, given);
  idle = λ e. absurd (true≢false e);
}

pub report_told : (opens : ℕ → Option Open) (subs : List Submission) (before after : List Report) (done : Bool) (old new : Database) → running.Tells opens subs before done after old new →
    IsNearer done old.cluster new.cluster × HaveTold opens subs before after old new
report_told opens subs before after done old new t = by_test done refl
  where
    next : List Report
    next = report_to (client_of subs (old.cluster.pipeline.reported + 1)) (outcome old.cluster.pipeline (old.cluster.pipeline.reported + 1))

    by_test : (b : Bool) → done ≡ b → IsNearer done old.cluster new.cluster × HaveTold opens subs before after old new
    by_test true e =
        let cluster : new.cluster ≡ with_pipeline (report old.cluster.pipeline) old.cluster = t.cluster ∙ ap (λ b. cond b (with_pipeline (report old.cluster.pipeline) old.cluster) old.cluster) e in
        let given : old.cluster.pipeline.reported + 1 ≤ submitted old.cluster.pipeline = subst (λ (c : ClusterState). c.pipeline.reported ≤ submitted c.pipeline) cluster t.standing.given in
        let near : IsNearer true old.cluster new.cluster = subst (IsNearer true old.cluster) (sym cluster) (report_nearer old.cluster given) in
        let one : 1 ≡ new.cluster.pipeline.reported - old.cluster.pipeline.reported = (let r : new.cluster.pipeline.reported ≡ old.cluster.pipeline.reported + 1 = ap (λ (c : ClusterState). c.pipeline.reported) cluster in omega (arith, r)) in (
          subst (λ b. IsNearer b old.cluster new.cluster) (sym e) near,
          record {
            standing = t.standing;
            moved = near.moved;
            reports =
                t.reports ∙ ap (λ b. before ++ cond b next []) e ∙ ap (λ ones. before ++ ones) (sym (append-nil next))
                ∙ ap (λ n. before ++ reports_of old.cluster.pipeline subs (range_with_len (old.cluster.pipeline.reported + 1) n)) one;
          },
        )
    by_test false e =
        let cluster : new.cluster ≡ old.cluster = t.cluster ∙ ap (λ b. cond b (with_pipeline (report old.cluster.pipeline) old.cluster) old.cluster) e in
        let near : IsNearer false old.cluster new.cluster = subst (IsNearer false old.cluster) (sym cluster) (nearer_stays old.cluster) in
        let told = told_none opens subs before old new t.standing near.moved (ap (λ (c : ClusterState). c.pipeline.reported) cluster) in (
          subst (λ b. IsNearer b old.cluster new.cluster) (sym e) near,
          subst (λ ones. HaveTold opens subs before ones old new) (sym (t.reports ∙ ap (λ b. before ++ cond b next []) e ∙ append-nil before)) told,
        )

-- ---- the end

all_at : (clocks : List ℕ) (last : ℕ) → ((i : ℕ) → i < length clocks → get_or clocks i 0 ≡ last) → clocks ≡ map (λ _. last) clocks
all_at [] last each = refl
all_at (clock ∷ clocks) last each = (λ i. each 0 (omega arith) i ∷ all_at clocks last (λ k within. each (suc k) (omega (arith, within))) i)

-- where every clock is past one, a test of all tells so
all_past : (clock : ℕ) (others : List ℕ) → ((i : ℕ) → i < length others → clock < get_or others i 0) → list_all (λ other. nat_lt clock other) others ≡ true
all_past clock [] each = refl
all_past clock (other ∷ others) each =
    ap (λ b. (b && list_all (λ one. nat_lt clock one) others)) (lt-ltb clock other (each 0 (omega arith))) ∙ all_past clock others (λ k within. each (suc k) (omega (arith, within)))

-- where not all others are past a clock, and they stand here, then so does the clock, or later
not_all_past : (clock last : ℕ) (others : List ℕ) → list_all (λ other. nat_lt clock other) others ≡ false → ((i : ℕ) → i < length others → get_or others i 0 ≡ last) → last ≤ clock
not_all_past clock last others not_all each = by_test (nat_lt clock last) refl
  where
    by_test : (b : Bool) → nat_lt clock last ≡ b → last ≤ clock
    by_test true low = absurd (true≢false (sym (all_past clock others (λ i within. let at : get_or others i 0 ≡ last = each i within in let below : clock < last = ltb-true clock last low in omega (arith, at, below))) ∙ not_all))
    by_test false high = ltb-false clock last high

pub settled_so : (c : ClusterState) → AreInOrder c.pipeline → All (λ clock. clock ≤ submitted c.pipeline) c.pulled → NoneMay resolver_may c (length c.pipeline.resolved) → NoneMay log_may c (length c.pipeline.logged) →
    may_report c.pipeline ≡ false → NoneMay may_pull c (length c.pulled) → IsSettled c
settled_so c ordered within resolvers logs reports servers =
    λ i. record c {
      pipeline = record c.pipeline { resolved = all_at c.pipeline.resolved last resolved i; logged = all_at c.pipeline.logged last logged i; reported = reported i };
      pulled = all_at c.pulled last pulled i;
    }
  where
    last : ℕ
    last = submitted c.pipeline

    resolved : (i : ℕ) → i < length c.pipeline.resolved → get_or c.pipeline.resolved i 0 ≡ submitted c.pipeline
    resolved i there =
        let up : submitted c.pipeline ≤ get_or c.pipeline.resolved i 0 = ltb-false (get_or c.pipeline.resolved i 0) (submitted c.pipeline) (resolvers i there) in
        let low : get_or c.pipeline.resolved i 0 ≤ submitted c.pipeline = All-get_or (λ clock. clock ≤ submitted c.pipeline) c.pipeline.resolved i 0 there ordered.given in
        omega (arith, up, low)

    logged : (i : ℕ) → i < length c.pipeline.logged → get_or c.pipeline.logged i 0 ≡ submitted c.pipeline
    logged i there =
        let up : submitted c.pipeline ≤ get_or c.pipeline.logged i 0 = not_all_past (get_or c.pipeline.logged i 0) (submitted c.pipeline) c.pipeline.resolved (logs i there) resolved in
        let low : get_or c.pipeline.logged i 0 ≤ submitted c.pipeline = log_given c.pipeline i ordered there in
        omega (arith, up, low)

    reported : c.pipeline.reported ≡ submitted c.pipeline
    reported =
        let some : 0 < length c.pipeline.logged = (let h : 1 ≤ length c.pipeline.logged = ordered.some_log in omega (arith, h)) in
        let up : submitted c.pipeline ≤ c.pipeline.reported = not_all_past c.pipeline.reported (submitted c.pipeline) c.pipeline.logged reports logged in
        let behind_log : c.pipeline.reported ≤ get_or c.pipeline.logged 0 0 = All-get_or (λ log. c.pipeline.reported ≤ log) c.pipeline.logged 0 0 some ordered.appended in
        let first : get_or c.pipeline.logged 0 0 ≡ submitted c.pipeline = logged 0 some in
        omega (arith, up, behind_log, first)

    pulled : (i : ℕ) → i < length c.pulled → get_or c.pulled i 0 ≡ submitted c.pipeline
    pulled i there =
        let up : log_of c i ≤ get_or c.pulled i 0 = ltb-false (get_or c.pulled i 0) (log_of c i) (servers i there) in
        let at : log_of c i ≡ submitted c.pipeline = logged (i % length c.pipeline.logged) (log_there c i ordered) in
        let low : get_or c.pulled i 0 ≤ submitted c.pipeline = All-get_or (λ clock. clock ≤ submitted c.pipeline) c.pulled i 0 there within in
        omega (arith, up, at, low)

-- ---- a round

pub one_round : (before after : List Report) (a b r d done : Bool) (old first second third new : Database) → done ≡ (((a || b) || r) || d) →
    HaveWorked resolver_may (length old.cluster.pipeline.resolved) a old first → HaveWorked log_may (length first.cluster.pipeline.logged) b first second → IsTelling before r after second third →
    HaveWorked may_pull (length third.cluster.pulled) d third new → AreInOrder new.cluster.pipeline → Rounds before done after old new
one_round before after a b r d done old first second third new is resolvers logs telling servers ordered opens subs s =
    let s1 = resolvers.standing opens subs s in
    let s2 = logs.standing opens subs s1 in
    let t = telling opens subs s2 in
    let reported = report_told opens subs before after r second third t in
    let s4 = servers.standing opens subs t.standing in
    let near = nearer_then ((a || b) || r) d old.cluster third.cluster new.cluster
    (nearer_then (a || b) r old.cluster second.cluster third.cluster (nearer_then a b old.cluster first.cluster second.cluster resolvers.nearer logs.nearer) reported.0) servers.nearer in
    let told = told_then opens subs before before after old first new (told_none opens subs before old first s1 resolvers.nearer.moved resolvers.reported)
    (told_then opens subs before before after first second new (told_none opens subs before first second s2 logs.nearer.moved logs.reported)
    (told_then opens subs before after after second third new reported.1 (told_none opens subs after third new s4 servers.nearer.moved servers.reported))) in
    subst (λ x. IsRound opens subs before x after old new) (sym is) (record {
      tells = told;
      less = near.less;
      settled = λ e. idle_end s4 (or_false_left (a || b) r (or_false_left ((a || b) || r) d e)) (or_false_right (a || b) r (or_false_left ((a || b) || r) d e)) (or_false_right ((a || b) || r) d e) t.may reported.0;
    })
  where
    idle_end : IsStanding opens subs new → (a || b) ≡ false → r ≡ false → d ≡ false → r ≡ may_report second.cluster.pipeline → IsNearer r second.cluster third.cluster → IsSettled new.cluster
    idle_end s4 none_ab none_r none_d may near_r =
        let none_a = or_false_left a b none_ab in
        let none_b = or_false_right a b none_ab in
        let e4 : new.cluster ≡ third.cluster = servers.nearer.idle none_d in
        let e3 : new.cluster ≡ second.cluster = e4 ∙ near_r.idle none_r in
        let e2 : new.cluster ≡ first.cluster = e3 ∙ logs.nearer.idle none_b in
        let e1 : new.cluster ≡ old.cluster = e2 ∙ resolvers.nearer.idle none_a in
        settled_so new.cluster ordered s4.pulled
        (subst (λ c. NoneMay resolver_may c (length c.pipeline.resolved)) (sym e1) (resolvers.none none_a))
        (subst (λ c. NoneMay log_may c (length c.pipeline.logged)) (sym e2) (logs.none none_b))
        (ap (λ (c : ClusterState). may_report c.pipeline) e3 ∙ sym may ∙ none_r)
        (subst (λ c. NoneMay may_pull c (length c.pulled)) (sym e4) (servers.none none_d))

-- ---- settle

pub settle_first : (opens : ℕ → Option Open) (subs : List Submission) (reports : List Report) (d : Database) → reports ≡ [] → IsStanding opens subs d → HasSettled opens subs true reports d d
settle_first opens subs reports d empty s = record {
  tells = subst (λ ones. HaveTold opens subs [] ones d d) (sym empty) (told_none opens subs [] d d s (moved_stays d.cluster) refl);
  settled = λ e. absurd (true≢false e);
}

pub settle_more : (opens : ℕ → Option Open) (subs : List Submission) (busy done : Bool) (between after : List Report) (old mid new : Database) → HasSettled opens subs busy between old mid → Rounds between done after mid new →
    HasSettled opens subs done after old new
settle_more opens subs busy done between after old mid new before rounds =
    let round = rounds opens subs before.tells.standing in
    record {
      tells = told_then opens subs [] between after old mid new before.tells round.tells;
      settled = round.settled;
    }

-- a round that does something leaves less
pub settle_less : (opens : ℕ → Option Open) (subs : List Submission) (busy done : Bool) (between after : List Report) (mid new : Database) → busy ≡ true → IsStanding opens subs mid → Rounds between done after mid new →
    left new.cluster + cond done 1 0 < left mid.cluster + cond busy 1 0
settle_less opens subs busy done between after mid new is s rounds =
    let round = rounds opens subs s in
    subst (λ b. left new.cluster + cond done 1 0 < left mid.cluster + cond b 1 0) (sym is) (let less : left new.cluster + cond done 1 0 ≤ left mid.cluster = round.less in omega (arith, less))

same_map : (xs ys : List ℕ) (last : ℕ) → length xs ≡ length ys → map (λ _. last) xs ≡ map (λ _. last) ys
same_map [] [] last same = refl
same_map [] (y ∷ ys) last same = absurd (omega (arith, same))
same_map (x ∷ xs) [] last same = absurd (omega (arith, same))
same_map (x ∷ xs) (y ∷ ys) last same = ap (λ rest. last ∷ rest) (same_map xs ys last (omega (arith, same)))

-- the same cluster is reached whatever way the clocks took
settled_moved : (c : ClusterState) (resolved logged : List ℕ) (reported : ℕ) (pulled : List ℕ) → length resolved ≡ length c.pipeline.resolved → length logged ≡ length c.pipeline.logged → length pulled ≡ length c.pulled →
    settled (moved c resolved logged reported pulled) ≡ settled c
settled_moved c resolved logged reported pulled resolvers logs servers = λ i. record c {
  pipeline = record c.pipeline {
    resolved = same_map resolved c.pipeline.resolved (submitted c.pipeline) resolvers i;
    logged = same_map logged c.pipeline.logged (submitted c.pipeline) logs i;
    reported = submitted c.pipeline;
  };
  pulled = same_map pulled c.pulled (submitted c.pipeline) servers i;
}

pub settle_steps : (old new : Database) (busy : Bool) (reports : List Report) (reply : Reply) → busy ≡ false → ((opens : ℕ → Option Open) (subs : List Submission) → IsStanding opens subs old → HasSettled opens subs busy reports old new) →
    reply ≡ reports_reply reports → IsStepped Settle reply old new
settle_steps old new busy reports reply idle has is past s =
    let subs = submitted_in past in
    let end = has (λ client. open_of client past) subs s in
    let is_moved = end.tells.moved in
    let cluster : new.cluster ≡ settled old.cluster =
    end.settled idle ∙ ap settled is_moved.frame
    ∙ settled_moved old.cluster new.cluster.pipeline.resolved new.cluster.pipeline.logged new.cluster.pipeline.reported new.cluster.pulled is_moved.resolvers is_moved.logs is_moved.servers in
    record {
      right = is ∙ ap reports_reply (end.tells.reports ∙ ap (λ (c : ClusterState). reports_of old.cluster.pipeline subs (range_with_len (old.cluster.pipeline.reported + 1) (c.pipeline.reported - old.cluster.pipeline.reported))) cluster);
      moved = λ more. sym cluster;
      added = [];
      grown = ap (λ (c : ClusterState). c.pipeline.requests) cluster ∙ none_added old.cluster.pipeline.requests;
      after = end.tells.standing;
    }
