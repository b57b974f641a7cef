-- What a step of a resolver, a log or a server replies and leaves, over plain values.
use Rattle.std.proofs.Common.{◌≡◌, ℕ, ◌+◌, ◌%◌, ◌<◌, ◌≤◌, Bool, true, false, cond, List, [], length, get_or, sym, ap, subst, ◌∙◌, Option, arith}
use Rattle.std.specs.Prelude.{All, slice_index}
use Rattle.std.proofs.lemmas.Bool.{ltb-true, lt-ltb}
use Rattle.std.proofs.lemmas.List.Elements.{All-get_or, All-set}
use Rattle.cluster_core.specs.declared.answers.Work.{Work}
use Rattle.cluster_core.specs.declared.answers.Work.TheVariants as works
use Rattle.cluster_core.specs.Cluster.{ClusterState, Did, log_of, may_pull, pull, with_pipeline}
use Rattle.cluster_core.specs.Roles.{AreInOrder, PipelineState, append, may_append, may_resolve, raised, resolve, submitted}
use Rattle.schedule.specs.declared.refusal.Refusal.TheVariants.{NoSuchRole}
use Rattle.schedule.specs.declared.step.Step.TheVariants.{Resolve, Log, Pull}
use Rattle.schedule.specs.declared.reply.Reply.{Reply}
use Rattle.schedule.specs.declared.reply.Reply.TheVariants.{Done, Nothing, Refused}
use Rattle.schedule.specs.declared.database.Database.{Database}
use Rattle.schedule.specs.declared.database.OpenTransaction.{OpenTransaction}
use Rattle.schedule.specs.declared.database.Unreported.{Unreported}
use Rattle.schedule.specs.declared.transcript.CommitEntry.{CommitEntry}
use Rattle.schedule.specs.Past.{Open, Submission, open_of, submitted_in}
use Rattle.schedule.specs.Contract.{role_reply}
use Rattle.schedule.specs.Running.{IsStanding, IsStandingAt, IsStepped, work_reply}
use Rattle.schedule.proofs.ClientSteps.{none_added, same_requests, standing_as}

-- ---- replies

pub role_done : (roles role : ℕ) (may : Bool) → role < roles → may ≡ true → Done ≡ role_reply roles role may
role_done roles role may there is = sym ((λ i. cond (lt-ltb role roles there i) (cond (is i) Done Nothing) (Refused NoSuchRole)))

pub role_nothing : (roles role : ℕ) (may : Bool) → role < roles → may ≡ false → Nothing ≡ role_reply roles role may
role_nothing roles role may there is = sym ((λ i. cond (lt-ltb role roles there i) (cond (is i) Done Nothing) (Refused NoSuchRole)))

-- ---- clocks that move

-- where only clocks of resolvers, logs and servers move, all stands as before
pub other_clocks : {c : ClusterState} {opens : ℕ → Option Open} {submissions : List Submission} {transactions : List (Option OpenTransaction)} {waiting : List Unreported} {entries : List CommitEntry} →
    (resolved logged pulled : List ℕ) → All (λ clock. clock ≤ submitted c.pipeline) pulled → IsStandingAt c opens submissions transactions waiting entries →
    IsStandingAt (record c { pipeline = record c.pipeline { resolved = resolved; logged = logged }; pulled = pulled }) opens submissions transactions waiting entries
other_clocks resolved logged pulled within s = record {
  begun = s.begun;
  given = s.given;
  pulled = within;
  places = s.places;
  unreported = s.unreported;
  commits = s.commits;
  submitted = s.submitted;
}

-- no log is past what was submitted
pub log_given : (p : PipelineState) (log : ℕ) → AreInOrder p → log < length p.logged → get_or p.logged log 0 ≤ submitted p
log_given p log ordered there =
    let some : 0 < length p.resolved = (let h : 1 ≤ length p.resolved = ordered.some_resolver in omega (arith, h)) in
    let behind : get_or p.logged log 0 ≤ get_or p.resolved 0 0 = All-get_or (λ clock. get_or p.logged log 0 ≤ clock) p.resolved 0 0 some (All-get_or (λ l. All (λ clock. l ≤ clock) p.resolved) p.logged log 0 there ordered.answered) in
    let given : get_or p.resolved 0 0 ≤ submitted p = All-get_or (λ clock. clock ≤ submitted p) p.resolved 0 0 some ordered.given in
    omega (arith, behind, given)

-- the log of a server is one of the logs
pub log_there : (c : ClusterState) (s : ℕ) → AreInOrder c.pipeline → s % length c.pipeline.logged < length c.pipeline.logged
log_there c s ordered = let some : 1 ≤ length c.pipeline.logged = ordered.some_log in omega (arith, some)

-- nor is a server
pub pulled_given : (c : ClusterState) (s : ℕ) → AreInOrder c.pipeline → may_pull c s ≡ true → All (λ clock. clock ≤ submitted c.pipeline) c.pulled → All (λ clock. clock ≤ submitted c.pipeline) (raised c.pulled s)
pulled_given c s ordered may within =
    let behind : slice_index c.pulled s < log_of c s = ltb-true (slice_index c.pulled s) (log_of c s) may in
    let given : log_of c s ≤ submitted c.pipeline = log_given c.pipeline (s % length c.pipeline.logged) ordered (log_there c s ordered) in
    All-set (λ clock. clock ≤ submitted c.pipeline) c.pulled s (slice_index c.pulled s + 1) (omega (arith, behind, given)) within

-- all but the cluster stayed
pub record OnlyCluster (old new : Database) : Type 0 where
  pub transactions : new.transactions.items ≡ old.transactions.items
  pub unreported : new.unreported.items ≡ old.unreported.items
  pub commits : new.commits ≡ old.commits

pub standing_moved : (opens : ℕ → Option Open) (submissions : List Submission) (old new : Database) (c : ClusterState) → new.cluster ≡ c → OnlyCluster old new →
    IsStandingAt c opens submissions old.transactions.items old.unreported.items old.commits → IsStanding opens submissions new
standing_moved opens submissions old new c cluster only stands = standing_as opens submissions new c old.transactions.items old.unreported.items old.commits cluster only.transactions only.unreported only.commits stands

-- ---- steps

resolve_works : (old new : Database) (r : ℕ) (work : Work) → r < length old.cluster.pipeline.resolved →
    Did work (may_resolve old.cluster.pipeline r) old.cluster new.cluster (with_pipeline (resolve r old.cluster.pipeline) old.cluster) → OnlyCluster old new → IsStepped (Resolve r) (work_reply work) old new
resolve_works old new r works.Done there did only past s = record {
  right = role_done (length old.cluster.pipeline.resolved) r (may_resolve old.cluster.pipeline r) there did.0;
  moved = λ more. sym did.1;
  added = [];
  grown = ap (λ (c : ClusterState). c.pipeline.requests) did.1 ∙ none_added old.cluster.pipeline.requests;
  after = standing_moved (λ client. open_of client past) (submitted_in past) old new (with_pipeline (resolve r old.cluster.pipeline) old.cluster) did.1 only
      (other_clocks (raised old.cluster.pipeline.resolved r) old.cluster.pipeline.logged old.cluster.pulled s.pulled s);
}
resolve_works old new r works.NothingToDo there did only past s = record {
  right = role_nothing (length old.cluster.pipeline.resolved) r (may_resolve old.cluster.pipeline r) there did.0;
  moved = λ more. sym did.1;
  added = [];
  grown = same_requests old new did.1;
  after = standing_moved (λ client. open_of client past) (submitted_in past) old new old.cluster did.1 only s;
}

append_works : (old new : Database) (l : ℕ) (work : Work) → l < length old.cluster.pipeline.logged →
    Did work (may_append old.cluster.pipeline l) old.cluster new.cluster (with_pipeline (append l old.cluster.pipeline) old.cluster) → OnlyCluster old new → IsStepped (Log l) (work_reply work) old new
append_works old new l works.Done there did only past s = record {
  right = role_done (length old.cluster.pipeline.logged) l (may_append old.cluster.pipeline l) there did.0;
  moved = λ more. sym did.1;
  added = [];
  grown = ap (λ (c : ClusterState). c.pipeline.requests) did.1 ∙ none_added old.cluster.pipeline.requests;
  after = standing_moved (λ client. open_of client past) (submitted_in past) old new (with_pipeline (append l old.cluster.pipeline) old.cluster) did.1 only
      (other_clocks old.cluster.pipeline.resolved (raised old.cluster.pipeline.logged l) old.cluster.pulled s.pulled s);
}
append_works old new l works.NothingToDo there did only past s = record {
  right = role_nothing (length old.cluster.pipeline.logged) l (may_append old.cluster.pipeline l) there did.0;
  moved = λ more. sym did.1;
  added = [];
  grown = same_requests old new did.1;
  after = standing_moved (λ client. open_of client past) (submitted_in past) old new old.cluster did.1 only s;
}

pull_works : (old new : Database) (server : ℕ) (work : Work) → server < length old.cluster.pulled → AreInOrder old.cluster.pipeline →
    Did work (may_pull old.cluster server) old.cluster new.cluster (pull server old.cluster) → OnlyCluster old new → IsStepped (Pull server) (work_reply work) old new
pull_works old new server works.Done there ordered did only past s = record {
  right = role_done (length old.cluster.pulled) server (may_pull old.cluster server) there did.0;
  moved = λ more. sym did.1;
  added = [];
  grown = ap (λ (c : ClusterState). c.pipeline.requests) did.1 ∙ none_added old.cluster.pipeline.requests;
  after = standing_moved (λ client. open_of client past) (submitted_in past) old new (pull server old.cluster) did.1 only
      (other_clocks old.cluster.pipeline.resolved old.cluster.pipeline.logged (raised old.cluster.pulled server) (pulled_given old.cluster server ordered did.0 s.pulled) s);
}
pull_works old new server works.NothingToDo there ordered did only past s = record {
  right = role_nothing (length old.cluster.pulled) server (may_pull old.cluster server) there did.0;
  moved = λ more. sym did.1;
  added = [];
  grown = same_requests old new did.1;
  after = standing_moved (λ client. open_of client past) (submitted_in past) old new old.cluster did.1 only s;
}

-- the same, with the reply that a body gives
pub resolve_steps : (old new : Database) (r : ℕ) (work : Work) (reply : Reply) → reply ≡ work_reply work → r < length old.cluster.pipeline.resolved →
    Did work (may_resolve old.cluster.pipeline r) old.cluster new.cluster (with_pipeline (resolve r old.cluster.pipeline) old.cluster) → OnlyCluster old new → IsStepped (Resolve r) reply old new
resolve_steps old new r work reply is there did only = subst (λ one. IsStepped (Resolve r) one old new) (sym is) (resolve_works old new r work there did only)

pub append_steps : (old new : Database) (l : ℕ) (work : Work) (reply : Reply) → reply ≡ work_reply work → l < length old.cluster.pipeline.logged →
    Did work (may_append old.cluster.pipeline l) old.cluster new.cluster (with_pipeline (append l old.cluster.pipeline) old.cluster) → OnlyCluster old new → IsStepped (Log l) reply old new
append_steps old new l work reply is there did only = subst (λ one. IsStepped (Log l) one old new) (sym is) (append_works old new l work there did only)

pub pull_steps : (old new : Database) (server : ℕ) (work : Work) (reply : Reply) → reply ≡ work_reply work → server < length old.cluster.pulled → AreInOrder old.cluster.pipeline →
    Did work (may_pull old.cluster server) old.cluster new.cluster (pull server old.cluster) → OnlyCluster old new → IsStepped (Pull server) reply old new
pull_steps old new server work reply is there ordered did only = subst (λ one. IsStepped (Pull server) one old new) (sym is) (pull_works old new server work there ordered did only)
