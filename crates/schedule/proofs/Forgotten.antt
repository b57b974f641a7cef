-- Which bytes of requests are forgotten changes nothing of what a step replies and does.
use Rattle.std.proofs.Common.{◌≡◌, ℕ, zero, suc, ◌+◌, ◌-◌, ◌∙◌, Bool, true, false, List, [], ◌∷◌, ◌++◌, min, arith, refl, sym, ap, subst, Option, if◌then◌else◌}
use Rattle.std.specs.Prelude.{◌⊎◌}
use Rattle.std.specs.List.{range_with_len}
use Rattle.kv_core.specs.Map.{Map, after_all}
use Rattle.kv_core.specs.declared.change.CommitRequest.{CommitRequest}
use Rattle.cluster_core.specs.Cluster.{ClusterState, database_at, done_with_by, forget, maps_back, pull, server_at, servers_at, tier_of, with_pipeline}
use Rattle.cluster_core.specs.Configuration.{first_cluster_over}
use Rattle.cluster_core.specs.Decision.{Owned, owners}
use Rattle.cluster_core.specs.History.{map_over}
use Rattle.cluster_core.specs.Roles.{PipelineState, append, done_with, history, outcome, report, resolve, submitted, whole}
use Rattle.cluster_core.specs.Tier.{TierState, part}
use Rattle.cluster_core.specs.declared.answers.Config.{Config}
use Rattle.planner.specs.Asked.{AskedPlan}
use Rattle.cluster_core.specs.Refusing.{MayRefuse}
use Rattle.schedule.specs.declared.step.Step.{Step}
use Rattle.schedule.specs.declared.step.Step.TheVariants.{Begin, Perform, Execute, Commit, Abandon, Resolve, Log, Pull, Report, Lost, Settle}
use Rattle.schedule.specs.declared.reply.Reply.{Reply}
use Rattle.schedule.specs.declared.database.Database.{Database}
use Rattle.schedule.specs.Commits.{committed_over, view_over}
use Rattle.schedule.specs.Holds.{HoldsAll, Stores}
use Rattle.schedule.specs.Contract.{CommandRelation, IsReplyBy, client_of, report_to, reports_of, reports_reply}
use Rattle.schedule.specs.Exact.{IsReplyTo, commands_written}
use Rattle.schedule.specs.Past.{Past, Submission, accepted, submitted_in}
use Rattle.schedule.specs.Performed.{IsReadRefusal, IsServed}
use Rattle.schedule.specs.Reach.{opened_in, reach}
use Rattle.schedule.specs.Running.{IsFirst, IsSteppedWith, StandsAfter, Steps}
use Rattle.schedule.specs.Standing.{cluster_stepped, is_done, is_reported, is_submitted, with_next}
use Rattle.schedule.specs.Stepwise.{whole_cluster, whole_database}

-- ---- the servers

maps_same : (base : Map) (p : PipelineState) (owner : Owned) (version count : ℕ) → maps_back base p owner version count ≡ maps_back base (whole p) owner version count
maps_same base p owner version zero = refl
maps_same base p owner version (suc count) = ap (λ maps. part owner (map_over base (history p) version) ∷ maps) (maps_same base p owner (version - 1) count)

servers_same : (base : Map) (p : PipelineState) (os : List Owned) (clocks : List ℕ) → servers_at base p os clocks ≡ servers_at base (whole p) os clocks
servers_same base p [] clocks = refl
servers_same base p (owner ∷ os) [] = refl
servers_same base p (owner ∷ os) (clock ∷ clocks) =
    ap (λ maps. record { version = clock; maps = maps } ∷ servers_at base p os clocks) (maps_same base p owner clock (min p.window (clock - p.start)))
    ∙ ap (λ others. server_at base (whole p) owner clock ∷ others) (servers_same base p os clocks)

tier_same : (c : ClusterState) → tier_of c ≡ tier_of (whole_cluster c)
tier_same c = ap (λ servers. record { splits = c.splits; window = c.pipeline.window; servers = servers }) (servers_same c.base c.pipeline (owners c.splits) c.pulled)

-- ---- replies

-- the exact reply to a command, for all stores that the base holds, where the servers are these
abbrev ExactUnder : TierState → CommandRelation
ExactUnder tier c commits open_now command reply =
    (before : Stores) → HoldsAll c.base before →
    (let number = open_now.store in
    let seen = view_over before commits open_now in
    let at_read = database_at c open_now.read_version in
    let written = commands_written number at_read (committed_over before number commits open_now.read_version) (accepted open_now.attempts) in
    IsServed number (after_all written at_read) written seen command reply ⊎ IsReadRefusal (λ range. MayRefuse tier range open_now.read_version) (reach number (opened_in number seen) command (after_all written at_read)) reply)

reports_same : (p : PipelineState) (subs : List Submission) (versions : List ℕ) → reports_of p subs versions ≡ reports_of (whole p) subs versions
reports_same p subs [] = refl
reports_same p subs (version ∷ versions) = ap (λ rest. report_to (client_of subs version) (outcome p version) ++ rest) (reports_same p subs versions)

reply_same : (c : ClusterState) (past : Past) (step : Step) (reply : Reply) → IsReplyTo c past step reply → IsReplyTo (whole_cluster c) past step reply
reply_same c past (Begin client store) reply right = right
reply_same c past (Perform client command) reply right = subst (λ tier. IsReplyBy (ExactUnder tier) (whole_cluster c) past (Perform client command) reply) (tier_same c) right
reply_same c past (Execute client) reply right = subst (λ tier. IsReplyBy (ExactUnder tier) (whole_cluster c) past (Execute client) reply) (tier_same c) right
reply_same c past (Commit client) reply right = right
reply_same c past (Abandon client) reply right = right
reply_same c past (Resolve r) reply right = right
reply_same c past (Log l) reply right = right
reply_same c past (Pull s) reply right = right
reply_same c past Report reply right = right
reply_same c past Lost reply right = right
reply_same c past Settle reply right =
    right ∙ ap reports_reply (reports_same c.pipeline (submitted_in past) (range_with_len (c.pipeline.reported + 1) (submitted c.pipeline - c.pipeline.reported)))

-- ---- steps

chosen_same : (may : Bool) (c d : ClusterState) → (if may then whole_cluster c else whole_cluster d) ≡ whole_cluster (if may then c else d)
chosen_same true c d = refl
chosen_same false c d = refl

stepped_same : (requests : List CommitRequest) (step : Step) (reply : Reply) (c : ClusterState) → cluster_stepped requests step reply (whole_cluster c) ≡ whole_cluster (cluster_stepped requests step reply c)
stepped_same requests (Begin client store) reply c = refl
stepped_same requests (Perform client command) reply c = refl
stepped_same requests (Execute client) reply c = refl
stepped_same requests (Commit client) reply c = chosen_same (is_submitted reply) (with_pipeline (with_next requests c.pipeline) c) c
stepped_same requests (Abandon client) reply c = refl
stepped_same requests (Resolve r) reply c = chosen_same (is_done reply) (with_pipeline (resolve r c.pipeline) c) c
stepped_same requests (Log l) reply c = chosen_same (is_done reply) (with_pipeline (append l c.pipeline) c) c
stepped_same requests (Pull s) reply c = chosen_same (is_done reply) (pull s c) c
stepped_same requests Report reply c = chosen_same (is_reported reply) (with_pipeline (report c.pipeline) c) c
stepped_same requests Lost reply c = chosen_same (is_reported reply) (with_pipeline (report c.pipeline) c) c
stepped_same requests Settle reply c = refl

-- ---- what stands

-- the database, with bytes kept of all requests but so many of the first ones
abbrev forgetting : ℕ → Database → Database
forgetting n database = record database { cluster = with_pipeline (record database.cluster.pipeline { forgotten = n }) database.cluster }

stands_any : (past : Past) (database : Database) (n m : ℕ) → StandsAfter past (forgetting n database) → StandsAfter past (forgetting m database)
stands_any past database n m stands =
    record {
      begun = stands.begun;
      given = stands.given;
      pulled = stands.pulled;
      places = stands.places;
      unreported = stands.unreported;
      commits = stands.commits;
      submitted = stands.submitted;
    }

pub stands_so : (past : Past) (database : Database) → StandsAfter past (whole_database database) → StandsAfter past database
stands_so past database stands = stands_any past database 0 database.cluster.pipeline.forgotten stands

-- a step that was done so would have been done the same with the bytes of all requests
pub stepped_whole : (plans : List (Option AskedPlan)) (step : Step) (reply : Reply) (old new : Database) → IsSteppedWith plans step reply old new → IsSteppedWith plans step reply (whole_database old) (whole_database new)
stepped_whole plans step reply old new is past stands keeps =
    let was : Steps past step reply old new = is past (stands_so past old stands) keeps in
    record {
      right = reply_same old.cluster past step reply was.right;
      moved = λ more. stepped_same (new.cluster.pipeline.requests ++ more) step reply old.cluster ∙ ap whole_cluster (was.moved more);
      added = was.added;
      grown = was.grown;
      after = stands_any ((step, reply) ∷ past) new new.cluster.pipeline.forgotten 0 was.after;
    }

-- ---- the first one

nothing_pulled : (start : ℕ) (clocks : List ℕ) → done_with_by start 0 clocks ≡ 0
nothing_pulled start [] = refl
nothing_pulled start (clock ∷ clocks) = ap (min (clock - start)) (nothing_pulled start clocks) ∙ min_zero (clock - start)
  where
    min_zero : (n : ℕ) → min n 0 ≡ 0
    min_zero n = omega arith

-- at the start there is nothing to forget
pub first_forgets : (base : Map) (config : Config) (database : Database) → IsFirst (first_cluster_over base config) database → database.cluster ≡ forget database.cluster
first_forgets base config database first =
    let c = first_cluster_over base config in
    let none : done_with c.pipeline ≡ 0 = omega arith in
    first.cluster
    ∙ ap (λ n. record c { pipeline = record c.pipeline { forgotten = n } }) (sym (nothing_pulled config.start c.pulled) ∙ ap (λ n. done_with_by config.start n c.pulled) (sym none))
    ∙ sym (ap forget first.cluster)

pub first_whole : (base : Map) (config : Config) (database : Database) → IsFirst (first_cluster_over base config) database → IsFirst (first_cluster_over base config) (whole_database database)
first_whole base config database first =
    record { cluster = ap whole_cluster first.cluster; places = first.places; unreported = first.unreported; commits = first.commits }
