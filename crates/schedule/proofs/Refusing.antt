-- What a refused step leaves.
use Rattle.std.proofs.Common.{◌≡◌, ℕ, Bool, true, false, cond, ◌==◌, List, [], ◌∷◌, ◌++◌, Option, Some, None, map, refl, ap}
use Rattle.std.specs.Prelude.{filter}
use Rattle.std.specs.Option.{option_map}
use Rattle.kv_core.specs.declared.change.CommitRequest.{CommitRequest}
use Rattle.cluster_core.specs.Cluster.{ClusterState}
use Rattle.schedule.specs.declared.refusal.Refusal.{Refusal}
use Rattle.schedule.specs.declared.step.Command.{Command}
use Rattle.schedule.specs.declared.step.Step.{Step}
use Rattle.schedule.specs.declared.step.Step.TheVariants.{Begin, Perform, Execute, Commit, Abandon, Resolve, Log, Pull, Report, Lost, Settle}
use Rattle.schedule.specs.declared.reply.Reply.{Reply}
use Rattle.schedule.specs.declared.reply.Reply.TheVariants.{Begun, Done, SavedNew, SavedOver, Found, Absent, Removed, Rows, Planned, Indexed, State, Total, Built, Finished, Submitted, ReadOnly, Nothing, Reported, Refused, Corrupt, Stopped}
use Rattle.schedule.specs.declared.reply.Report as telling
use Rattle.planner.specs.Asked.{AskedPlan}
use Rattle.schedule.specs.declared.step.Command.TheVariants as asks
use Rattle.schedule.specs.Past.{Past, Attempt, Open, accepted, execution, is_accepted, grown, kept_plan, open_after, open_of}
use Rattle.schedule.specs.Standing.{cluster_from}
use Rattle.schedule.specs.Contract.{EachReply, HasReplies, IsLeft, LeavesAll, open_by_commands, reports_reply}
use Rattle.schedule.specs.Exact.{IsReplyHeld, IsReplyTo}

-- a refused attempt isn't among the accepted ones
accepted_grown : (attempts : List Attempt) (command : Command) (refusal : Refusal) → accepted (attempts ++ (record { command = command; reply = Refused refusal }) ∷ []) ≡ accepted attempts
accepted_grown [] command refusal = refl
accepted_grown (first ∷ attempts) command refusal = by_test (is_accepted first.reply) (accepted_grown attempts command refusal)
  where
    later : List Attempt
    later = attempts ++ (record { command = command; reply = Refused refusal }) ∷ []

    kept : List Attempt → List Attempt
    kept = filter (λ (a : Attempt). is_accepted a.reply)

    by_test : (b : Bool) → map (λ (a : Attempt). a.command) (kept later) ≡ map (λ (a : Attempt). a.command) (kept attempts) →
        map (λ (a : Attempt). a.command) (cond b (first ∷ kept later) (kept later)) ≡ map (λ (a : Attempt). a.command) (cond b (first ∷ kept attempts) (kept attempts))
    by_test true rest = ap (λ cs. first.command ∷ cs) rest
    by_test false rest = rest

abbrev by_commands : Open → ℕ × ℕ × List Command
by_commands open_now = (open_now.store, open_now.read_version, accepted open_now.attempts)

grown_same : (command : Command) (refusal : Refusal) (before : Option Open) → option_map by_commands (grown (record { command = command; reply = Refused refusal }) before) ≡ option_map by_commands before
grown_same command refusal None = refl
grown_same command refusal (Some open_now) = ap (λ cs. Some (open_now.store, open_now.read_version, cs)) (accepted_grown open_now.attempts command refusal)

-- a report isn't a refusal
not_refused : (reports : List telling.Report) (refusal : Refusal) → Refused refusal ≡ reports_reply reports → ⊥
not_refused [] refusal is = cc
not_refused (one ∷ others) refusal is = cc

leaves : (first : ClusterState) (requests : List CommitRequest) (past : Past) (step : Step) (refusal : Refusal) → IsReplyTo (cluster_from first requests past) past step (Refused refusal) → IsLeft first requests past step (Refused refusal)
leaves first requests past (Begin who store) refusal right = record { cluster = refl; submissions = refl; transactions = λ client. refl }
leaves first requests past (Perform who command) refusal right = record {
  cluster = refl;
  submissions = refl;
  transactions = λ client. by_test (who == client) client;
}
  where
    by_test : (b : Bool) (client : ℕ) →
        option_map by_commands (cond b (grown (record { command = command; reply = Refused refusal }) (open_of client past)) (open_of client past)) ≡ open_by_commands client past
    by_test true client = grown_same command refusal (open_of client past)
    by_test false client = refl
leaves first requests past (Execute who) refusal right = record {
  cluster = refl;
  submissions = refl;
  transactions = λ client. by_plan (kept_plan who past) client;
}
  where
    by_test : (plan : AskedPlan) (b : Bool) (client : ℕ) →
        option_map by_commands (cond b (grown (record { command = asks.Execute plan; reply = Refused refusal }) (open_of client past)) (open_of client past)) ≡ open_by_commands client past
    by_test plan true client = grown_same (asks.Execute plan) refusal (open_of client past)
    by_test plan false client = refl

    by_plan : (kept : Option AskedPlan) (client : ℕ) → option_map by_commands (open_after client (execution who kept) (Refused refusal) (open_of client past)) ≡ open_by_commands client past
    by_plan None client = refl
    by_plan (Some plan) client = by_test plan (who == client) client
leaves first requests past (Commit who) refusal right = record {
  cluster = refl;
  submissions = refl;
  transactions = λ client. by_test (who == client) client;
}
  where
    by_test : (b : Bool) (client : ℕ) → option_map by_commands (cond b None (open_of client past)) ≡ cond b None (open_by_commands client past)
    by_test true client = refl
    by_test false client = refl
leaves first requests past (Abandon who) refusal right = record { cluster = refl; submissions = refl; transactions = λ client. refl }
leaves first requests past (Resolve r) refusal right = record { cluster = refl; submissions = refl; transactions = λ client. refl }
leaves first requests past (Log l) refusal right = record { cluster = refl; submissions = refl; transactions = λ client. refl }
leaves first requests past (Pull s) refusal right = record { cluster = refl; submissions = refl; transactions = λ client. refl }
leaves first requests past Report refusal right = record { cluster = refl; submissions = refl; transactions = λ client. refl }
leaves first requests past Lost refusal right = record { cluster = refl; submissions = refl; transactions = λ client. refl }
leaves first requests past Settle refusal right = absurd (not_refused _ refusal right)

leaves_any : (first : ClusterState) (requests : List CommitRequest) (past : Past) (step : Step) (reply : Reply) → IsReplyTo (cluster_from first requests past) past step reply → LeavesAll first requests past step reply
leaves_any first requests past step (Refused refusal) right = leaves first requests past step refusal right
leaves_any first requests past step (Corrupt key) right = tt
leaves_any first requests past step Stopped right = tt
leaves_any first requests past step (Begun version) right = tt
leaves_any first requests past step Done right = tt
leaves_any first requests past step SavedNew right = tt
leaves_any first requests past step (SavedOver cells) right = tt
leaves_any first requests past step (Found cells) right = tt
leaves_any first requests past step Absent right = tt
leaves_any first requests past step Removed right = tt
leaves_any first requests past step (Rows rows) right = tt
leaves_any first requests past step (Planned plan) right = tt
leaves_any first requests past step (Indexed state) right = tt
leaves_any first requests past step (State state) right = tt
leaves_any first requests past step (Total total) right = tt
leaves_any first requests past step (Built records range) right = tt
leaves_any first requests past step Finished right = tt
leaves_any first requests past step (Submitted version) right = tt
leaves_any first requests past step ReadOnly right = tt
leaves_any first requests past step Nothing right = tt
leaves_any first requests past step (Reported reports) right = tt

each_leaves : (first : ClusterState) (requests : List CommitRequest) (past : Past) (steps : List Step) (replies : List Reply) →
    EachReply (λ past step reply. IsReplyTo (cluster_from first requests past) past step reply) past steps replies → EachReply (LeavesAll first requests) past steps replies
each_leaves first requests past [] [] each = tt
each_leaves first requests past [] (other ∷ replies) each = absurd each
each_leaves first requests past (other ∷ steps) [] each = absurd each
each_leaves first requests past (step ∷ steps) (one ∷ replies) each = (leaves_any first requests past step one each.0, each_leaves first requests ((step, one) ∷ past) steps replies each.1)

-- REFUSALS: where each reply is right, each refused step leaves all as it was
pub refusals_leave : (first : ClusterState) (requests : List CommitRequest) (steps : List Step) (replies : List Reply) → HasReplies IsReplyHeld first requests steps replies → EachReply (LeavesAll first requests) [] steps replies
refusals_leave first requests steps replies each = each_leaves first requests [] steps replies each
