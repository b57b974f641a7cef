-- What the step that executes a kept plan replies and leaves, over plain values; and which plans are kept.
use Rattle.std.proofs.Common.{◌≡◌, ℕ, ◌<◌, ◌≤◌, ◌==◌, arith, length, Bool, true, false, cond, List, [], ◌∷◌, get_or, refl, sym, ap, subst, ◌∙◌, Option, Some, None, replicate}
use Rattle.std.specs.Prelude.{IfOk, Result, nat_lt, slice_set}
use Rattle.std.proofs.lemmas.Result.{IfOk-weaker}
use Rattle.std.proofs.lemmas.Bool.{eqb-true, eqb-false, ltb-true, ltb-false}
use Rattle.std.proofs.lemmas.List.{get_or-replicate, get_or-set_same, get_or-set_other}
use Rattle.cluster_core.specs.Cluster.{database_at}
use Rattle.planner.specs.Asked.{AskedPlan}
use Rattle.schedule.specs.declared.step.Command.{Command}
use Rattle.schedule.specs.declared.step.Command.TheVariants as asks
use Rattle.schedule.specs.declared.step.Step.{Step}
use Rattle.schedule.specs.declared.step.Step.TheVariants.{Execute, Perform}
use Rattle.schedule.specs.declared.step.TheConstants.{CLIENTS}
use Rattle.schedule.specs.declared.reply.Reply.{Reply}
use Rattle.schedule.specs.declared.reply.Reply.TheVariants.{Planned}
use Rattle.schedule.specs.declared.database.Database.{Database}
use Rattle.schedule.specs.Past.{Past, Open, execution, grown, kept_plan, open_after, open_of, submitted_in}
use Rattle.schedule.specs.Contract.{InTransaction, OfClient, WithPlan}
use Rattle.schedule.specs.Exact.{IsReplyHeld}
use Rattle.schedule.specs.Standing.{commits_of}
use Rattle.schedule.specs.Running.{AreKept, IsStanding, IsStepped, IsSteppedWith, IsUnplanned, Steps}
use Rattle.schedule.proofs.ClientSteps.{none_added, other_places}
use Rattle.schedule.proofs.Places.{places_stay}

-- whether the reply is right, by the plan that is kept
abbrev IsRightWith : Database → Past → ℕ → Reply → Option AskedPlan → Type 0
IsRightWith d past client reply kept =
    OfClient client reply (InTransaction (open_of client past)
    (λ open_now. WithPlan kept (λ plan. IsReplyHeld d.cluster (commits_of d.cluster.pipeline (submitted_in past)) open_now (asks.Execute plan) reply) reply) reply)

-- what the clients have open then
abbrev OpenWith : Past → ℕ → Reply → Option AskedPlan → ℕ → Option Open
OpenWith past client reply kept who = open_after who (execution client kept) reply (open_of who past)

-- executing the plan that is kept is performing the command with it
pub execute_kept : (plans : List (Option AskedPlan)) (client : ℕ) (plan : AskedPlan) (reply : Reply) (old new : Database) → client < CLIENTS → get_or plans client None ≡ Some plan →
    IsStepped (Perform client (asks.Execute plan)) reply old new → IsSteppedWith plans (Execute client) reply old new
execute_kept plans client plan reply old new there is stepped past s kept =
    let so = stepped past s in
    let has : kept_plan client past ≡ Some plan = sym (kept client there) ∙ is in record {
      right = subst (IsRightWith old past client reply) (sym has) so.right;
      moved = so.moved;
      added = so.added;
      grown = so.grown;
      after = subst (λ k. IsStanding (OpenWith past client reply k) (submitted_in past) new) (sym has) so.after;
    }

-- without a plan nothing is done
pub execute_unplanned : (plans : List (Option AskedPlan)) (client : ℕ) (reply : Reply) (d : Database) → get_or plans client None ≡ None → IsUnplanned client reply d → IsSteppedWith plans (Execute client) reply d d
execute_unplanned plans client reply d is unplanned past s kept = record {
  right = (λ below. subst (λ k. InTransaction (open_of client past) (λ open_now. WithPlan k (λ plan. IsReplyHeld d.cluster (commits_of d.cluster.pipeline (submitted_in past)) open_now (asks.Execute plan) reply) reply) reply) (sym (none (ltb-true client CLIENTS below))) ((unplanned past s).0 below), (unplanned past s).1);
  moved = λ more. refl;
  added = [];
  grown = none_added d.cluster.pipeline.requests;
  after = stays (kept_plan client past) none;
}
  where
    none : client < CLIENTS → kept_plan client past ≡ None
    none below = sym (kept client below) ∙ is

    stays : (k : Option AskedPlan) → (client < CLIENTS → k ≡ None) → IsStanding (OpenWith past client reply k) (submitted_in past) d
    stays None away = s
    stays (Some plan) away =
        other_places (OpenWith past client reply (Some plan)) d.transactions.items s
        (places_stay (database_at d.cluster) d.cluster.pipeline.reported client (grown (record { command = asks.Execute plan; reply = reply })) (λ who. open_of who past) d.transactions.items (λ below. absurd (let e : ◌≡◌ {A = Option AskedPlan} (Some plan) None = away below in cc)) s.places)

-- a step that leaves the kept plans alone is so whichever they are
pub any_plans : {E : Type 0} (plans : List (Option AskedPlan)) (step given : Step) (r : Result Reply E) (old new : Database) → given ≡ step → IfOk r (λ reply. IsStepped step reply old new) → IfOk r (λ reply. IsSteppedWith plans given reply old new)
any_plans plans step given r old new is so = IfOk-weaker r _ _ (λ reply stepped past s kept. subst (λ one. Steps past one reply old new) (sym is) (stepped past s)) so

pub any_plans_at : (plans : List (Option AskedPlan)) (step given : Step) (reply : Reply) (old new : Database) → given ≡ step → IsStepped step reply old new → IsSteppedWith plans given reply old new
any_plans_at plans step given reply old new is stepped past s kept = subst (λ one. Steps past one reply old new) (sym is) (stepped past s)

-- ---- which plans are kept

-- none at the start
pub kept_first : (plans : List (Option AskedPlan)) → plans ≡ replicate CLIENTS None → AreKept [] plans
kept_first plans are client below = ap (λ ps. get_or ps client None) are ∙ get_or-replicate CLIENTS client None None below

-- a client keeps the plan that it is told
pub kept_planned : (plans after : List (Option AskedPlan)) (who : ℕ) (command : Command) (plan : AskedPlan) → CLIENTS ≡ length plans → (who < CLIENTS → after ≡ slice_set plans who (Some plan)) → (CLIENTS ≤ who → after ≡ plans) →
    (past : Past) → AreKept past plans → AreKept ((Perform who command, Planned plan) ∷ past) after
kept_planned plans after who command plan long set stays past kept client below = by_test (who == client) refl
  where
    by_test : (b : Bool) → (who == client) ≡ b → get_or after client None ≡ cond b (Some plan) (kept_plan client past)
    by_test true same =
        let e : who ≡ client = eqb-true who client same in
        let within : who < CLIENTS = omega (arith, e, below) in
        ap (λ ps. get_or ps client None) (set within) ∙ ap (λ n. get_or (slice_set plans who (Some plan)) n None) (sym e) ∙ get_or-set_same plans who (Some plan) None (omega (arith, within, long))
    by_test false differ = by_place (nat_lt who CLIENTS) refl
      where
        by_place : (b : Bool) → nat_lt who CLIENTS ≡ b → get_or after client None ≡ kept_plan client past
        by_place true within = ap (λ ps. get_or ps client None) (set (ltb-true who CLIENTS within)) ∙ get_or-set_other plans who client (Some plan) None (λ e. eqb-false who client differ (sym e)) ∙ kept client below
        by_place false beyond = ap (λ ps. get_or ps client None) (stays (ltb-false who CLIENTS beyond)) ∙ kept client below
