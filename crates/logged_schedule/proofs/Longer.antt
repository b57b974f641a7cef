-- Runs that are one step longer, over plain values.
use Rattle.std.proofs.Common.{◌≡◌, ◌∙◌, ℕ, ◌<◌, Bool, true, false, List, [], ◌∷◌, ◌++◌, refl, subst, nat_lt}
use Rattle.std.proofs.lemmas.Bool.{ltb-true}
use Rattle.std.proofs.lemmas.List.{map-append}
use Rattle.cluster_core.specs.Cluster.{ClusterState}
use Rattle.schedule.specs.declared.refusal.Refusal.TheVariants.{NoSuchClient}
use Rattle.schedule.specs.declared.reply.Reply.{Reply}
use Rattle.schedule.specs.declared.reply.Reply.TheVariants.{Refused, Submitted}
use Rattle.schedule.specs.declared.step.Step.{Step}
use Rattle.schedule.specs.declared.step.Step.TheVariants.{Commit}
use Rattle.schedule.specs.declared.step.Step.TheVariants as steps
use Rattle.schedule.specs.declared.step.TheConstants.{CLIENTS}
use Rattle.schedule.specs.Contract.{EachReply, past_of}
use Rattle.schedule.specs.Exact.{IsReplyTo}
use Rattle.schedule.specs.Past.{Past}
use Rattle.schedule.specs.Standing.{cluster_from}
use Rattle.schedule.specs.Stepwise.{HasDoneFrom, StepwiseState}
use Rattle.schedule.proofs.Growing.{past_of_append}
use Rattle.logged_schedule.specs.Following.{SubmitsOfClients}
use Rattle.logged_schedule.specs.Runs.{LosesNone, Run, done_as, first_in, past_in, with_step}

-- the last reply is right, and so are those before it
pub each_reply_last : (R S : Past → Step → Reply → Type 0) (past : Past) (steps : List Step) (replies : List Reply) (step : Step) (reply : Reply) →
    EachReply S past steps replies → EachReply R past (steps ++ step ∷ []) (replies ++ reply ∷ []) → EachReply R past steps replies × R (past_of past steps replies) step reply
each_reply_last R S past [] [] step reply before each = (tt, each.0)
each_reply_last R S past [] (other ∷ replies) step reply before each = absurd before
each_reply_last R S past (other ∷ steps) [] step reply before each = absurd before
each_reply_last R S past (first ∷ steps) (one ∷ replies) step reply before each =
    let rest = each_reply_last R S ((first, one) ∷ past) steps replies step reply before.1 each.1 in
    ((each.0, rest.0), rest.1)

pub longer_past : (run : Run) (step : Step) (reply : Reply) (state : StepwiseState) → HasDoneFrom (first_in run) run.steps run.replies state → past_in (with_step run step reply) ≡ (step, reply) ∷ past_in run
longer_past run step reply state done =
    past_of_append (λ past one answer. IsReplyTo (cluster_from (first_in run) (state.database.cluster.pipeline.requests ++ []) past) past one answer) [] run.steps run.replies step reply (done.0.right [])

-- a commit that is submitted is one of a client that there is
submits_one : (c : ClusterState) (past : Past) (client version : ℕ) → IsReplyTo c past (Commit client) (Submitted version) → client < CLIENTS
submits_one c past client version right = by_test (nat_lt client CLIENTS) refl
  where
    by_test : (b : Bool) → nat_lt client CLIENTS ≡ b → client < CLIENTS
    by_test true is = ltb-true client CLIENTS is
    by_test false is = absurd (let no : Submitted version ≡ Refused NoSuchClient = right.1 is in cc)

pub submits : (run : Run) (step : Step) (reply : Reply) (before after : StepwiseState) → HasDoneFrom (first_in run) run.steps run.replies before → HasDoneFrom (first_in run) (run.steps ++ step ∷ []) (run.replies ++ reply ∷ []) after → SubmitsOfClients step reply
submits run step reply before after done longer client version is_step is_reply =
    let requests = after.database.cluster.pipeline.requests ++ [] in
    let R : Past → Step → Reply → Type 0 = λ past one answer. IsReplyTo (cluster_from (first_in run) requests past) past one answer in
    let S : Past → Step → Reply → Type 0 = λ past one answer. IsReplyTo (cluster_from (first_in run) (before.database.cluster.pipeline.requests ++ []) past) past one answer in
    let right = (each_reply_last R S [] run.steps run.replies step reply (done.0.right []) (longer.0.right [])).1 in
    submits_one (cluster_from (first_in run) requests (past_in run)) (past_in run) client version
    (subst (λ answer. IsReplyTo (cluster_from (first_in run) requests (past_in run)) (past_in run) (Commit client) answer) is_reply (subst (λ one. IsReplyTo (cluster_from (first_in run) requests (past_in run)) (past_in run) one reply) is_step right))

done_twice : (step : Step) → done_as (done_as step) ≡ done_as step
done_twice (steps.Begin client store) = refl
done_twice (steps.Perform client command) = refl
done_twice (steps.Execute client) = refl
done_twice (steps.Commit client) = refl
done_twice (steps.Abandon client) = refl
done_twice (steps.Resolve r) = refl
done_twice (steps.Log l) = refl
done_twice (steps.Pull s) = refl
done_twice steps.Report = refl
done_twice steps.Lost = refl
done_twice steps.Settle = refl

-- one that is done so loses none
pub loses_none : (before : List Step) (step : Step) → LosesNone before → LosesNone (before ++ done_as step ∷ [])
loses_none before step none = map-append done_as before (done_as step ∷ []) ∙ (λ i. none i ++ done_twice step i ∷ [])
