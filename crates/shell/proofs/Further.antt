-- Schedules after more steps.
use Rattle.std.proofs.Common.{◌≡◌, ◌∙◌, ℕ, ◌+◌, ◌<◌, List, [], ◌∷◌, ◌++◌, length, get_or, take, ap, sym, subst₂, append-nil, append_assoc}
use Rattle.std.proofs.lemmas.List.{take_more}
use Rattle.cluster_core.specs.Cluster.{ClusterState}
use Rattle.cluster_core.specs.declared.answers.Config.{Config}
use Rattle.journal.specs.declared.device.Device.{Ghosts}
use Rattle.schedule.specs.declared.step.Step.{Step}
use Rattle.schedule.specs.declared.reply.Reply.{Reply}
use Rattle.schedule.specs.Stepwise.{DoesNext, HasDoneFrom, StepwiseState}
use Rattle.logged_schedule.specs.declared.logged.LoggedSchedule.{LoggedSchedule}
use Rattle.logged_schedule.specs.Opening.{IsOpenedAgain}
use Rattle.logged_schedule.specs.Continuing.{start_after}
use Rattle.logged_schedule.specs.Standing.{schedule_of}
use Rattle.shell.specs.Further.{HasDoneNext, IsAfter, IsFurther, IsOfStepsFrom, IsOfStepsOver}

-- ---- steps up to a place

-- none
pub gone_on_none : (s : StepwiseState) → HasDoneNext [] s s
gone_on_none s first done replies so_far =
    ([], subst₂ (λ ss rs. HasDoneFrom first ss rs s) (sym (append-nil done)) (sym (append-nil replies)) so_far)

-- the one there
pub gone_on_more : (steps : List Step) (i : ℕ) (step : Step) (reply : Reply) (before now after : StepwiseState) → i < length steps → step ≡ get_or steps i step
    → HasDoneNext (take i steps) before now → DoesNext step reply now after → HasDoneNext (take (i + 1) steps) before after
gone_on_more steps i step reply before now after within is so_far one first done replies done_before =
    let (more, reached) = so_far first done replies done_before in
    let longer : take (i + 1) steps ≡ take i steps ++ step ∷ [] = take_more steps i step within ∙ ap (λ s. take i steps ++ s ∷ []) (sym is) in (
      more ++ reply ∷ [],
      subst₂ (λ ss rs. HasDoneFrom first ss rs after) (append_assoc done (take i steps) (step ∷ []) ∙ ap (λ s. done ++ s) (sym longer)) (append_assoc replies more (reply ∷ []))
          (one first (done ++ take i steps) (replies ++ more) reached),
    )

-- ---- some steps

after_none : (s : StepwiseState) → IsAfter s s
after_none s = ([], gone_on_none s)

after_both : (a b c : StepwiseState) (more : List Step) → IsAfter a b → HasDoneNext more b c → IsAfter a c
after_both a b c more (steps, first) last = (
  steps ++ more,
  λ start done replies so_far.
      let (told, reached) = first start done replies so_far in
      let (rest, ended) = last start (done ++ steps) (replies ++ told) reached in
      (told ++ rest, subst₂ (λ ss rs. HasDoneFrom start ss rs c) (append_assoc done steps more) (append_assoc replies told rest) ended),
)

pub further_steps : (steps : List Step) (before after : StepwiseState) → HasDoneNext steps before after → IsFurther before after
further_steps steps before after next start so_far = after_both start before after steps so_far next

pub further_one : (step : Step) (reply : Reply) (before after : StepwiseState) → DoesNext step reply before after → IsFurther before after
further_one step reply before after one = further_steps (step ∷ []) before after (λ first done replies so_far. (reply ∷ [], one first done replies so_far))

pub further_both : (a b c : StepwiseState) → IsFurther a b → IsFurther b c → IsFurther a c
further_both a b c first last start so_far = last start (first start so_far)

-- where some steps were done, and then some more
pub steps_further : (first : ClusterState) (before after : StepwiseState) → IsFurther before after → IsOfStepsFrom first before → IsOfStepsFrom first after
steps_further first before after further (steps, replies, done) =
    let (more, next) = further before (after_none before) in
    let (told, longer) = next first steps replies done in
    (steps ++ more, replies ++ told, longer)

-- ---- a folder

-- nothing was done yet over what its log comes to
pub opened_over : {D : Type 0} {G : Ghosts D} (seen : D → List ℕ) (may_leave : D → List ℕ → Type 0) (config : Config) (file : List ℕ) (logged : LoggedSchedule D G) → IsOpenedAgain seen may_leave config file logged → (start : ℕ) × IsOfStepsOver config start (schedule_of logged)
opened_over seen may_leave config file logged is = (start_after config.start is.entries, ([], [], (is.entries, is.keeps.over, is.keeps.done.done)))
