use Rattle.std.proofs.Common.{rules, ◌≡◌, ◌∙◌, ◌+◌, ◌<◌, ap, length, map, subst, sym}
use Rattle.std.proofs.lemmas.List.{with_items_is}
use Rattle.std.specs.List.{All}
use Rattle.cluster_core.specs.declared.answers.Reported.TheVariants.{Conflict}
use Rattle.cluster_core.specs.Progress.{IsPipeline, first_kept, pipeline_state, tells}
use Rattle.cluster_core.specs.Roles.{may_report, outcome, report, told}
use Rattle.cluster_core.proofs.Clocks.{all_past, state_reported}
use Rattle.cluster_core.proofs.Standing.{all_told, next_told, stands_reported, told_next}
use Rattle.cluster_core.proofs.pipeline.Pipeline.report_next.Goals as goal
use Rattle.cluster_core.proofs.pipeline.Pipeline.report_next.Goals.{in-Some, in-None}

pub take_cause-cause-requires : goal.take_cause-cause-requires
take_cause-cause-requires c =
    let all = sym (all_past c.self.inside.start c.self.inside.reported (λ passes. length passes) c.self.inside.logs.items) ∙ ap may_report c.self.view_is ∙ c.requires in
    subst (All (λ r. r.told < length r.causes)) (sym c.as_mut_slice.ensures.value) (next_told _ _ _ _ _ _ _ c.self.invariant all)

pub invariant_of-self : goal.invariant_of-self
invariant_of-self c =
    let all = sym (all_past c.self.inside.start c.self.inside.reported (λ passes. length passes) c.self.inside.logs.items) ∙ ap may_report c.self.view_is ∙ c.requires in
    let len : length c.take_cause-cause.new.resolvers ≡ c.self.inside.resolvers.len = search rules in
    subst (λ rs. IsPipeline c.self.inside.splits c.self.inside.window c.self.inside.start c.self.inside.requests rs c.self.inside.logs.items (c.self.inside.reported + 1))
    (sym (with_items_is c.self.inside.resolvers c.take_cause-cause.new.resolvers len))
    (stands_reported _ _ _ _ _ _ _ c.self.invariant c.take_cause-cause.new.resolvers all (c.take_cause-cause.ensures.taken ∙ ap (map tells) c.as_mut_slice.ensures.value))

pub returns-clause-told : goal.returns-clause-told
returns-clause-told c =
    let all = sym (all_past c.self.inside.start c.self.inside.reported (λ passes. length passes) c.self.inside.logs.items) ∙ ap may_report c.self.view_is ∙ c.requires in
    let version = c.self.inside.start + c.self.inside.reported + 1 in
    let cause =
    c.take_cause-cause.ensures.cause c.self.inside.reported (subst (All (λ r. r.told ≡ c.self.inside.reported)) (sym c.as_mut_slice.ensures.value) (all_told _ _ _ _ _ _ _ c.self.invariant))
    ∙ ap (first_kept c.self.inside.reported) c.as_mut_slice.ensures.value in
    let is : c.match-cause.result ≡ told c.take_cause-cause.result version = elim c.match-cause.branch [
      | in-Some w ↦ w.result-is ∙ ap (λ why. Conflict why.seen why.range) w.cause.view_is ∙ ap (λ o. told o version) (sym w.in-Some.is)
      | in-None w ↦ w.result-is ∙ ap (λ o. told o version) (sym w.in-None.is)
    ] in
    is ∙ ap (λ o. told o version) cause
    ∙ told_next _ _ _ _ _ _ _ c.self.invariant all
    ∙ ap (λ p. outcome p (p.reported + 1)) c.self.view_is

pub returns-clause-step : goal.returns-clause-step
returns-clause-step c =
    let len : length c.take_cause-cause.new.resolvers ≡ c.self.inside.resolvers.len = search rules in
    let same = with_items_is c.self.inside.resolvers c.take_cause-cause.new.resolvers len in
    ap (λ rs. pipeline_state c.self.inside.splits c.self.inside.window c.self.inside.start c.self.inside.requests rs c.self.inside.logs.items (c.self.inside.reported + 1)) same
    ∙ state_reported c.self.inside.splits c.self.inside.window c.self.inside.start c.self.inside.requests c.self.inside.resolvers.items c.self.inside.logs.items c.self.inside.reported
    c.take_cause-cause.new.resolvers (c.take_cause-cause.ensures.taken ∙ ap (map tells) c.as_mut_slice.ensures.value)
    ∙ ap report c.self.view_is
