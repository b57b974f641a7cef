use Rattle.std.proofs.Common.{◌≡◌, ◌∙◌, ◌∷◌, ap, length, slice_set, sym, subst₂, Some}
use Rattle.schedule.specs.declared.step.TheConstants.{CLIENTS}
use Rattle.schedule.specs.Running.{AreKept}
use Rattle.schedule.proofs.ExecuteSteps.{kept_planned}
use Rattle.schedule.proofs.kept_plans.KeptPlans.keep.Goals as goal

pub returns-in_ok-plan-in-Perform-Planned : goal.returns-in_ok-plan-in-Perform-Planned
returns-in_ok-plan-in-Perform-Planned c past kept =
    let told = c.in-Perform-Planned in
    let before = c.args.self.now.plans in
    let places : before.len ≡ CLIENTS = c.args.self.now.place_each in
    let same : before.len ≡ length before.items = before.ok.0 in
    subst₂ (λ step reply. AreKept ((step, reply) ∷ past) c.set.new.self.plans.items) (sym told.is-0) (sym told.is-1)
    (kept_planned before.items c.set.new.self.plans.items told.client told.field-1-0 told.plan (sym places ∙ same)
    (λ there. c.set.ensures.there there ∙ ap (λ plan. slice_set before.items told.client (Some plan)) c.in_ok-plan-in-Perform-Planned.ensures) c.set.ensures.away past kept)
