use Rattle.std.proofs.Common.{rules, ◌≡◌, ◌∙◌, ◌-◌, ◌≤◌, ap, arith, length, map, subst, sym}
use Rattle.std.proofs.lemmas.List.{with_items_is}
use Rattle.std.specs.List.{All}
use Rattle.cluster_core.specs.Progress.{IsPipeline, forgets, pipeline_state}
use Rattle.cluster_core.specs.Roles.{PipelineState, done_with}
use Rattle.cluster_core.proofs.Clocks.{state_forgotten}
use Rattle.cluster_core.proofs.Standing.{logs_past, stands_forgotten}
use Rattle.cluster_core.proofs.pipeline.Pipeline.forget_before.Goals as goal

pub forget-requires-clause-from : goal.forget-requires-clause-from
forget-requires-clause-from c = subst (λ p. p.forgotten ≤ c.args.place) (sym c.self.view_is) c.requires.from

pub forget-requires-clause-upto : goal.forget-requires-clause-upto
forget-requires-clause-upto c =
    let far = subst (λ p. c.args.place ≤ done_with p) (sym c.self.view_is) c.requires.upto in
    let told = c.self.invariant.told in
    omega (arith, far, told)

pub forget_each-requires : goal.forget_each-requires
forget_each-requires c =
    let far = subst (λ p. c.args.place ≤ done_with p) (sym c.self.view_is) c.requires.upto in
    subst (All (λ passes. c.args.place ≤ length passes)) (sym c.as_mut_slice.ensures.value) (logs_past _ _ _ _ _ _ _ c.self.invariant c.args.place (omega (arith, far)))

pub invariant_of-self : goal.invariant_of-self
invariant_of-self c =
    let f = c.self.inside in
    let from = subst (λ p. p.forgotten ≤ c.args.place) (sym c.self.view_is) c.requires.from in
    let far = subst (λ p. c.args.place ≤ done_with p) (sym c.self.view_is) c.requires.upto in
    let upto : c.args.place ≤ f.reported - f.window = omega (arith, far) in
    let len : length c.forget_each.new.logs ≡ f.logs.len = search rules in
    subst (λ ls. IsPipeline f.splits f.window f.start c.forget.new.self f.resolvers.items ls f.reported) (sym (with_items_is f.logs c.forget_each.new.logs len))
    (subst (λ qs. IsPipeline f.splits f.window f.start qs f.resolvers.items c.forget_each.new.logs f.reported) (sym c.forget.ensures)
    (stands_forgotten _ _ _ _ _ _ _ c.self.invariant c.args.place c.forget_each.new.logs from upto (c.forget_each.ensures ∙ ap (map (forgets c.args.place)) c.as_mut_slice.ensures.value)))

pub returns : goal.returns
returns c =
    let f = c.self.inside in
    let far = subst (λ p. c.args.place ≤ done_with p) (sym c.self.view_is) c.requires.upto in
    let len : length c.forget_each.new.logs ≡ f.logs.len = search rules in
    (λ i. pipeline_state f.splits f.window f.start (c.forget.ensures i) f.resolvers.items (with_items_is f.logs c.forget_each.new.logs len i) f.reported)
    ∙ state_forgotten f.splits f.window f.start f.requests f.resolvers.items f.logs.items f.reported c.args.place c.forget_each.new.logs
    (c.forget_each.ensures ∙ ap (map (forgets c.args.place)) c.as_mut_slice.ensures.value) (logs_past _ _ _ _ _ _ _ c.self.invariant c.args.place (omega (arith, far)))
    ∙ ap (λ (p : PipelineState). record p { forgotten = c.args.place }) c.self.view_is
