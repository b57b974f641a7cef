use Rattle.std.proofs.Common.{◌≡◌, ◌∙◌, ◌-◌, ◌≤◌, ap, drop, length, subst, sym, true}
use Rattle.cluster_core.specs.Progress.{forgets}
use Rattle.cluster_core.proofs.Forgetting.{answered_is, shed_forgets}
use Rattle.cluster_core.proofs.log.Log.forget.Goals as goal

pub returns : goal.returns
returns c =
    let f = c.self.inside in
    let fits = c.self.invariant in
    let n : f.count - c.len.result ≡ f.count - length f.passes.items = ap (λ k. f.count - k) (c.len.ensures ∙ f.passes.ok.0) in
    let inside : c.args.place ≤ f.count =
    subst (λ k. c.args.place ≤ k) (answered_is f.count true f.passes.items fits) (subst (λ passes. c.args.place ≤ length passes) (sym c.self.view_is) c.requires) in
    shed_forgets c.args.place f.count f.passes.items c.shed.new.items.items fits inside
    (c.shed.ensures ∙ ap (λ k. drop k f.passes.items) (c.saturating_sub.ensures ∙ ap (λ k. c.args.place - k) n))
    ∙ ap (forgets c.args.place) c.self.view_is
