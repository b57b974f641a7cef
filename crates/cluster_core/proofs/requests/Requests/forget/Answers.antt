use Rattle.std.proofs.Common.{◌≡◌, ◌∙◌, ◌+◌, ◌-◌, ◌≤◌, ap, arith, drop, length, subst, sym}
use Rattle.std.proofs.lemmas.List.{length-drop}
use Rattle.cluster_core.proofs.Forgetting.{drop_twice}
use Rattle.cluster_core.proofs.requests.Requests.forget.Goals as goal

pub invariant_of-self : goal.invariant_of-self
invariant_of-self c =
    let f = c.self.inside in
    let is = c.self.invariant in
    let from = subst (λ r. r.forgotten ≤ c.args.place) (sym c.self.view_is) c.requires.from in
    let upto = subst (λ r. c.args.place ≤ length r.all) (sym c.self.view_is) c.requires.upto in
    let left = ap length c.shed.ensures ∙ length-drop (c.args.place - f.forgotten) f.kept.items in
    let whole = is.1 in
    let at : f.forgotten + (c.args.place - f.forgotten) ≡ c.args.place = omega (arith, from) in (
      c.shed.ensures ∙ ap (drop (c.args.place - f.forgotten)) is.0 ∙ drop_twice (c.args.place - f.forgotten) f.forgotten f.past.list ∙ ap (λ n. drop n f.past.list) at,
      omega (arith, left, whole, from, upto),
      is.2,
    )
