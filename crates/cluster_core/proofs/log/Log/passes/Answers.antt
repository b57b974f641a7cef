use Rattle.std.proofs.Common.{◌≡◌, ◌∙◌, ◌-◌, ◌<◌, ap, get_or, length, subst, sym, true}
use Rattle.cluster_core.proofs.Forgetting.{item_front}
use Rattle.cluster_core.proofs.log.Log.passes.Goals as goal

pub returns-then-place-forgotten : goal.returns-then-place-forgotten
returns-then-place-forgotten c =
    let f = c.self.inside in
    let n : f.count - c.len.result ≡ f.count - length f.passes.items = ap (λ k. f.count - k) (c.len.ensures ∙ f.passes.ok.0) in
    sym (item_front (f.count - length f.passes.items) true f.passes.items c.args.place true (subst (λ k. c.args.place < k) n c.if-place-forgotten.true))
    ∙ ap (λ passes. get_or passes c.args.place true) c.self.view_is
