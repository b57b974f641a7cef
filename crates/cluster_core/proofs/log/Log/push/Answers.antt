use Rattle.std.proofs.Common.{◌≡◌, ◌∙◌, ◌+◌, ◌-◌, ◌++◌, ◌∷◌, [], ap, arith, length, true}
use Rattle.std.proofs.lemmas.List.{length_push}
use Rattle.cluster_core.proofs.Forgetting.{behind, more_behind}
use Rattle.cluster_core.proofs.Recent.{on_err}
use Rattle.cluster_core.proofs.log.Log.push.Goals as goal

pub returns-clause-ok : goal.returns-clause-ok
returns-clause-ok c =
    let f = c.self.inside in
    let items : c.push_back_reserved.new.self.items ≡ f.passes.items ++ c.args.passes ∷ [] =
    c.push_back_reserved.ensures.items ∙ ap (λ xs. xs ++ c.args.passes ∷ []) c.reserve.ensures.items in
    let count = ap length items ∙ length_push f.passes.items c.args.passes in
    let gone : f.count + 1 - length c.push_back_reserved.new.self.items ≡ f.count - length f.passes.items = omega (arith, count) in
    (λ i. behind (gone i) true (items i))
    ∙ more_behind (f.count - length f.passes.items) true f.passes.items (c.args.passes ∷ [])
    ∙ ap (λ passes. passes ++ c.args.passes ∷ []) c.self.view_is

pub returns-in_err-reserve-clause-err : goal.returns-in_err-reserve-clause-err
returns-in_err-reserve-clause-err c =
    on_err _ (ap (λ xs. behind (c.self.inside.count - length xs) true xs) c.reserve.ensures.items ∙ c.self.view_is)
