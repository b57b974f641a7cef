use Rattle.std.proofs.Common.{◌≡◌, ◌∙◌, ◌+◌, ◌<◌, ◌^◌, ◌++◌, ◌∷◌, [], ap, arith, drop, length, subst, sym}
use Rattle.std.proofs.lemmas.List.{drop-append-le, length_push}
use Rattle.cluster_core.proofs.requests.Requests.push.Goals as goal

pub invariant_of-self-2 : goal.invariant_of-self-2
invariant_of-self-2 c =
    let f = c.self.inside in
    let is = c.self.invariant in
    let items : c.push_back_reserved.new.self.items ≡ f.kept.items ++ c.args.request ∷ [] =
    c.push_back_reserved.ensures.items ∙ ap (λ xs. xs ++ c.args.request ∷ []) c.reserve.ensures.items in
    let list : c.then-past.result.list ≡ f.past.list ++ c.args.request ∷ [] = c.then-past.ensures in
    let count = ap length items ∙ length_push f.kept.items c.args.request in
    let all = ap length list ∙ length_push f.past.list c.args.request in
    let whole = is.1 in
    let small = subst (λ r. length r.all + 1 < 2 ^ 64) (sym c.self.view_is) c.requires in (
      items ∙ ap (λ xs. xs ++ c.args.request ∷ []) is.0
          ∙ sym (drop-append-le f.forgotten f.past.list (c.args.request ∷ []) (omega (arith, whole))) ∙ ap (drop f.forgotten) (sym list),
      omega (arith, count, all, whole),
      omega (arith, all, small),
    )
