use Rattle.std.proofs.Common.{◌≡◌, ◌∙◌, ◌-◌, ◌+◌, ◌<◌, None, ap, arith, drop, get_or, length, set, subst, sym}
use Rattle.std.proofs.lemmas.List.{drop_more, length-drop}
use Rattle.cluster_core.specs.Progress.{ResolverState, tells}
use Rattle.cluster_core.proofs.Forgetting.{answered_is, behind, one_behind}
use Rattle.cluster_core.proofs.resolver.Resolver.take_cause.Goals as goal

pub returns-clause-taken : goal.returns-clause-taken
returns-clause-taken c =
    let f = c.self.inside in
    let xs = f.causes.items in
    let n = f.answered - length xs in
    let fits = c.self.invariant in
    let all = answered_is f.answered None xs fits in
    let next : n < length (behind n None xs) = subst (λ (r : ResolverState). r.told < length r.causes) (sym c.self.view_is) c.requires in
    let some : 0 < length xs = omega (arith, all, next, fits) in
    let rest = c.pop_front.ensures.rest in
    let left = ap length rest ∙ length-drop 1 xs in
    let gone : f.answered - length c.pop_front.new.self.items ≡ n + 1 = omega (arith, left, some, fits) in
    let causes : behind (f.answered - length c.pop_front.new.self.items) None c.pop_front.new.self.items ≡ set (behind n None xs) n None =
    (λ i. behind (gone i) None (rest i))
    ∙ sym (one_behind n None (get_or xs 0 None) (drop 1 xs))
    ∙ ap (λ ys. set (behind n None ys) n None) (sym (drop_more xs 0 None some)) in
    let both : ◌≡◌ {A = ResolverState} (record { owner = f.part; writers = f.writers; told = f.answered - length c.pop_front.new.self.items; causes = behind (f.answered - length c.pop_front.new.self.items) None c.pop_front.new.self.items })
    (record { owner = f.part; writers = f.writers; told = n + 1; causes = set (behind n None xs) n None }) =
    λ i. record { owner = f.part; writers = f.writers; told = gone i; causes = causes i } in
    both ∙ ap tells c.self.view_is
