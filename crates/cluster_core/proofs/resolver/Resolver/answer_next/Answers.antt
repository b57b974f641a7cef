use Rattle.std.proofs.Common.{arith, ◌≡◌, ◌∙◌, ◌-◌, ◌+◌, ◌<◌, ◌≤◌, ◌++◌, ◌∷◌, [], None, ap, length, replicate, slice_get, subst, sym}
use Rattle.std.proofs.lemmas.List.{length_push}
use Rattle.cluster_core.specs.Decision.{numbered}
use Rattle.cluster_core.specs.Kept.{KeepsRecent, KnowsWriters}
use Rattle.cluster_core.specs.Progress.{IsResolver, Knows}
use Rattle.cluster_core.specs.contracts.resolver.Resolver.{the_view}
use Rattle.cluster_core.proofs.Forgetting.{answered_is, behind, more_behind}
use Rattle.cluster_core.proofs.Keeping.{answered_again, answered_next}
use Rattle.cluster_core.proofs.Recent.{on_err}
use Rattle.cluster_core.proofs.resolver.Resolver.answer_next.Goals as goal

pub answer-requires-clause-inside : goal.answer-requires-clause-inside
answer-requires-clause-inside c =
    subst (λ n. n < length c.args.requests.now.all)
    (sym (sym (answered_is c.self.inside.answered None c.self.inside.causes.items c.self.invariant) ∙ ap (λ r. length r.causes) c.self.view_is)) c.requires.inside

pub answer-requires-clause-kept : goal.answer-requires-clause-kept
answer-requires-clause-kept c =
    subst (λ n. c.args.requests.now.forgotten ≤ n - c.args.window)
    (sym (sym (answered_is c.self.inside.answered None c.self.inside.causes.items c.self.invariant) ∙ ap (λ r. length r.causes) c.self.view_is)) c.requires.kept

pub answer-requires-clause-knows : goal.answer-requires-clause-knows
answer-requires-clause-knows c =
    let number : c.self.inside.answered ≡ length (the_view c.self.inside).causes = sym (answered_is c.self.inside.answered None c.self.inside.causes.items c.self.invariant) in
    subst (λ n. KnowsWriters c.self.inside.part c.args.start c.args.requests.now.all (n - c.args.window) n c.self.inside.writers) (sym number)
    (subst (Knows c.args.window c.args.start c.args.requests.now.all) (sym c.self.view_is) c.requires.knows)

pub returns-in_err-reserve-clause-unchanged : goal.returns-in_err-reserve-clause-unchanged
returns-in_err-reserve-clause-unchanged c =
    on_err _ (ap (λ xs. behind (c.self.inside.answered - length xs) None xs) c.reserve.ensures.items ∙ ap (λ r. r.causes) c.self.view_is)

pub returns-in_err-reserve-clause-kept : goal.returns-in_err-reserve-clause-kept
returns-in_err-reserve-clause-kept c = λ reported was.
    subst (λ xs. IsResolver c.args.window c.args.start c.args.requests.now.all reported
    (record { owner = c.self.inside.part; writers = c.self.inside.writers; told = c.self.inside.answered - length xs; causes = behind (c.self.inside.answered - length xs) None xs }))
    (sym c.reserve.ensures.items) (subst (IsResolver c.args.window c.args.start c.args.requests.now.all reported) (sym c.self.view_is) was)

pub returns-in_err-cause-clause-unchanged : goal.returns-in_err-cause-clause-unchanged
returns-in_err-cause-clause-unchanged c =
    on_err _ (ap (λ xs. behind (c.self.inside.answered - length xs) None xs) c.reserve.ensures.items ∙ ap (λ r. r.causes) c.self.view_is)

pub returns-in_err-cause-clause-kept : goal.returns-in_err-cause-clause-kept
returns-in_err-cause-clause-kept c = λ reported was.
    let requests = c.args.requests.now.all in
    let old = the_view c.self.inside in
    let number : c.self.inside.answered ≡ length old.causes = sym (answered_is c.self.inside.answered None c.self.inside.causes.items c.self.invariant) in
    let was' = subst (IsResolver c.args.window c.args.start requests reported) (sym c.self.view_is) was in
    subst (λ xs. IsResolver c.args.window c.args.start requests reported
    (record { owner = c.self.inside.part; writers = c.answer.new.self; told = c.self.inside.answered - length xs; causes = behind (c.self.inside.answered - length xs) None xs }))
    (sym c.reserve.ensures.items)
    (answered_again c.args.window c.args.start requests reported old c.answer.new.self was'
    (subst (λ n. KnowsWriters c.self.inside.part c.args.start requests (n - c.args.window) n c.answer.new.self) number c.in_err-cause.ensures.kept)
    (subst (λ n. KeepsRecent c.args.window n c.answer.new.self) number
    (c.in_err-cause.ensures.recent_kept (subst (λ n. KeepsRecent c.args.window n c.self.inside.writers) (sym number) was'.recent))))

pub returns-clause-counted : goal.returns-clause-counted
returns-clause-counted c =
    let items : c.push_back_reserved.new.self.items ≡ c.self.inside.causes.items ++ c.in_ok-cause.cause ∷ [] =
    c.push_back_reserved.ensures.items ∙ ap (λ xs. xs ++ c.in_ok-cause.cause ∷ []) c.in_ok-reserve.ensures.items in
    let count = ap length items ∙ length_push c.self.inside.causes.items c.in_ok-cause.cause in
    let fits = c.self.invariant in
    answered_is (c.self.inside.answered + 1) None c.push_back_reserved.new.self.items (omega (arith, count, fits))
    ∙ ap (λ n. n + 1) (sym (answered_is c.self.inside.answered None c.self.inside.causes.items c.self.invariant) ∙ ap (λ r. length r.causes) c.self.view_is)

pub returns-clause-kept : goal.returns-clause-kept
returns-clause-kept c = λ reported was.
    let requests = c.args.requests.now.all in
    let old = the_view c.self.inside in
    let number : c.self.inside.answered ≡ length old.causes = sym (answered_is c.self.inside.answered None c.self.inside.causes.items c.self.invariant) in
    let items : c.push_back_reserved.new.self.items ≡ c.self.inside.causes.items ++ c.in_ok-cause.cause ∷ [] =
    c.push_back_reserved.ensures.items ∙ ap (λ xs. xs ++ c.in_ok-cause.cause ∷ []) c.in_ok-reserve.ensures.items in
    let count = ap length items ∙ length_push c.self.inside.causes.items c.in_ok-cause.cause in
    let told : c.self.inside.answered + 1 - length c.push_back_reserved.new.self.items ≡ old.told = omega (arith, count) in
    let was' = subst (IsResolver c.args.window c.args.start requests reported) (sym c.self.view_is) was in
    subst (λ k. IsResolver c.args.window c.args.start requests reported (record { owner = c.self.inside.part; writers = c.answer.new.self; told = k; causes = replicate k None ++ c.push_back_reserved.new.self.items }))
    (sym told)
    (answered_next c.args.window c.args.start requests reported old c.answer.new.self (replicate old.told None ++ c.push_back_reserved.new.self.items) c.in_ok-cause.cause was'
    (subst (λ r. length r.causes < length requests) (sym c.self.view_is) c.requires.inside)
    (ap (λ xs. replicate old.told None ++ xs) items ∙ more_behind old.told None c.self.inside.causes.items (c.in_ok-cause.cause ∷ []))
    (λ entry there. c.in_ok-cause.ensures.cause entry (ap (slice_get (numbered c.args.start requests)) number ∙ there))
    (subst (λ n. KnowsWriters c.self.inside.part c.args.start requests (n - c.args.window) (n + 1) c.answer.new.self) number c.in_ok-cause.ensures.grown)
    (subst (λ n. KeepsRecent c.args.window (n + 1) c.answer.new.self) number
    (c.in_ok-cause.ensures.recent_grown (subst (λ n. KeepsRecent c.args.window n c.self.inside.writers) (sym number) was'.recent))))
