use Rattle.std.proofs.Common.{rules, ◌≡◌, ◌∙◌, ◌+◌, ◌-◌, ◌<◌, ◌≤◌, ap, arith, get_or, length, subst, sym, true}
use Rattle.std.proofs.lemmas.Bool.{lt-ltb}
use Rattle.std.proofs.lemmas.List.Elements.{All-get_or}
use Rattle.std.proofs.lemmas.Result.{err_from_is_err_and}
use Rattle.cluster_core.specs.Progress.{IsResolver}
use Rattle.cluster_core.specs.Roles.{may_resolve, resolve}
use Rattle.cluster_core.proofs.Clocks.{clock_behind, state_kept, state_resolved, within_clocks}
use Rattle.cluster_core.proofs.Standing.{kept_for, stands_resolved}
use Rattle.cluster_core.proofs.pipeline.Pipeline.resolve.Goals as goal

pub answer_next-requires-clause-kept : goal.answer_next-requires-clause-kept
answer_next-requires-clause-kept c =
    let d = c.index_mut.result.now in
    let inside = within_clocks c.self.inside.start (λ r. length r.causes) c.self.inside.resolvers.items c.args.r (subst (λ p. c.args.r < length p.resolved) (sym c.self.view_is) c.requires) in
    subst (λ r. c.self.inside.requests.forgotten ≤ length r.causes - c.self.inside.window) (sym c.index_mut.ensures.value) (kept_for _ _ _ _ _ _ _ c.self.invariant c.args.r d inside)

pub invariant_of-self : goal.invariant_of-self
invariant_of-self c =
    let d = c.index_mut.result.now in
    let is = c.self.invariant in
    let next = c.in_err-answer_next.ensures in
    let inside = within_clocks c.self.inside.start (λ r. length r.causes) c.self.inside.resolvers.items c.args.r (subst (λ p. c.args.r < length p.resolved) (sym c.self.view_is) c.requires) in
    let own = All-get_or (IsResolver c.self.inside.window c.self.inside.start c.self.inside.requests.all c.self.inside.reported) c.self.inside.resolvers.items c.args.r d inside is.resolving in
    let before = subst (λ r. IsResolver c.self.inside.window c.self.inside.start c.self.inside.requests.all c.self.inside.reported r) (sym c.index_mut.ensures.value) own in
    let same : length c.answer_next.new.self.causes ≡ length (get_or c.self.inside.resolvers.items c.args.r d).causes = ap length next.unchanged ∙ ap (λ r. length r.causes) c.index_mut.ensures.value in
    stands_resolved _ _ _ _ _ _ _ is c.args.r c.answer_next.new.self d inside
    (next.owner ∙ ap (λ r. r.owner) c.index_mut.ensures.value) (omega (arith, same))
    (next.kept c.self.inside.reported before)

pub returns-in_err-answer_next-clause-unchanged : goal.returns-in_err-answer_next-clause-unchanged
returns-in_err-answer_next-clause-unchanged c =
    let d = c.index_mut.result.now in
    let p = err_from_is_err_and c.from_residual.result c.from_residual.ensures.1 in
    let inside = within_clocks c.self.inside.start (λ r. length r.causes) c.self.inside.resolvers.items c.args.r (subst (λ p. c.args.r < length p.resolved) (sym c.self.view_is) c.requires) in
    rw p.1
    (state_kept c.self.inside.splits c.self.inside.window c.self.inside.start c.self.inside.requests c.self.inside.resolvers.items c.self.inside.logs.items c.self.inside.reported
    c.args.r c.answer_next.new.self d inside (ap length c.in_err-answer_next.ensures.unchanged ∙ ap (λ r. length r.causes) c.index_mut.ensures.value)
    ∙ c.self.view_is)

pub invariant_of-self-2 : goal.invariant_of-self-2
invariant_of-self-2 c =
    let d = c.index_mut.result.now in
    let is = c.self.invariant in
    let next = c.in_ok-answer_next.ensures in
    let inside = within_clocks c.self.inside.start (λ r. length r.causes) c.self.inside.resolvers.items c.args.r (subst (λ p. c.args.r < length p.resolved) (sym c.self.view_is) c.requires) in
    let own = All-get_or (IsResolver c.self.inside.window c.self.inside.start c.self.inside.requests.all c.self.inside.reported) c.self.inside.resolvers.items c.args.r d inside is.resolving in
    let before = subst (λ r. IsResolver c.self.inside.window c.self.inside.start c.self.inside.requests.all c.self.inside.reported r) (sym c.index_mut.ensures.value) own in
    let more : length c.answer_next.new.self.causes ≡ length (get_or c.self.inside.resolvers.items c.args.r d).causes + 1 = next.counted ∙ ap (λ r. length r.causes + 1) c.index_mut.ensures.value in
    stands_resolved _ _ _ _ _ _ _ is c.args.r c.answer_next.new.self d inside
    (next.owner ∙ ap (λ r. r.owner) c.index_mut.ensures.value) (omega (arith, more))
    (next.kept c.self.inside.reported before)

pub returns-clause-step : goal.returns-clause-step
returns-clause-step c =
    let d = c.index.result.now in
    let e = c.index_mut.result.now in
    let is = c.self.invariant in
    let next = c.in_ok-answer_next.ensures in
    let inside = within_clocks c.self.inside.start (λ r. length r.causes) c.self.inside.resolvers.items c.args.r (subst (λ p. c.args.r < length p.resolved) (sym c.self.view_is) c.requires) in
    let own = All-get_or (IsResolver c.self.inside.window c.self.inside.start c.self.inside.requests.all c.self.inside.reported) c.self.inside.resolvers.items c.args.r d inside is.resolving in
    let within = own.within in
    let count : c.answered.result ≡ length (get_or c.self.inside.resolvers.items c.args.r d).causes = c.answered.ensures ∙ ap (λ r. length r.causes) c.index.ensures in
    let all : c.len.result ≡ length c.self.inside.requests.all = search rules in
    let other = c.if-answered-len.false in
    let below : length (get_or c.self.inside.resolvers.items c.args.r d).causes < length c.self.inside.requests.all = omega (arith, within, count, all, other) in (
      subst (λ p. may_resolve p c.args.r ≡ true) c.self.view_is
          (clock_behind c.self.inside.start (length c.self.inside.requests.all) (λ r. length r.causes) c.self.inside.resolvers.items c.args.r d inside ∙ lt-ltb _ _ below),
      state_resolved c.self.inside.splits c.self.inside.window c.self.inside.start c.self.inside.requests c.self.inside.resolvers.items c.self.inside.logs.items c.self.inside.reported
          c.args.r c.answer_next.new.self e inside (next.counted ∙ ap (λ r. length r.causes + 1) c.index_mut.ensures.value)
          ∙ ap (resolve c.args.r) c.self.view_is,
    )
