use Rattle.std.proofs.Common.{arith, ◌≡◌, ◌∙◌, ◌+◌, ◌^◌, ◌++◌, ◌∷◌, [], ◌<◌, ap, false, get_or, length, nat_lt, refl, subst, sym, true}
use Rattle.std.proofs.lemmas.List.{get_or_default, length_push}
use Rattle.std.specs.List.{list_all}
use Rattle.cluster_core.specs.Progress.{has_agreed}
use Rattle.cluster_core.specs.Roles.{append, may_append}
use Rattle.cluster_core.proofs.Clocks.{all_past_clock, state_appended, within_clocks}
use Rattle.cluster_core.proofs.Standing.{next_here, stands_appended}
use Rattle.cluster_core.proofs.pipeline.Pipeline.append_log.Goals as goal

pub returns-then-not-all_answered-clause-step : goal.returns-then-not-all_answered-clause-step
returns-then-not-all_answered-clause-step c =
    let d = c.index.result.now in
    let inside = within_clocks c.self.inside.start (λ passes. length passes) c.self.inside.logs.items c.args.l (subst (λ p. c.args.l < length p.logged) (sym c.self.view_is) c.requires) in
    let place : c.len-place.result ≡ length (get_or c.self.inside.logs.items c.args.l d) = c.len-place.ensures ∙ ap (λ passes. length passes) c.index.ensures in (
      subst (λ p. may_append p c.args.l ≡ false) c.self.view_is
          (all_past_clock c.self.inside.start (λ r. length r.causes) c.self.inside.resolvers.items (λ passes. length passes) c.self.inside.logs.items c.args.l d inside
          ∙ sym (c.all_answered.ensures ∙ ap (list_all (λ r. nat_lt c.len-place.result (length r.causes))) c.as_slice.ensures.value
          ∙ ap (λ n. list_all (λ r. nat_lt n (length r.causes)) c.self.inside.resolvers.items) place)
          ∙ c.if-not-all_answered.true),
      refl,
    )

pub push-requires : goal.push-requires
push-requires c =
    let d = c.index.result.now in
    let e = c.index_mut.result.now in
    let inside = within_clocks c.self.inside.start (λ passes. length passes) c.self.inside.logs.items c.args.l (subst (λ p. c.args.l < length p.logged) (sym c.self.view_is) c.requires) in
    let place : c.len-place.result ≡ length (get_or c.self.inside.logs.items c.args.l d) = c.len-place.ensures ∙ ap (λ passes. length passes) c.index.ensures in
    let below = next_here _ _ _ _ _ _ _ c.self.invariant c.args.l d
    (sym (c.all_answered.ensures ∙ ap (list_all (λ r. nat_lt c.len-place.result (length r.causes))) c.as_slice.ensures.value
    ∙ ap (λ n. list_all (λ r. nat_lt n (length r.causes)) c.self.inside.resolvers.items) place)
    ∙ c.if-not-all_answered.false) in
    let versions = c.self.invariant.versions in
    let small : length (get_or c.self.inside.logs.items c.args.l d) + 1 < 2 ^ 64 = omega (arith, below, versions) in
    subst (λ passes. length passes + 1 < 2 ^ 64) (sym (c.index_mut.ensures.value ∙ get_or_default c.self.inside.logs.items c.args.l e d inside)) small

pub invariant_of-self-2 : goal.invariant_of-self-2
invariant_of-self-2 c =
    let d = c.index.result.now in
    let e = c.index_mut.result.now in
    let inside = within_clocks c.self.inside.start (λ passes. length passes) c.self.inside.logs.items c.args.l (subst (λ p. c.args.l < length p.logged) (sym c.self.view_is) c.requires) in
    let place : c.len-place.result ≡ length (get_or c.self.inside.logs.items c.args.l d) = c.len-place.ensures ∙ ap (λ passes. length passes) c.index.ensures in
    stands_appended _ _ _ _ _ _ _ c.self.invariant c.args.l c.push.new.self d c.all_agree-passes.result inside
    (c.in_ok-push.ensures.ok ∙ ap (λ passes. passes ++ c.all_agree-passes.result ∷ []) (c.index_mut.ensures.value ∙ get_or_default c.self.inside.logs.items c.args.l e d inside))
    (sym (c.all_answered.ensures ∙ ap (list_all (λ r. nat_lt c.len-place.result (length r.causes))) c.as_slice.ensures.value
    ∙ ap (λ n. list_all (λ r. nat_lt n (length r.causes)) c.self.inside.resolvers.items) place)
    ∙ c.if-not-all_answered.false)
    (c.all_agree-passes.ensures ∙ ap (list_all (has_agreed c.len-place.result)) c.as_slice-2.ensures.value ∙ ap (λ n. list_all (has_agreed n) c.self.inside.resolvers.items) place)

pub returns-clause-step : goal.returns-clause-step
returns-clause-step c =
    let d = c.index.result.now in
    let e = c.index_mut.result.now in
    let inside = within_clocks c.self.inside.start (λ passes. length passes) c.self.inside.logs.items c.args.l (subst (λ p. c.args.l < length p.logged) (sym c.self.view_is) c.requires) in
    let place : c.len-place.result ≡ length (get_or c.self.inside.logs.items c.args.l d) = c.len-place.ensures ∙ ap (λ passes. length passes) c.index.ensures in (
      subst (λ p. may_append p c.args.l ≡ true) c.self.view_is
          (all_past_clock c.self.inside.start (λ r. length r.causes) c.self.inside.resolvers.items (λ passes. length passes) c.self.inside.logs.items c.args.l d inside
          ∙ sym (c.all_answered.ensures ∙ ap (list_all (λ r. nat_lt c.len-place.result (length r.causes))) c.as_slice.ensures.value
          ∙ ap (λ n. list_all (λ r. nat_lt n (length r.causes)) c.self.inside.resolvers.items) place)
          ∙ c.if-not-all_answered.false),
      state_appended c.self.inside.splits c.self.inside.window c.self.inside.start c.self.inside.requests c.self.inside.resolvers.items c.self.inside.logs.items c.self.inside.reported
          c.args.l c.push.new.self e inside
          (ap (λ passes. length passes) c.in_ok-push.ensures.ok ∙ length_push e c.all_agree-passes.result ∙ ap (λ passes. length passes + 1) c.index_mut.ensures.value)
          ∙ ap (append c.args.l) c.self.view_is,
    )
