use Rattle.std.proofs.Common.{◌≡◌, ◌∙◌, ◌-◌, ◌<◌, ◌≤◌, None, ap, false, is_none, length, not, refl, subst, sym}
use Rattle.std.proofs.lemmas.Option.{slice_get_read}
use Rattle.std.specs.Option.{option_map_or}
use Rattle.cluster_core.specs.Progress.{has_agreed}
use Rattle.cluster_core.proofs.Forgetting.{get_behind, get_front, twice_not}
use Rattle.cluster_core.proofs.resolver.Resolver.has_agreed.Goals as goal

pub returns-then-place-told : goal.returns-then-place-told
returns-then-place-told c =
    let f = c.self.inside in
    let n : f.answered - c.len.result ≡ f.answered - length f.causes.items = ap (λ k. f.answered - k) (c.len.ensures ∙ f.causes.ok.0) in
    let before = subst (λ k. c.args.place < k) n c.if-place-told.true in
    sym (ap (λ o. option_map_or (λ why. is_none why) o false) (get_front (f.answered - length f.causes.items) None f.causes.items c.args.place before))
    ∙ ap (has_agreed c.args.place) c.self.view_is

pub returns-in-Some : goal.returns-in-Some
returns-in-Some c =
    let f = c.self.inside in
    let n : f.answered - c.len.result ≡ f.answered - length f.causes.items = ap (λ k. f.answered - k) (c.len.ensures ∙ f.causes.ok.0) in
    let from = subst (λ k. k ≤ c.args.place) n c.if-place-told.false in
    let here = slice_get_read f.causes.items (length f.causes.items) (c.args.place - (f.answered - length f.causes.items)) c.in-Some.cause.now refl
    (subst (λ k. c.args.place - k < length f.causes.items) n (subst (λ k. c.args.place - (f.answered - c.len.result) < k) f.causes.ok.0 (c.in-Some.ensures.variant.0 refl)))
    (subst (λ k. c.in-Some.cause.now ≡ Rattle.std.proofs.Common.get_or f.causes.items (c.args.place - k) c.in-Some.cause.now) n c.in-Some.ensures.lookup) in
    sym (twice_not c.is_none.result) ∙ sym (ap not c.is_none.ensures)
    ∙ ap (λ o. option_map_or (λ why. is_none why) o false) (sym (get_behind (f.answered - length f.causes.items) None f.causes.items c.args.place from ∙ here))
    ∙ ap (has_agreed c.args.place) c.self.view_is
