use Rattle.std.proofs.Common.{◌≡◌, sym, ap, ◌∙◌, List, subst}
use Rattle.cluster_core.specs.Tier.{TierState}
use Rattle.runtime.specs.declared.published.Step.{Step}
use Rattle.runtime.specs.History.{Prefix}
use Rattle.runtime.specs.Submissions.{Recent}
use Rattle.std.specs.List.{fold}
use Rattle.runtime.specs.Publication.{IsFold, IsLater, applied}
use Rattle.runtime.proofs.Moves.{fold_by, later_self, sees, state_at, state_of}
use Rattle.runtime.proofs.publisher.Publisher.open.Goals as goal

pub publish_as-writer-requires : goal.publish_as-writer-requires
publish_as-writer-requires g c next is =
    let e = c.in_ok-writer.ensures in
    let now = c.in_ok-writer.writer.desk.shown.value in
    let first : IsFold now = subst IsFold (sym e.0) c.in_ok-first.ensures.made.1 in
    let p : state_of next ≡ state_of now = is ∙ ap (λ (l : List Step). fold applied (state_of now) l) e.1 in
    let prefix : next.prefix ≡ now.prefix = ap (λ (z : TierState × Recent × Prefix). z.2) p in
    let start : state_of now ≡ state_at now.prefix.name now.prefix.log = (λ i. (first.0 i, first.1 i, now.prefix)) in
    sees _ _ now next (subst (IsLater now.prefix) (sym prefix) (later_self now.prefix)) (fold_by now.prefix.name now.prefix.log next (p ∙ start))
