use Rattle.std.proofs.Common.{◌≡◌, ◌∙◌, sym, subst, true}
use Rattle.std.proofs.lemmas.Bool.{true≢false}
use Rattle.cluster_core.specs.Decision.{owns}
use Rattle.cluster_core.proofs.Ownership.{point_key}
use Rattle.cluster_core.proofs.segments.put_key.Goals as goal

pub returns-then-not-owns-clause-covered : goal.returns-then-not-owns-clause-covered
returns-then-not-owns-clause-covered c = λ own owned inside.
    let mine : owns c.args.part.now c.args.key.now ≡ true = subst (λ k. owns c.args.part.now k ≡ true) (sym (point_key c.args.key.now own inside)) owned in
    absurd (true≢false (sym mine ∙ sym c.owns.ensures ∙ c.if-not-owns.true))
