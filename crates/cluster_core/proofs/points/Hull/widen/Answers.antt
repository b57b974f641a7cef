use Rattle.std.proofs.Common.{◌∙◌, subst, sym}
use Rattle.cluster_core.proofs.PointSegments.{IsLowered, high_already, low_already, lowered, raised_spans, raised_wider}
use Rattle.cluster_core.proofs.points.Hull.widen.Goals as goal
use Rattle.cluster_core.proofs.points.Hull.widen.Goals.{then-is_before+in_ok-self, else-is_before}

pub returns-in_err-self-2-clause-wider : goal.returns-in_err-self-2-clause-wider
returns-in_err-self-2-clause-wider c =
    let low : IsLowered c.args.self.now c.if-is_before.self c.args.key.now = elim c.if-is_before.branch [
      | then-is_before+in_ok-self w ↦ subst (λ h. IsLowered c.args.self.now h c.args.key.now) (sym w.self-is)
          (lowered c.args.self.now c.args.key.now w.in_ok-self.field-0 w.in_ok-self.ensures (sym c.is_before.ensures ∙ w.if-is_before.true))
      | else-is_before w ↦ subst (λ h. IsLowered c.args.self.now h c.args.key.now) (sym w.self-is) (low_already c.args.self.now c.args.key.now (sym c.is_before.ensures ∙ w.if-is_before.false))
    ] in
    λ own. low.wider own

pub returns-in_ok-self-2-clause-wider : goal.returns-in_ok-self-2-clause-wider
returns-in_ok-self-2-clause-wider c =
    let low : IsLowered c.args.self.now c.if-is_before.self c.args.key.now = elim c.if-is_before.branch [
      | then-is_before+in_ok-self w ↦ subst (λ h. IsLowered c.args.self.now h c.args.key.now) (sym w.self-is)
          (lowered c.args.self.now c.args.key.now w.in_ok-self.field-0 w.in_ok-self.ensures (sym c.is_before.ensures ∙ w.if-is_before.true))
      | else-is_before w ↦ subst (λ h. IsLowered c.args.self.now h c.args.key.now) (sym w.self-is) (low_already c.args.self.now c.args.key.now (sym c.is_before.ensures ∙ w.if-is_before.false))
    ] in
    raised_wider c.args.self.now c.if-is_before.self c.args.key.now low c.in_ok-self-2.field-0 c.in_ok-self-2.ensures (sym c.is_before-2.ensures ∙ c.if-is_before-2.true)

pub returns-in_ok-self-2-clause-key : goal.returns-in_ok-self-2-clause-key
returns-in_ok-self-2-clause-key c =
    let low : IsLowered c.args.self.now c.if-is_before.self c.args.key.now = elim c.if-is_before.branch [
      | then-is_before+in_ok-self w ↦ subst (λ h. IsLowered c.args.self.now h c.args.key.now) (sym w.self-is)
          (lowered c.args.self.now c.args.key.now w.in_ok-self.field-0 w.in_ok-self.ensures (sym c.is_before.ensures ∙ w.if-is_before.true))
      | else-is_before w ↦ subst (λ h. IsLowered c.args.self.now h c.args.key.now) (sym w.self-is) (low_already c.args.self.now c.args.key.now (sym c.is_before.ensures ∙ w.if-is_before.false))
    ] in
    raised_spans c.args.self.now c.if-is_before.self c.args.key.now low c.in_ok-self-2.field-0 c.in_ok-self-2.ensures

pub returns-else-is_before-2-clause-wider : goal.returns-else-is_before-2-clause-wider
returns-else-is_before-2-clause-wider c =
    let low : IsLowered c.args.self.now c.if-is_before.self c.args.key.now = elim c.if-is_before.branch [
      | then-is_before+in_ok-self w ↦ subst (λ h. IsLowered c.args.self.now h c.args.key.now) (sym w.self-is)
          (lowered c.args.self.now c.args.key.now w.in_ok-self.field-0 w.in_ok-self.ensures (sym c.is_before.ensures ∙ w.if-is_before.true))
      | else-is_before w ↦ subst (λ h. IsLowered c.args.self.now h c.args.key.now) (sym w.self-is) (low_already c.args.self.now c.args.key.now (sym c.is_before.ensures ∙ w.if-is_before.false))
    ] in
    low.wider

pub returns-else-is_before-2-clause-key : goal.returns-else-is_before-2-clause-key
returns-else-is_before-2-clause-key c =
    let low : IsLowered c.args.self.now c.if-is_before.self c.args.key.now = elim c.if-is_before.branch [
      | then-is_before+in_ok-self w ↦ subst (λ h. IsLowered c.args.self.now h c.args.key.now) (sym w.self-is)
          (lowered c.args.self.now c.args.key.now w.in_ok-self.field-0 w.in_ok-self.ensures (sym c.is_before.ensures ∙ w.if-is_before.true))
      | else-is_before w ↦ subst (λ h. IsLowered c.args.self.now h c.args.key.now) (sym w.self-is) (low_already c.args.self.now c.args.key.now (sym c.is_before.ensures ∙ w.if-is_before.false))
    ] in
    high_already c.args.self.now c.if-is_before.self c.args.key.now low (sym c.is_before-2.ensures ∙ c.if-is_before-2.false)
