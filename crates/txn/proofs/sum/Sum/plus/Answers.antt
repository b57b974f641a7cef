use Rattle.std.proofs.Common.{◌≡◌, ◌≤◌, ◌∙◌, ap, sym, Some, length, arith}
use Rattle.std.proofs.lemmas.List.{append-nil}
use Rattle.kv_core.specs.Addition.{added}
use Rattle.txn.specs.Own.{sum_over}
use Rattle.txn.proofs.OneMore.{plus_turn, sum-pushed}
use Rattle.txn.proofs.sum.Sum.plus.Goals as goal
use Rattle.txn.proofs.sum.Sum.plus.Goals.{in-Some+then-as_slice+in_ok-push, in_default}

pub loop-earlier-preserved : goal.loop-earlier-preserved
loop-earlier-preserved c =
    let longer : length c.loop-earlier.last ≤ length c.in-Some.earlier =
    omega (arith, c.if-as_slice.false, ap length c.as_slice.ensures, ap length c.as_slice-in-Some.ensures) in
    plus_turn c.loop-earlier.operands.items c.pop.new.self.items c.in-Some.earlier c.loop-earlier.last c.in_ok-last-2.last _ longer c.in-Some.ensures.items c.in_ok-last-2.ensures c.loop-earlier.invariant

pub returns : goal.returns
returns c = λ before.
    let same : sum_over c.match-pop.operands.items before ≡ sum_over c.loop-earlier.operands.items before =
    elim c.match-pop.branch [
      | in-Some+then-as_slice+in_ok-push w ↦ ap (λ xs. sum_over xs before) (ap (λ v. v.items) w.operands-is ∙ w.in_ok-push.ensures.items ∙ sym w.in-Some.ensures.items)
      | in_default w ↦ ap (λ xs. sum_over xs before) (ap (λ v. v.items) w.operands-is ∙ sym (w.in_default.ensures.items ∙ append-nil c.pop.new.self.items))
    ] in
    ap (λ xs. sum_over xs before) c.in_ok-push-2.ensures.items ∙ sum-pushed c.match-pop.operands.items c.loop-earlier.last before
    ∙ ap (λ x. added (Some x) c.loop-earlier.last) same ∙ c.loop-earlier.invariant before
