use Rattle.std.proofs.Common.{Bool, subst}
use Rattle.std.specs.Prelude.{MatchBool}
use Rattle.std.proofs.lemmas.Result.{err_from_is_err_and}
use Rattle.runtime.specs.Settles.{AskingEnds, IsProgress, IsSettledUpto}
use Rattle.runtime.proofs.Unsettled.{asked_self, asked_trans}
use Rattle.runtime.proofs.worker_progress.settle.Goals as goal

pub loop-init : goal.loop-init
loop-init g c = (c.requires.names, asked_self c.args.client.now, λ index start top is. is)

pub returns-in_err-settle_first-clause-settled : goal.returns-in_err-settle_first-clause-settled
returns-in_err-settle_first-clause-settled g c index start top is =
    let residual = err_from_is_err_and c.from_residual.result c.from_residual.ensures.1 in
    let why : AskingEnds index start c.settle_first.new.client c.in_err-settle_first.field-0.0 = c.in_err-settle_first.ensures.settled index start top (c.loop.invariant.2 index start top is) in
    rw (residual.1, residual.2) why

pub loop-preserved : goal.loop-preserved
loop-preserved g c = (
  c.in_ok-settle_first.ensures.names,
  asked_trans c.args.client.now c.loop.client c.settle_first.new.client c.loop.invariant.1 c.settle_first.ensures.asked,
  λ index start top is. subst (λ (one : Bool). MatchBool one (IsProgress index start c.settle_first.new.client top c.settle_first.new.progress) (IsSettledUpto index start c.settle_first.new.client top c.settle_first.new.progress)) c.if-branch.true (c.in_ok-settle_first.ensures.settled index start top (c.loop.invariant.2 index start top is)),
)

pub returns-clause-settled : goal.returns-clause-settled
returns-clause-settled g c index start top is =
    subst (λ (one : Bool). MatchBool one (IsProgress index start c.settle_first.new.client top c.settle_first.new.progress) (IsSettledUpto index start c.settle_first.new.client top c.settle_first.new.progress)) c.if-branch.false (c.in_ok-settle_first.ensures.settled index start top (c.loop.invariant.2 index start top is))
