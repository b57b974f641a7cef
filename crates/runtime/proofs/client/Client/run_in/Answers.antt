use Rattle.std.proofs.Common.{arith, ◌+◌, ◌-◌, ◌≡◌, ◌∙◌, ℕ, subst, sym}
use Rattle.runtime.specs.declared.retrying.Failure.TheVariants as failures
use Rattle.runtime.specs.Runs.{AttemptFails, FailsSo, InTurn}
use Rattle.runtime.proofs.RunAttempts.{failed_so, fails_of, follows_trans, gives_up, one_more, refused_so}
use Rattle.runtime.proofs.client.Client.run_in.Goals as goal

pub returns-in-Ok-clause-run : goal.returns-in-Ok-clause-run
returns-in-Ok-clause-run g c =
    (c.loop-both.number - 1, omega arith, ((c.loop-both.body, c.loop-both.self), c.loop-both.invariant.3, c.in-Ok.ensures.done))

pub returns-in-Err-ended-clause-run : goal.returns-in-Err-ended-clause-run
returns-in-Err-ended-clause-run g c =
    refused_so c.args.store g.B.Body.did c.args.retry.limit c.loop-both.number c.args.repeatable (c.args.body.now, c.args.self.now) (c.loop-both.body, c.loop-both.self) (c.attempt.new.body, c.attempt.new.client) c.in-Err.failure c.in-Err-ended.error
    c.loop-both.invariant.1 c.loop-both.invariant.2 c.loop-both.invariant.3 c.in-Err.ensures.failed (sym c.ended.ensures ∙ c.in-Err-ended.is)

pub loop-both-preserved : goal.loop-both-preserved
loop-both-preserved g c =
    let may = c.next.ensures.again.0 c.in-Again.is in
    let failed : FailsSo c.args.store g.B.Body.did (c.loop-both.body, c.loop-both.self) (failures.Ended c.in-Ok-ended.ended) (c.attempt.new.body, c.attempt.new.client) = failed_so c.args.store g.B.Body.did (c.loop-both.body, c.loop-both.self) (c.attempt.new.body, c.attempt.new.client) c.in-Err.failure c.in-Ok-ended.ended c.in-Err.ensures.failed (sym c.ended.ensures ∙ c.in-Ok-ended.is) in
    let fails : AttemptFails c.args.store g.B.Body.did c.args.repeatable (c.loop-both.body, c.loop-both.self) (c.attempt.new.body, c.attempt.new.client) = fails_of c.args.store g.B.Body.did (c.loop-both.body, c.loop-both.self) (c.attempt.new.body, c.attempt.new.client) c.in-Ok-ended.ended c.args.repeatable may.1 failed in
    let turns : InTurn (AttemptFails c.args.store g.B.Body.did c.args.repeatable) c.loop-both.number (c.args.body.now, c.args.self.now) (c.attempt.new.body, c.attempt.new.client) = one_more c.args.store g.B.Body.did c.args.repeatable c.loop-both.number (c.args.body.now, c.args.self.now) (c.loop-both.body, c.loop-both.self) (c.attempt.new.body, c.attempt.new.client) c.loop-both.invariant.1 c.loop-both.invariant.3 fails in
    let same : c.loop-both.number + 1 - 1 ≡ c.loop-both.number = omega arith in
    let below = may.0 in (
      follows_trans c.loop-both.invariant.0 c.attempt.ensures.follows,
      omega arith,
      omega (arith, may.0),
      subst (λ (n : ℕ). InTurn (AttemptFails c.args.store g.B.Body.did c.args.repeatable) n (c.args.body.now, c.args.self.now) (c.attempt.new.body, c.attempt.new.client)) (sym same) turns,
    )

pub returns-in_default : goal.returns-in_default
returns-in_default g c = record {
  follows = follows_trans c.loop-both.invariant.0 c.attempt.ensures.follows;
  run = gives_up c.args.store g.B.Body.did c.args.retry.limit c.loop-both.number c.args.repeatable (c.args.body.now, c.args.self.now) (c.loop-both.body, c.loop-both.self) (c.attempt.new.body, c.attempt.new.client) c.in-Ok-ended.ended c.next.result c.next.ensures.table c.in_default.not-Again c.loop-both.invariant.1 c.loop-both.invariant.2 c.loop-both.invariant.3 (failed_so c.args.store g.B.Body.did (c.loop-both.body, c.loop-both.self) (c.attempt.new.body, c.attempt.new.client) c.in-Err.failure c.in-Ok-ended.ended c.in-Err.ensures.failed (sym c.ended.ensures ∙ c.in-Ok-ended.is));
}
