use Rattle.std.proofs.Common.{sym, subst}
use Rattle.std.specs.Prelude.{Err, Ok}
use Rattle.runtime.specs.declared.retrying.Failure.TheVariants as failures
use Rattle.runtime.specs.Runs.{Ends, FailsSo, Starts, Tries}
use Rattle.runtime.proofs.RunAttempts.{body_failed, commit_failed, ends_by, follows_trans, starts_by}
use Rattle.runtime.proofs.retrying.attempt.Goals as goal

pub returns-in-Err-answer_of-clause-failed : goal.returns-in-Err-answer_of-clause-failed
returns-in-Err-answer_of-clause-failed g c =
    let starts : Starts c.args.store c.args.client.now c.begin_here.new.self = starts_by c.args.store c.args.client.now c.begin_here.new.self c.in_default.ensures.begun c.in_default.ensures.log c.in_default.ensures.same in
    let tries : Tries c.args.store g.B.Body.did (c.args.body.now, c.args.client.now) (Err c.in-Err-answer_of.error) (c.answer_of.new.body, c.answer_of.new.client) = (c.begin_here.new.self, starts, c.in-Err-answer_of.ensures.did) in
    subst (λ f. FailsSo c.args.store g.B.Body.did (c.args.body.now, c.args.client.now) f (c.answer_of.new.body, c.answer_of.new.client)) (sym c.failure_of.ensures)
    (body_failed c.args.store g.B.Body.did (c.args.body.now, c.args.client.now) (c.answer_of.new.body, c.answer_of.new.client) c.in-Err-answer_of.error tries)

pub returns-in-Err-result : goal.returns-in-Err-result
returns-in-Err-result g c =
    let start = c.begin_here.new.self in
    let mid = c.answer_of.new.client in
    let end = c.commit_here-result.new.self in
    let starts : Starts c.args.store c.args.client.now start = starts_by c.args.store c.args.client.now start c.in_default.ensures.begun c.in_default.ensures.log c.in_default.ensures.same in
    let tries : Tries c.args.store g.B.Body.did (c.args.body.now, c.args.client.now) (Ok c.in-Ok.answer) (c.answer_of.new.body, mid) = (start, starts, c.in-Ok.ensures.did) in
    let ends : Ends mid (Err c.in-Err-result.error) end = subst (λ r. Ends mid r end) c.in-Err-result.is
    (ends_by c.args.store c.args.client.now start end c.commit_here-result.result.0 starts mid c.in-Ok.ensures.continues c.commit_here-result.ensures.answer c.commit_here-result.ensures.log c.commit_here-result.ensures.same) in
    record {
      follows = follows_trans (follows_trans starts.follows c.in-Ok.ensures.continues.follows) ends.follows;
      done = tt;
      failed =
          subst (λ e. FailsSo c.args.store g.B.Body.did (c.args.body.now, c.args.client.now) (failures.Ended e) (c.answer_of.new.body, end)) (sym c.ended_of.ensures)
          (commit_failed c.args.store g.B.Body.did (c.args.body.now, c.args.client.now) (c.answer_of.new.body, end) c.in-Ok.answer c.in-Err-result.error (mid, tries, ends));
    }
