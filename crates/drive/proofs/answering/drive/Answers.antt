use Rattle.std.proofs.Common.{ap, ◌∙◌}
use Rattle.txn.specs.Reads.{with_mutations}
use Rattle.drive.specs.Driving.{resumed}
use Rattle.drive.specs.Wanted.{IsLeftOfOne}
use Rattle.drive.proofs.Moving.{host_answered_by, host_asked_by}
use Rattle.drive.proofs.Resting.{when_none, when_some}
use Rattle.drive.proofs.answering.drive.Goals as goal

pub returns-in_default-clause-done : goal.returns-in_default-clause-done
returns-in_default-clause-done c =
    let given = c.args.given.now in
    host_answered_by given.version given.covered given.pairs _ given.written.items given.commands.items _ c.in_ok-replies.replies.items _ _ c.into_request-request.result _
    c.new-partial.ensures c.as_slice.ensures.value
    (c.in_ok-write_all.ensures.ok ∙ ap (with_mutations c.in_ok-written.written.items) c.begin-tx.ensures ∙ ap (resumed given.version) c.in_ok-written.ensures)
    c.into_request-request.ensures c.as_slice-2.ensures
    (when_none c.in_ok-first.field-0 _ c.in_ok-first.ensures.whole c.in_default.is) c.in_ok-replies.ensures

pub returns-clause-done : goal.returns-clause-done
returns-clause-done c =
    let given = c.args.given.now in
    host_asked_by given.version given.covered given.pairs _ given.written.items given.commands.items _ c.in_ok-replies.replies.items _ _ c.into_request-request.result c.as_slice-2.result.now c.in_ok-wants.wants.items c.in-Some.first.range
    c.new-partial.ensures c.as_slice.ensures.value
    (c.in_ok-write_all.ensures.ok ∙ ap (with_mutations c.in_ok-written.written.items) c.begin-tx.ensures ∙ ap (resumed given.version) c.in_ok-written.ensures)
    c.into_request-request.ensures c.as_slice-2.ensures
    c.in_ok-wants.ensures.wanted c.in_ok-wants.ensures.first
    (when_some c.in_ok-first.field-0 c.in-Some.first (λ want. IsLeftOfOne given.covered c.as_slice-2.result.now want.range) c.in_ok-first.ensures.left c.in-Some.is)
    c.in_ok-replies.ensures
