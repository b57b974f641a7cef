use Rattle.std.proofs.Common.{List}
use Rattle.txn.proofs.Exits.{exit_with}
use Rattle.command_log.specs.declared.entry.Entry.{Entry}
use Rattle.replay.specs.Replaying.{IsLogged, IsUnreplayedOn, IsWhyOn, log_bytes}
use Rattle.replay.proofs.Replays.{bytes_at, bytes_within, replay_none, replay_turn, unread, unstepped}
use Rattle.replay.proofs.Whys.{why_unread, why_unstepped}
use Rattle.replay.proofs.replaying.replay_on.Goals as goal

pub loop-place-init : goal.loop-place-init
loop-place-init c = λ before is. replay_none before c.args.image is

pub returns-in_err-entry-clause-refused : goal.returns-in_err-entry-clause-refused
returns-in_err-entry-clause-refused c =
    let log = c.args.log.now in
    let i = c.loop-place.place in
    let bytes = c.as_slice.result.now in
    exit_with c.from_residual.result c.in_err-entry.field-0.0 (λ error. (before : List Entry) → IsLogged before c.args.image → IsUnreplayedOn before (log_bytes log) error) c.from_residual.ensures
    (λ before logged. unread before (log_bytes log) i bytes c.loop-place.next c.in_err-entry.field-0.0 (bytes_within log i c.loop-place-test.true) (bytes_at log i c.index-log-place.result bytes c.loop-place-test.true c.index-log-place.is c.as_slice.ensures.value)
    (c.loop-place.invariant before logged) c.in_err-entry.ensures.unread)

pub returns-in_err-next-clause-refused : goal.returns-in_err-next-clause-refused
returns-in_err-next-clause-refused c =
    let log = c.args.log.now in
    let i = c.loop-place.place in
    let bytes = c.as_slice.result.now in
    exit_with c.from_residual-in_err-next.result c.in_err-next.field-0.0 (λ error. (before : List Entry) → IsLogged before c.args.image → IsUnreplayedOn before (log_bytes log) error) c.from_residual-in_err-next.ensures
    (λ before logged. unstepped before (log_bytes log) i bytes c.in_ok-entry.entry c.loop-place.next c.in_err-next.field-0.0 (bytes_within log i c.loop-place-test.true) (bytes_at log i c.index-log-place.result bytes c.loop-place-test.true c.index-log-place.is c.as_slice.ensures.value)
    (c.loop-place.invariant before logged) c.in_ok-entry.ensures.read c.in_err-next.ensures.no_step)

pub returns-in_err-entry-clause-told : goal.returns-in_err-entry-clause-told
returns-in_err-entry-clause-told c =
    let log = c.args.log.now in
    let i = c.loop-place.place in
    let bytes = c.as_slice.result.now in
    exit_with c.from_residual.result c.in_err-entry.field-0.0 (λ error. (before : List Entry) → IsLogged before c.args.image → IsWhyOn before (log_bytes log) error) c.from_residual.ensures
    (λ before logged. why_unread before (log_bytes log) i bytes c.loop-place.next (bytes_within log i c.loop-place-test.true) (bytes_at log i c.index-log-place.result bytes c.loop-place-test.true c.index-log-place.is c.as_slice.ensures.value)
    (c.loop-place.invariant before logged) c.in_err-entry.field-0.0 c.in_err-entry.ensures.told)

pub returns-in_err-next-clause-told : goal.returns-in_err-next-clause-told
returns-in_err-next-clause-told c =
    let log = c.args.log.now in
    let i = c.loop-place.place in
    let bytes = c.as_slice.result.now in
    exit_with c.from_residual-in_err-next.result c.in_err-next.field-0.0 (λ error. (before : List Entry) → IsLogged before c.args.image → IsWhyOn before (log_bytes log) error) c.from_residual-in_err-next.ensures
    (λ before logged. why_unstepped before (log_bytes log) i bytes c.loop-place.next (bytes_within log i c.loop-place-test.true) (bytes_at log i c.index-log-place.result bytes c.loop-place-test.true c.index-log-place.is c.as_slice.ensures.value)
    (c.loop-place.invariant before logged) c.in_ok-entry.entry c.in_ok-entry.ensures.read c.in_err-next.field-0.0 c.in_err-next.ensures.told)

pub loop-place-preserved : goal.loop-place-preserved
loop-place-preserved c = λ before logged.
    let log = c.args.log.now in
    let i = c.loop-place.place in
    let bytes = c.as_slice.result.now in
    replay_turn before (log_bytes log) i bytes c.in_ok-entry.entry c.loop-place.next c.in_ok-next.next (bytes_within log i c.loop-place-test.true) (bytes_at log i c.index-log-place.result bytes c.loop-place-test.true c.index-log-place.is c.as_slice.ensures.value)
    (c.loop-place.invariant before logged) c.in_ok-entry.ensures.read c.in_ok-next.ensures.step
