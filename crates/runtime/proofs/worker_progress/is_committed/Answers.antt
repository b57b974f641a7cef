use Rattle.std.proofs.Common.{subst}
use Rattle.std.specs.Prelude.{MatchBool}
use mathlib.Core.List.{IsPrefix}
use Rattle.runtime.specs.History.{Prefix}
use Rattle.runtime.proofs.Asking.{told_committed, told_forgotten, told_given, told_pending, told_refused}
use Rattle.runtime.proofs.worker_progress.is_committed.Goals as goal

pub returns-in-Pending-clause-told : goal.returns-in-Pending-clause-told
returns-in-Pending-clause-told g c index is low high =
    told_pending index c.args.client.now c.outcome.new.self c.args.one.now (c.in-Ok.ensures.log, c.in-Ok.ensures.same) is low high c.in-Ok.status c.in-Ok.ensures.outcome c.in-Pending.is

pub returns-in-Committed-clause-told : goal.returns-in-Committed-clause-told
returns-in-Committed-clause-told g c index is low high =
    let begins : MatchBool c.begins-known.result (IsPrefix c.args.one.now.prefix.log c.outcome.new.self.log) (IsPrefix c.outcome.new.self.log c.args.one.now.prefix.log) =
    subst (λ (p : Prefix). MatchBool c.begins-known.result (IsPrefix c.args.one.now.prefix.log p.log) (IsPrefix p.log c.args.one.now.prefix.log)) c.log.ensures c.begins-known.ensures in
    told_committed index c.args.client.now c.outcome.new.self c.args.one.now (c.in-Ok.ensures.log, c.in-Ok.ensures.same) is low high c.in-Ok.status c.in-Ok.ensures.outcome
    c.in-Committed.version c.begins-known.result c.in-Committed.is begins c.len.ensures.well_formed.once

pub returns-in-Refused-clause-told : goal.returns-in-Refused-clause-told
returns-in-Refused-clause-told g c index is low high =
    let begins : MatchBool c.begins-known.result (IsPrefix c.args.one.now.prefix.log c.outcome.new.self.log) (IsPrefix c.outcome.new.self.log c.args.one.now.prefix.log) =
    subst (λ (p : Prefix). MatchBool c.begins-known.result (IsPrefix c.args.one.now.prefix.log p.log) (IsPrefix p.log c.args.one.now.prefix.log)) c.log.ensures c.begins-known.ensures in
    told_refused index c.args.client.now c.outcome.new.self c.args.one.now (c.in-Ok.ensures.log, c.in-Ok.ensures.same) is low high c.in-Ok.status c.in-Ok.ensures.outcome
    c.begins-known.result c.in-Refused.is begins c.len.ensures.well_formed.once

pub returns-in-Forgotten-clause-told : goal.returns-in-Forgotten-clause-told
returns-in-Forgotten-clause-told g c index is low high =
    told_forgotten index c.args.client.now c.outcome.new.self c.args.one.now (c.in-Ok.ensures.log, c.in-Ok.ensures.same) is low high c.in-Ok.status c.in-Ok.ensures.outcome c.in-Forgotten.is

pub returns-in-NotSubmitted-clause-told : goal.returns-in-NotSubmitted-clause-told
returns-in-NotSubmitted-clause-told g c index is low high =
    absurd (told_given index c.args.client.now c.outcome.new.self c.args.one.now (c.in-Ok.ensures.log, c.in-Ok.ensures.same) is low high c.in-Ok.status c.in-Ok.ensures.outcome c.in-NotSubmitted.is)
