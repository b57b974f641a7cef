use Rattle.std.proofs.Common.{◌≡◌, ◌++◌, [], inl, subst, arith}
use Rattle.std.specs.Prelude.{OnOk}
use Rattle.journal.specs.Block.{StandsFor}
use Rattle.journal.specs.Journal.{IsBeforeOrAfter, IsBeforeOrNone, entries_read}
use Rattle.journal.specs.Standing.{device_of}
use Rattle.journal.specs.Words.{bytes_of_each}
use Rattle.journal.proofs.Moments.{joined, weaker}
use Rattle.durable.specs.Exchanging.{IsRewritten}
use Rattle.durable.proofs.Exchanges.{after_clear, unappended}
use Rattle.durable.proofs.Histories.{read_is}
use Rattle.durable.proofs.checkpointing.rewrite.Goals as goal

pub returns-in_err-clear-clause-any_moment : goal.returns-in_err-clear-clause-any_moment
returns-in_err-clear-clause-any_moment g c =
    let d = g.D.Device in
    let before = entries_read (d.seen (device_of c.args.journal.now)) in
    weaker d.moment d.left_since (device_of c.args.journal.now) (device_of c.clear.new.self) (IsBeforeOrNone before) (IsRewritten before (bytes_of_each c.args.batch.now)) (λ f left. inl left) (c.clear.ensures.any_moment c.requires)

pub returns-clause-any_moment : goal.returns-clause-any_moment
returns-clause-any_moment g c =
    let d = g.D.Device in
    let before = entries_read (d.seen (device_of c.args.journal.now)) in
    let batch = bytes_of_each c.args.batch.now in
    let mid = device_of c.clear.new.self in
    let none : entries_read (d.seen mid) ≡ [] = read_is (d.seen mid) [] c.in_ok-clear.ensures.cleared in
    joined d.moment d.left_since (device_of c.args.journal.now) mid (device_of c.append.new.self) (IsRewritten before batch)
    (weaker d.moment d.left_since (device_of c.args.journal.now) mid (IsBeforeOrNone before) (IsRewritten before batch) (λ f left. inl left) (c.clear.ensures.any_moment c.requires))
    (weaker d.moment d.left_since mid (device_of c.append.new.self) (IsBeforeOrAfter (entries_read (d.seen mid)) batch) (IsRewritten before batch) (after_clear before batch (entries_read (d.seen mid)) none) (c.append.ensures.any_moment c.in_ok-clear.ensures.ok))

pub returns-clause-written : goal.returns-clause-written
returns-clause-written g c =
    let d = g.D.Device in
    let mid = device_of c.clear.new.self in
    let none : entries_read (d.seen mid) ≡ [] = read_is (d.seen mid) [] c.in_ok-clear.ensures.cleared in
    subst (λ l. OnOk c.append.result (StandsFor (d.seen (device_of c.append.new.self)) (l ++ bytes_of_each c.args.batch.now))) none c.append.ensures.acknowledged

pub returns-clause-unwritten : goal.returns-clause-unwritten
returns-clause-unwritten g c =
    let d = g.D.Device in
    unappended d.seen d.may_leave d.faults d.wants_memory (bytes_of_each c.args.batch.now) c.append.result (device_of c.args.journal.now) c.clear.new.self c.append.new.self
    (record { open_still = c.in_ok-clear.ensures.ok; none = c.in_ok-clear.ensures.cleared; durable = c.in_ok-clear.ensures.durable })
    c.append.ensures.memory c.append.ensures.full (λ is. (c.in_ok-clear.ensures.short, c.append.ensures.no_room c.in_ok-clear.ensures.ok is)) (c.append.ensures.was_open c.in_ok-clear.ensures.ok)
    (λ is. omega (arith, c.append.ensures.failed is, c.clear.ensures.later)) c.append.ensures.fed
