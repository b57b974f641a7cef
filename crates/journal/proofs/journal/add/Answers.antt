use Rattle.std.proofs.Common.{◌++◌, sym, ◌∙◌, subst}
use Rattle.journal.specs.Device.{HasWritten}
use Rattle.journal.specs.Block.{StandsFor}
use Rattle.journal.specs.Journal.{entries_read}
use Rattle.journal.proofs.Adding.{run_added, added_stands, added_kept}
use Rattle.journal.proofs.Moments.{keeps}
use Rattle.journal.proofs.journal.add.Goals as goal

pub returns-in_err-write_at-clause-any_moment : goal.returns-in_err-write_at-clause-any_moment
returns-in_err-write_at-clause-any_moment g c = λ batch is.
    let d = g.D.Device in
    let run = run_added d.seen d.may_leave c.args.device.now c.args.end c.args.len c.requires.kept batch c.args.block.now is c.requires.room d.moment d.left_since g.met.D.Device.only_now c.write_at.new.self c.write_at.ensures.crash c.write_at.ensures.time in
    run.leaves

pub returns-in_err-sync-clause-any_moment : goal.returns-in_err-sync-clause-any_moment
returns-in_err-sync-clause-any_moment g c = λ batch is.
    let d = g.D.Device in
    let run = run_added d.seen d.may_leave c.args.device.now c.args.end c.args.len c.requires.kept batch c.args.block.now is c.requires.room d.moment d.left_since g.met.D.Device.only_now c.write_at.new.self c.write_at.ensures.crash c.write_at.ensures.time in
    let kept = keeps d.may_leave d.moment d.left_since _ _ c.write_at.new.self c.sync.new.self run c.sync.ensures.time c.sync.ensures.crash in
    kept.leaves

pub returns-clause-any_moment : goal.returns-clause-any_moment
returns-clause-any_moment g c = λ batch is.
    let d = g.D.Device in
    let run = run_added d.seen d.may_leave c.args.device.now c.args.end c.args.len c.requires.kept batch c.args.block.now is c.requires.room d.moment d.left_since g.met.D.Device.only_now c.write_at.new.self c.write_at.ensures.crash c.write_at.ensures.time in
    let kept = keeps d.may_leave d.moment d.left_since _ _ c.write_at.new.self c.sync.new.self run c.sync.ensures.time c.sync.ensures.crash in
    kept.leaves

pub returns-clause-added : goal.returns-clause-added
returns-clause-added g c = λ batch is.
    let d = g.D.Device in
    subst (λ f. StandsFor f (entries_read (d.seen c.args.device.now) ++ batch)) (sym c.sync.ensures.seen)
    (added_stands d.seen d.may_leave c.args.device.now c.args.end c.args.len c.requires.kept batch c.args.block.now is c.requires.room (d.seen c.write_at.new.self) c.in_ok-write_at.ensures.written)

pub returns-clause-kept : goal.returns-clause-kept
returns-clause-kept g c = λ batch is.
    let d = g.D.Device in
    let done : HasWritten (d.seen c.args.device.now) c.args.end c.args.block.now (d.seen c.sync.new.self) =
    subst (λ f. HasWritten (d.seen c.args.device.now) c.args.end c.args.block.now f) (sym c.sync.ensures.seen) c.in_ok-write_at.ensures.written in
    added_kept d.seen d.may_leave c.args.device.now c.args.end c.args.len c.requires.kept batch c.args.block.now is c.requires.room c.sync.new.self done (λ f left. c.in_ok-sync.ensures.durable f left ∙ sym c.sync.ensures.seen)
