use Rattle.std.proofs.Common.{sym, ◌∙◌, ap, subst}
use Rattle.journal.specs.Device.{HasWritten}
use Rattle.journal.specs.Journal.{entries_read}
use Rattle.journal.proofs.Growing.{run_still, run_zeros, grown_kept, grown_same}
use Rattle.journal.proofs.Moments.{keeps}
use Rattle.journal.proofs.journal.grow.Goals as goal

pub returns-then-is_empty-clause-any_moment : goal.returns-then-is_empty-clause-any_moment
returns-then-is_empty-clause-any_moment g c =
    let d = g.D.Device in
    let run = run_still d.seen d.may_leave c.args.device.now c.args.end c.args.len c.requires.kept c.args.more.now c.requires.zeros d.moment d.left_since g.met.D.Device.only_now in
    run.leaves

pub returns-in_err-write_at-clause-any_moment : goal.returns-in_err-write_at-clause-any_moment
returns-in_err-write_at-clause-any_moment g c =
    let d = g.D.Device in
    let run = run_zeros d.seen d.may_leave c.args.device.now c.args.end c.args.len c.requires.kept c.args.more.now c.requires.zeros d.moment d.left_since g.met.D.Device.only_now c.write_at.new.self c.write_at.ensures.crash c.write_at.ensures.time in
    run.leaves

pub returns-in_err-sync-clause-any_moment : goal.returns-in_err-sync-clause-any_moment
returns-in_err-sync-clause-any_moment g c =
    let d = g.D.Device in
    let run = run_zeros d.seen d.may_leave c.args.device.now c.args.end c.args.len c.requires.kept c.args.more.now c.requires.zeros d.moment d.left_since g.met.D.Device.only_now c.write_at.new.self c.write_at.ensures.crash c.write_at.ensures.time in
    let kept = keeps d.may_leave d.moment d.left_since _ _ c.write_at.new.self c.sync.new.self run c.sync.ensures.time c.sync.ensures.crash in
    kept.leaves

pub returns-clause-any_moment : goal.returns-clause-any_moment
returns-clause-any_moment g c =
    let d = g.D.Device in
    let run = run_zeros d.seen d.may_leave c.args.device.now c.args.end c.args.len c.requires.kept c.args.more.now c.requires.zeros d.moment d.left_since g.met.D.Device.only_now c.write_at.new.self c.write_at.ensures.crash c.write_at.ensures.time in
    let kept = keeps d.may_leave d.moment d.left_since _ _ c.write_at.new.self c.sync.new.self run c.sync.ensures.time c.sync.ensures.crash in
    kept.leaves

pub returns-clause-grown : goal.returns-clause-grown
returns-clause-grown g c =
    let d = g.D.Device in
    let done : HasWritten (d.seen c.args.device.now) c.args.len c.args.more.now (d.seen c.sync.new.self) =
    subst (λ f. HasWritten (d.seen c.args.device.now) c.args.len c.args.more.now f) (sym c.sync.ensures.seen) c.in_ok-write_at.ensures.written in
    grown_kept d.seen d.may_leave c.args.device.now c.args.end c.args.len c.requires.kept c.args.more.now c.requires.zeros c.sync.new.self c.requires.small done (λ f left. c.in_ok-sync.ensures.durable f left ∙ sym c.sync.ensures.seen)

pub returns-clause-same : goal.returns-clause-same
returns-clause-same g c =
    let d = g.D.Device in
    ap entries_read c.sync.ensures.seen
    ∙ grown_same d.seen d.may_leave c.args.device.now c.args.end c.args.len c.requires.kept c.args.more.now c.requires.zeros (d.seen c.write_at.new.self) c.in_ok-write_at.ensures.written
