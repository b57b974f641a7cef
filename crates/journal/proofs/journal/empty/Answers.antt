use Rattle.journal.proofs.Clearing.{run_cut, run_shut}
use Rattle.journal.proofs.Moments.{keeps}
use Rattle.journal.proofs.journal.empty.Goals as goal

pub returns-in_err-write_at-clause-any_moment : goal.returns-in_err-write_at-clause-any_moment
returns-in_err-write_at-clause-any_moment g c =
    let d = g.D.Device in
    let shut = run_shut d.seen d.may_leave c.args.device.now c.args.end c.args.len c.requires d.moment d.left_since g.met.D.Device.only_now c.write_at.new.self c.write_at.ensures.crash c.write_at.ensures.time in
    shut.leaves

pub returns-in_err-sync-clause-any_moment : goal.returns-in_err-sync-clause-any_moment
returns-in_err-sync-clause-any_moment g c =
    let d = g.D.Device in
    let shut = run_shut d.seen d.may_leave c.args.device.now c.args.end c.args.len c.requires d.moment d.left_since g.met.D.Device.only_now c.write_at.new.self c.write_at.ensures.crash c.write_at.ensures.time in
    let kept = keeps d.may_leave d.moment d.left_since _ _ c.write_at.new.self c.sync.new.self shut c.sync.ensures.time c.sync.ensures.crash in
    kept.leaves

pub returns-in_err-cut-clause-any_moment : goal.returns-in_err-cut-clause-any_moment
returns-in_err-cut-clause-any_moment g c =
    let d = g.D.Device in
    let shut = run_shut d.seen d.may_leave c.args.device.now c.args.end c.args.len c.requires d.moment d.left_since g.met.D.Device.only_now c.write_at.new.self c.write_at.ensures.crash c.write_at.ensures.time in
    let kept = keeps d.may_leave d.moment d.left_since _ _ c.write_at.new.self c.sync.new.self shut c.sync.ensures.time c.sync.ensures.crash in
    let cut = run_cut d.seen d.may_leave c.args.device.now c.args.end c.args.len c.requires d.moment d.left_since g.met.D.Device.only_now c.write_at.new.self c.sync.new.self c.cut.new.self kept c.in_ok-write_at.ensures.written c.in_ok-sync.ensures.durable c.cut.ensures.crash c.cut.ensures.time in
    cut.leaves

pub returns-in_err-sync-2-clause-any_moment : goal.returns-in_err-sync-2-clause-any_moment
returns-in_err-sync-2-clause-any_moment g c =
    let d = g.D.Device in
    let shut = run_shut d.seen d.may_leave c.args.device.now c.args.end c.args.len c.requires d.moment d.left_since g.met.D.Device.only_now c.write_at.new.self c.write_at.ensures.crash c.write_at.ensures.time in
    let kept = keeps d.may_leave d.moment d.left_since _ _ c.write_at.new.self c.sync.new.self shut c.sync.ensures.time c.sync.ensures.crash in
    let cut = run_cut d.seen d.may_leave c.args.device.now c.args.end c.args.len c.requires d.moment d.left_since g.met.D.Device.only_now c.write_at.new.self c.sync.new.self c.cut.new.self kept c.in_ok-write_at.ensures.written c.in_ok-sync.ensures.durable c.cut.ensures.crash c.cut.ensures.time in
    let run = keeps d.may_leave d.moment d.left_since _ _ c.cut.new.self c.sync-2.new.self cut c.sync-2.ensures.time c.sync-2.ensures.crash in
    run.leaves

pub returns-clause-any_moment : goal.returns-clause-any_moment
returns-clause-any_moment g c =
    let d = g.D.Device in
    let shut = run_shut d.seen d.may_leave c.args.device.now c.args.end c.args.len c.requires d.moment d.left_since g.met.D.Device.only_now c.write_at.new.self c.write_at.ensures.crash c.write_at.ensures.time in
    let kept = keeps d.may_leave d.moment d.left_since _ _ c.write_at.new.self c.sync.new.self shut c.sync.ensures.time c.sync.ensures.crash in
    let cut = run_cut d.seen d.may_leave c.args.device.now c.args.end c.args.len c.requires d.moment d.left_since g.met.D.Device.only_now c.write_at.new.self c.sync.new.self c.cut.new.self kept c.in_ok-write_at.ensures.written c.in_ok-sync.ensures.durable c.cut.ensures.crash c.cut.ensures.time in
    let run = keeps d.may_leave d.moment d.left_since _ _ c.cut.new.self c.sync-2.new.self cut c.sync-2.ensures.time c.sync-2.ensures.crash in
    run.leaves
