use Rattle.journal.proofs.Moments.{keeps}
use Rattle.journal.proofs.Repairs.{run_cut, run_zero}
use Rattle.journal.proofs.recovery.close.Goals as goal

pub returns-in_err-cut-clause-any_moment : goal.returns-in_err-cut-clause-any_moment
returns-in_err-cut-clause-any_moment g c =
    let d = g.D.Device in
    let is_cut = run_cut d.seen d.may_leave c.args.device.now c.args.end c.requires.ends c.requires.small c.requires.durable d.moment d.left_since g.met.D.Device.only_now c.cut.new.self c.cut.ensures.crash c.cut.ensures.time in
    is_cut.leaves

pub returns-in_err-write_at-clause-any_moment : goal.returns-in_err-write_at-clause-any_moment
returns-in_err-write_at-clause-any_moment g c =
    let d = g.D.Device in
    let is_cut = run_cut d.seen d.may_leave c.args.device.now c.args.end c.requires.ends c.requires.small c.requires.durable d.moment d.left_since g.met.D.Device.only_now c.cut.new.self c.cut.ensures.crash c.cut.ensures.time in
    let zero = run_zero d.seen d.may_leave c.args.device.now c.args.end c.requires.ends c.requires.small c.requires.durable d.moment d.left_since g.met.D.Device.only_now c.cut.new.self c.write_at.new.self is_cut c.cut.ensures.crash c.write_at.ensures.crash c.write_at.ensures.time in
    zero.leaves

pub returns-in_err-sync-clause-any_moment : goal.returns-in_err-sync-clause-any_moment
returns-in_err-sync-clause-any_moment g c =
    let d = g.D.Device in
    let is_cut = run_cut d.seen d.may_leave c.args.device.now c.args.end c.requires.ends c.requires.small c.requires.durable d.moment d.left_since g.met.D.Device.only_now c.cut.new.self c.cut.ensures.crash c.cut.ensures.time in
    let zero = run_zero d.seen d.may_leave c.args.device.now c.args.end c.requires.ends c.requires.small c.requires.durable d.moment d.left_since g.met.D.Device.only_now c.cut.new.self c.write_at.new.self is_cut c.cut.ensures.crash c.write_at.ensures.crash c.write_at.ensures.time in
    let kept = keeps d.may_leave d.moment d.left_since _ _ c.write_at.new.self c.sync.new.self zero c.sync.ensures.time c.sync.ensures.crash in
    kept.leaves

pub returns-clause-any_moment : goal.returns-clause-any_moment
returns-clause-any_moment g c =
    let d = g.D.Device in
    let is_cut = run_cut d.seen d.may_leave c.args.device.now c.args.end c.requires.ends c.requires.small c.requires.durable d.moment d.left_since g.met.D.Device.only_now c.cut.new.self c.cut.ensures.crash c.cut.ensures.time in
    let zero = run_zero d.seen d.may_leave c.args.device.now c.args.end c.requires.ends c.requires.small c.requires.durable d.moment d.left_since g.met.D.Device.only_now c.cut.new.self c.write_at.new.self is_cut c.cut.ensures.crash c.write_at.ensures.crash c.write_at.ensures.time in
    let kept = keeps d.may_leave d.moment d.left_since _ _ c.write_at.new.self c.sync.new.self zero c.sync.ensures.time c.sync.ensures.crash in
    kept.leaves
