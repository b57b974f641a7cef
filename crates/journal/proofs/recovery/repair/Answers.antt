use Rattle.std.proofs.Common.{◌≡◌, ◌<◌, ◌^◌, List, ℕ, length, sym, ◌∙◌, ap, subst, arith}
use Rattle.journal.specs.Block.{StandsFor}
use Rattle.journal.specs.Journal.{entries_read}
use Rattle.journal.specs.Recovery.{TookFirst, EntriesEndAt}
use Rattle.journal.proofs.Moments.{reads_none, reads_more, reads_on}
use Rattle.journal.proofs.Recoveries.{as_before, as_repaired}
use Rattle.journal.proofs.Replays.{took_none}
use Rattle.journal.proofs.Repairs.{whole, closed_again, stands_again, rests, settled_again}
use Rattle.journal.proofs.recovery.repair.Goals as goal

is_small : (two one : List ℕ) (len : ℕ) → two ≡ one → len ≡ length one → len < 2 ^ 63 → length two < 2 ^ 63
is_small two one len same is less = omega (arith, ap length same, is, less)

pub returns-in_err-sync-clause-any_moment : goal.returns-in_err-sync-clause-any_moment
returns-in_err-sync-clause-any_moment g c =
    let d = g.D.Device in
    let one = reads_more d.seen d.may_leave d.moment d.left_since c.args.device.now c.args.device.now c.sync.new.self (reads_none d.seen d.may_leave d.moment d.left_since c.args.device.now) c.sync.ensures.seen c.sync.ensures.crash c.sync.ensures.time in
    as_before d.seen d.may_leave d.moment d.left_since g.met.D.Device.only_now c.args.device.now c.sync.new.self one

pub returns-in_err-sync-clause-took_first : goal.returns-in_err-sync-clause-took_first
returns-in_err-sync-clause-took_first g c =
    took_none _ _

pub returns-in_err-len-clause-any_moment : goal.returns-in_err-len-clause-any_moment
returns-in_err-len-clause-any_moment g c =
    let d = g.D.Device in
    let one = reads_more d.seen d.may_leave d.moment d.left_since c.args.device.now c.args.device.now c.sync.new.self (reads_none d.seen d.may_leave d.moment d.left_since c.args.device.now) c.sync.ensures.seen c.sync.ensures.crash c.sync.ensures.time in
    let two = reads_more d.seen d.may_leave d.moment d.left_since c.args.device.now c.sync.new.self c.len.new.self one c.len.ensures.seen c.len.ensures.crash c.len.ensures.time in
    as_before d.seen d.may_leave d.moment d.left_since g.met.D.Device.only_now c.args.device.now c.len.new.self two

pub returns-in_err-len-clause-took_first : goal.returns-in_err-len-clause-took_first
returns-in_err-len-clause-took_first g c =
    took_none _ _

pub returns-in_err-end-clause-any_moment : goal.returns-in_err-end-clause-any_moment
returns-in_err-end-clause-any_moment g c =
    let d = g.D.Device in
    let one = reads_more d.seen d.may_leave d.moment d.left_since c.args.device.now c.args.device.now c.sync.new.self (reads_none d.seen d.may_leave d.moment d.left_since c.args.device.now) c.sync.ensures.seen c.sync.ensures.crash c.sync.ensures.time in
    let two = reads_more d.seen d.may_leave d.moment d.left_since c.args.device.now c.sync.new.self c.len.new.self one c.len.ensures.seen c.len.ensures.crash c.len.ensures.time in
    let three = reads_on d.seen d.may_leave d.moment d.left_since c.args.device.now c.len.new.self c.replay.new.device two c.replay.ensures.reads in
    as_before d.seen d.may_leave d.moment d.left_since g.met.D.Device.only_now c.args.device.now c.replay.new.device three

pub returns-in_err-end-clause-took_first : goal.returns-in_err-end-clause-took_first
returns-in_err-end-clause-took_first g c =
    let d = g.D.Device in
    let same2 : d.seen c.len.new.self ≡ d.seen c.args.device.now = c.len.ensures.seen ∙ c.sync.ensures.seen in
    subst (λ f. TookFirst (g.S.Sink.took c.args.sink.now) (g.S.Sink.took c.replay.new.sink) (entries_read f)) same2 c.replay.ensures.took_first

pub close-requires : goal.close-requires
close-requires g c =
    let d = g.D.Device in
    let same2 : d.seen c.len.new.self ≡ d.seen c.args.device.now = c.len.ensures.seen ∙ c.sync.ensures.seen in
    let same3 : d.seen c.replay.new.device ≡ d.seen c.args.device.now = c.replay.ensures.reads.same ∙ same2 in
    let small = is_small (d.seen c.len.new.self) (d.seen c.sync.new.self) c.in_ok-len.len c.len.ensures.seen c.in_ok-len.ensures.len c.in_ok-len.ensures.small in
    record {
      ends = subst (λ f. EntriesEndAt f c.in_ok-end.end) (sym c.replay.ensures.reads.same) c.in_ok-end.ensures.ends;
      small = omega (arith, ap length c.replay.ensures.reads.same, small);
      durable = λ f left. c.in_ok-sync.ensures.durable f (c.len.ensures.crash f (c.replay.ensures.reads.crash f left)) ∙ sym same3;
    }

pub returns-in_err-close-clause-any_moment : goal.returns-in_err-close-clause-any_moment
returns-in_err-close-clause-any_moment g c =
    let d = g.D.Device in
    let one = reads_more d.seen d.may_leave d.moment d.left_since c.args.device.now c.args.device.now c.sync.new.self (reads_none d.seen d.may_leave d.moment d.left_since c.args.device.now) c.sync.ensures.seen c.sync.ensures.crash c.sync.ensures.time in
    let two = reads_more d.seen d.may_leave d.moment d.left_since c.args.device.now c.sync.new.self c.len.new.self one c.len.ensures.seen c.len.ensures.crash c.len.ensures.time in
    let three = reads_on d.seen d.may_leave d.moment d.left_since c.args.device.now c.len.new.self c.replay.new.device two c.replay.ensures.reads in
    as_repaired d.seen d.may_leave d.moment d.left_since g.met.D.Device.only_now c.args.device.now c.len.new.self c.replay.new.device c.close.new.device c.in_ok-end.end two three c.in_ok-end.ensures.ends
    (is_small (d.seen c.len.new.self) (d.seen c.sync.new.self) c.in_ok-len.len c.len.ensures.seen c.in_ok-len.ensures.len c.in_ok-len.ensures.small) c.close.ensures.any_moment

pub returns-in_err-close-clause-took_first : goal.returns-in_err-close-clause-took_first
returns-in_err-close-clause-took_first g c =
    let d = g.D.Device in
    let same2 : d.seen c.len.new.self ≡ d.seen c.args.device.now = c.len.ensures.seen ∙ c.sync.ensures.seen in
    subst (λ f. TookFirst (g.S.Sink.took c.args.sink.now) (g.S.Sink.took c.replay.new.sink) (entries_read f)) same2 c.replay.ensures.took_first

pub returns-clause-any_moment : goal.returns-clause-any_moment
returns-clause-any_moment g c =
    let d = g.D.Device in
    let one = reads_more d.seen d.may_leave d.moment d.left_since c.args.device.now c.args.device.now c.sync.new.self (reads_none d.seen d.may_leave d.moment d.left_since c.args.device.now) c.sync.ensures.seen c.sync.ensures.crash c.sync.ensures.time in
    let two = reads_more d.seen d.may_leave d.moment d.left_since c.args.device.now c.sync.new.self c.len.new.self one c.len.ensures.seen c.len.ensures.crash c.len.ensures.time in
    let read = reads_on d.seen d.may_leave d.moment d.left_since c.args.device.now c.len.new.self c.replay.new.device two c.replay.ensures.reads in
    as_repaired d.seen d.may_leave d.moment d.left_since g.met.D.Device.only_now c.args.device.now c.len.new.self c.replay.new.device c.close.new.device c.in_ok-end.end two read c.in_ok-end.ensures.ends
    (is_small (d.seen c.len.new.self) (d.seen c.sync.new.self) c.in_ok-len.len c.len.ensures.seen c.in_ok-len.ensures.len c.in_ok-len.ensures.small) c.close.ensures.any_moment

pub returns-clause-took_first : goal.returns-clause-took_first
returns-clause-took_first g c =
    let d = g.D.Device in
    let same2 : d.seen c.len.new.self ≡ d.seen c.args.device.now = c.len.ensures.seen ∙ c.sync.ensures.seen in
    subst (λ f. TookFirst (g.S.Sink.took c.args.sink.now) (g.S.Sink.took c.replay.new.sink) (entries_read f)) same2 c.replay.ensures.took_first

pub returns-clause-whole : goal.returns-clause-whole
returns-clause-whole g c =
    let d = g.D.Device in
    let same2 : d.seen c.len.new.self ≡ d.seen c.args.device.now = c.len.ensures.seen ∙ c.sync.ensures.seen in
    let small = is_small (d.seen c.len.new.self) (d.seen c.sync.new.self) c.in_ok-len.len c.len.ensures.seen c.in_ok-len.ensures.len c.in_ok-len.ensures.small in
    subst (λ f. StandsFor f (entries_read f)) same2 (whole (d.seen c.len.new.self) c.in_ok-end.end c.in_ok-end.ensures.ends small)

pub returns-clause-settled : goal.returns-clause-settled
returns-clause-settled g c =
    let small = is_small (g.D.Device.seen c.len.new.self) (g.D.Device.seen c.sync.new.self) c.in_ok-len.len c.len.ensures.seen c.in_ok-len.ensures.len c.in_ok-len.ensures.small in
    let closed = closed_again (g.D.Device.seen c.len.new.self) c.in_ok-end.end c.in_ok-end.ensures.ends small _ _ c.replay.ensures.reads.same c.in_ok-close.ensures.closed in
    settled_again (g.D.Device.seen c.len.new.self) c.in_ok-end.end c.in_ok-end.ensures.ends small g.D.Device.seen g.D.Device.may_leave c.close.new.device closed c.in_ok-close.ensures.durable

pub returns-clause-at_rest : goal.returns-clause-at_rest
returns-clause-at_rest g c =
    let small = is_small (g.D.Device.seen c.len.new.self) (g.D.Device.seen c.sync.new.self) c.in_ok-len.len c.len.ensures.seen c.in_ok-len.ensures.len c.in_ok-len.ensures.small in
    let closed = closed_again (g.D.Device.seen c.len.new.self) c.in_ok-end.end c.in_ok-end.ensures.ends small _ _ c.replay.ensures.reads.same c.in_ok-close.ensures.closed in
    rests (g.D.Device.seen c.len.new.self) c.in_ok-end.end c.in_ok-end.ensures.ends small (g.D.Device.seen c.close.new.device) closed

pub returns-clause-same : goal.returns-clause-same
returns-clause-same g c =
    let small = is_small (g.D.Device.seen c.len.new.self) (g.D.Device.seen c.sync.new.self) c.in_ok-len.len c.len.ensures.seen c.in_ok-len.ensures.len c.in_ok-len.ensures.small in
    let closed = closed_again (g.D.Device.seen c.len.new.self) c.in_ok-end.end c.in_ok-end.ensures.ends small _ _ c.replay.ensures.reads.same c.in_ok-close.ensures.closed in
    let stands = stands_again (g.D.Device.seen c.len.new.self) c.in_ok-end.end c.in_ok-end.ensures.ends small (g.D.Device.seen c.close.new.device) closed in
    subst (λ f. StandsFor (g.D.Device.seen c.close.new.device) (entries_read f)) (c.len.ensures.seen ∙ c.sync.ensures.seen) stands
