use Rattle.std.proofs.Common.{refl, sym, subst, arith}
use Rattle.std.specs.Vec.Iter.{into_iter_items}
use Rattle.durable.specs.Standing.{image_of, log_device}
use Rattle.durable.proofs.Several.{HasCommitted, closed_at_first, committed_more, leaves_more, none_yet, stopped_there}
use Rattle.durable.proofs.database.Durable.commit_each.Goals as goal

pub loop-request-init : goal.loop-request-init
loop-request-init g c =
    let d = g.D.Device in
    let first = c.args.self.now in
    let all = c.args.requests.items in
    record {
      can_next = tt;
      is_finite = tt;
      so_far = subst (λ rest. HasCommitted d.seen d.may_leave d.moment d.left_since (log_device first) (image_of first) all rest 0 (log_device first) (image_of first)) (sym c.into_iter-request-iterator.ensures.into_iter_gives.0)
          (none_yet d.seen d.may_leave d.moment d.left_since g.met.D.Device.only_now (log_device first) (image_of first) all);
      later = omega arith;
      open_since = λ some. absurd (omega (arith, some));
      same_first = λ none. refl;
    }

pub loop-request-preserved : goal.loop-request-preserved
loop-request-preserved g c =
    let d = g.D.Device in
    let first = c.args.self.now in
    let now = c.loop-request.self in
    let new = c.commit.new.self in
    let all = c.args.requests.items in
    let so_far = subst (λ rest. HasCommitted d.seen d.may_leave d.moment d.left_since (log_device first) (image_of first) all rest c.loop-request.place (log_device now) (image_of now)) c.in-Some.ensures.steps.0 c.loop-request.invariant.so_far in
    record {
      can_next = tt;
      is_finite = tt;
      so_far = committed_more d.seen d.may_leave d.moment d.left_since (log_device first) (log_device now) (log_device new) (image_of first) (image_of now) (image_of new) all (into_iter_items c.next.new.self) c.loop-request.place c.in-Some.request c.in_default.field-0
          so_far c.in_default.ensures.committed c.in_default.ensures.any_moment c.in_default.ensures.given.0 c.in_default.ensures.given.1;
      later = omega (arith, c.loop-request.invariant.later, c.commit.ensures.later);
      open_since = λ some. c.in_default.ensures.ok;
      same_first = λ none. absurd (omega (arith, none));
    }

pub returns-in-Err-clause-any_moment : goal.returns-in-Err-clause-any_moment
returns-in-Err-clause-any_moment g c = λ base entries keeps.
    let d = g.D.Device in
    let first = c.args.self.now in
    let now = c.loop-request.self in
    let new = c.commit.new.self in
    let all = c.args.requests.items in
    let so_far = subst (λ rest. HasCommitted d.seen d.may_leave d.moment d.left_since (log_device first) (image_of first) all rest c.loop-request.place (log_device now) (image_of now)) c.in-Some.ensures.steps.0 c.loop-request.invariant.so_far in
    leaves_more d.seen d.may_leave d.moment d.left_since (log_device first) (log_device now) (log_device new) (image_of first) (image_of now) all (into_iter_items c.next.new.self) c.loop-request.place c.in-Some.request so_far c.commit.ensures.any_moment base entries keeps

pub returns-in-Err-clause-stopped : goal.returns-in-Err-clause-stopped
returns-in-Err-clause-stopped g c = λ base entries keeps.
    let d = g.D.Device in
    let first = c.args.self.now in
    let now = c.loop-request.self in
    let new = c.commit.new.self in
    let all = c.args.requests.items in
    let so_far = subst (λ rest. HasCommitted d.seen d.may_leave d.moment d.left_since (log_device first) (image_of first) all rest c.loop-request.place (log_device now) (image_of now)) c.in-Some.ensures.steps.0 c.loop-request.invariant.so_far in
    stopped_there d.seen d.may_leave d.moment d.left_since first now new all (into_iter_items c.next.new.self) c.loop-request.place c.in-Some.request c.in-Err.error so_far c.in-Err.ensures.refused c.in-Err.ensures.full c.in-Err.ensures.unseen base entries keeps

pub returns-in-Err-clause-closed : goal.returns-in-Err-clause-closed
returns-in-Err-clause-closed g c =
    let d = g.D.Device in
    let inv = c.loop-request.invariant in
    closed_at_first d.seen d.may_leave d.moment d.left_since c.args.self.now c.loop-request.self c.commit.new.self c.loop-request.place c.in-Some.request c.in-Err.error inv.open_since inv.same_first c.in-Err.ensures.refused

pub returns-in-Err-clause-unknown : goal.returns-in-Err-clause-unknown
returns-in-Err-clause-unknown g c = λ is. omega (arith, c.loop-request.invariant.later, c.in-Err.ensures.unknown is)
