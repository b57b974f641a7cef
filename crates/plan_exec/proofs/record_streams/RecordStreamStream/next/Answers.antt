use Rattle.std.proofs.Common.{subst}
use Rattle.metadata.specs.Layout.{Pair}
use Rattle.txn.proofs.Exits.{exit_with}
use Rattle.planner.specs.Layout.{stored_record}
use Rattle.plan_exec.specs.Course.{found_or}
use Rattle.plan_exec.specs.Streams.{HasGiven, pair_at, pair_course}
use Rattle.plan_exec.proofs.BatchCourses.{pair_there}
use Rattle.plan_exec.proofs.Streaming.{each_none, each_not, made_given, made_not}
use Rattle.plan_exec.proofs.record_streams.RecordStreamStream.next.Goals as goal

pub returns-in_err-place-clause-stopped : goal.returns-in_err-place-clause-stopped
returns-in_err-place-clause-stopped g c =
    let r = c.args.self.now.records.now in
    exit_with c.from_residual.result c.in_err-place.field-0.0 _ c.from_residual.ensures
    (each_not (λ pairs (pair : Pair). found_or pair.0 (stored_record r.store.now.prefix r.definition.value pair)) c.in_err-place.field-0.0 c.in_err-place.ensures.stopped)

pub returns-in_err-row-in-Some-clause-stopped : goal.returns-in_err-row-in-Some-clause-stopped
returns-in_err-row-in-Some-clause-stopped g c =
    let r = c.args.self.now.records.now in
    exit_with c.from_residual-in_err-row-in-Some.result c.in_err-row-in-Some.field-0.0 _ c.from_residual-in_err-row-in-Some.ensures
    (made_not (λ (pair : Pair). pair.0) (stored_record r.store.now.prefix r.definition.value) c.index.result.now
    (subst (λ given. HasGiven (g.S.Snapshot.map_at c.args.db.now) (pair_course c.args.self.now.pairs) given (pair_course c.next_place.new.self) c.args.tx.now c.next_place.new.tx) (pair_there c.next_place.new.self c.in_ok-place.field-0 c.in-Some.place c.index.result.now c.in-Some.is c.in_ok-place.ensures.there c.index.ensures) c.in_ok-place.ensures.given)
    c.in_err-row-in-Some.field-0.0 c.in_err-row-in-Some.ensures.damaged)

pub returns-in_ok-row-in-Some-clause-given : goal.returns-in_ok-row-in-Some-clause-given
returns-in_ok-row-in-Some-clause-given g c =
    let r = c.args.self.now.records.now in
    made_given (λ (pair : Pair). pair.0) (stored_record r.store.now.prefix r.definition.value) c.index.result.now
    (subst (λ given. HasGiven (g.S.Snapshot.map_at c.args.db.now) (pair_course c.args.self.now.pairs) given (pair_course c.next_place.new.self) c.args.tx.now c.next_place.new.tx) (pair_there c.next_place.new.self c.in_ok-place.field-0 c.in-Some.place c.index.result.now c.in-Some.is c.in_ok-place.ensures.there c.index.ensures) c.in_ok-place.ensures.given)
    c.in_ok-row-in-Some.row c.in_ok-row-in-Some.ensures.found

pub returns-in-None-clause-given : goal.returns-in-None-clause-given
returns-in-None-clause-given g c =
    let r = c.args.self.now.records.now in
    each_none (λ pairs (pair : Pair). found_or pair.0 (stored_record r.store.now.prefix r.definition.value pair))
    (subst (λ place. HasGiven (g.S.Snapshot.map_at c.args.db.now) (pair_course c.args.self.now.pairs) (pair_at c.next_place.new.self place) (pair_course c.next_place.new.self) c.args.tx.now c.next_place.new.tx) c.in-None.is c.in_ok-place.ensures.given)
