use Rattle.std.proofs.Common.{subst}
use Rattle.metadata.specs.Layout.{Pair}
use Rattle.txn.proofs.Exits.{exit_with}
use Rattle.plan_exec.specs.Course.{found_or}
use Rattle.plan_exec.specs.Reads.{stored_entry}
use Rattle.plan_exec.specs.Streams.{HasGiven, pair_at, pair_course}
use Rattle.plan_exec.proofs.BatchCourses.{pair_there}
use Rattle.plan_exec.proofs.Streaming.{each_none, each_not, made_given, made_not}
use Rattle.plan_exec.proofs.record_streams.EntryStreamStream.next.Goals as goal

pub returns-in_err-place-clause-stopped : goal.returns-in_err-place-clause-stopped
returns-in_err-place-clause-stopped g c =
    let e = c.args.self.now.entries in
    exit_with c.from_residual.result c.in_err-place.field-0.0 _ c.from_residual.ensures
    (each_not (λ pairs (pair : Pair). found_or pair.0 (stored_entry e.store.now.prefix e.definition.now e.index.now pair)) c.in_err-place.field-0.0 c.in_err-place.ensures.stopped)

pub returns-in_err-entry-in-Some-clause-stopped : goal.returns-in_err-entry-in-Some-clause-stopped
returns-in_err-entry-in-Some-clause-stopped g c =
    let e = c.args.self.now.entries in
    exit_with c.from_residual-in_err-entry-in-Some.result c.in_err-entry-in-Some.field-0.0 _ c.from_residual-in_err-entry-in-Some.ensures
    (made_not (λ (pair : Pair). pair.0) (stored_entry e.store.now.prefix e.definition.now e.index.now) c.index.result.now
    (subst (λ given. HasGiven (g.S.Snapshot.map_at c.args.db.now) (pair_course c.args.self.now.pairs) given (pair_course c.next_place.new.self) c.args.tx.now c.next_place.new.tx) (pair_there c.next_place.new.self c.in_ok-place.field-0 c.in-Some.place c.index.result.now c.in-Some.is c.in_ok-place.ensures.there c.index.ensures) c.in_ok-place.ensures.given)
    c.in_err-entry-in-Some.field-0.0 c.in_err-entry-in-Some.ensures.damaged)

pub returns-in_ok-entry-in-Some-clause-given : goal.returns-in_ok-entry-in-Some-clause-given
returns-in_ok-entry-in-Some-clause-given g c =
    let e = c.args.self.now.entries in
    made_given (λ (pair : Pair). pair.0) (stored_entry e.store.now.prefix e.definition.now e.index.now) c.index.result.now
    (subst (λ given. HasGiven (g.S.Snapshot.map_at c.args.db.now) (pair_course c.args.self.now.pairs) given (pair_course c.next_place.new.self) c.args.tx.now c.next_place.new.tx) (pair_there c.next_place.new.self c.in_ok-place.field-0 c.in-Some.place c.index.result.now c.in-Some.is c.in_ok-place.ensures.there c.index.ensures) c.in_ok-place.ensures.given)
    c.in_ok-entry-in-Some.entry c.in_ok-entry-in-Some.ensures.found

pub returns-in-None-clause-given : goal.returns-in-None-clause-given
returns-in-None-clause-given g c =
    let e = c.args.self.now.entries in
    each_none (λ pairs (pair : Pair). found_or pair.0 (stored_entry e.store.now.prefix e.definition.now e.index.now pair))
    (subst (λ place. HasGiven (g.S.Snapshot.map_at c.args.db.now) (pair_course c.args.self.now.pairs) (pair_at c.next_place.new.self place) (pair_course c.next_place.new.self) c.args.tx.now c.next_place.new.tx) c.in-None.is c.in_ok-place.ensures.given)
