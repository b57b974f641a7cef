use Rattle.std.proofs.Common.{Some, None, refl, subst}
use Rattle.metadata.specs.Layout.{Pair}
use Rattle.txn.proofs.Exits.{exit_with}
use Rattle.planner.specs.Layout.{stored_record}
use Rattle.plan_exec.specs.Course.{found_or}
use Rattle.plan_exec.specs.Streams.{HasGiven, pair_at, pair_course}
use Rattle.plan_exec.proofs.BatchCourses.{pair_there}
use Rattle.plan_exec.proofs.Streaming.{each_none, each_not, made_given, made_not}
use Rattle.plan_exec.proofs.record_streams.RecordStream.next_packed.Goals as goal

pub returns-in_err-place-clause-stopped : goal.returns-in_err-place-clause-stopped
returns-in_err-place-clause-stopped g c =
    let r = c.args.self.now.records.now in
    exit_with c.from_residual.result c.in_err-place.field-0.0 _ c.from_residual.ensures
    (each_not (λ pairs (pair : Pair). found_or pair.0 (stored_record r.store.now.prefix r.definition.value pair)) c.in_err-place.field-0.0 c.in_err-place.ensures.stopped)

pub returns-in_err-push_record-in-Some-clause-stopped : goal.returns-in_err-push_record-in-Some-clause-stopped
returns-in_err-push_record-in-Some-clause-stopped g c =
    let r = c.args.self.now.records.now in
    exit_with c.from_residual-in_err-push_record-in-Some.result c.in_err-push_record-in-Some.field-0.0 _ c.from_residual-in_err-push_record-in-Some.ensures
    (made_not (λ (pair : Pair). pair.0) (stored_record r.store.now.prefix r.definition.value) c.index.result.now
    (subst (λ given. HasGiven (g.S.Snapshot.map_at c.args.db.now) (pair_course c.args.self.now.pairs) given (pair_course c.next_place.new.self) c.args.tx.now c.next_place.new.tx) (pair_there c.next_place.new.self c.in_ok-place.field-0 c.in-Some.place c.index.result.now c.in-Some.is c.in_ok-place.ensures.there c.index.ensures) c.in_ok-place.ensures.given)
    c.in_err-push_record-in-Some.field-0.0 c.in_err-push_record-in-Some.ensures.damaged)

pub returns-in_ok-push_record-in-Some-clause-packed : goal.returns-in_ok-push_record-in-Some-clause-packed
returns-in_ok-push_record-in-Some-clause-packed g c =
    let r = c.args.self.now.records.now in
    let told = c.in_ok-push_record-in-Some.ensures.found in record {
      found = Some told.0;
      gave = made_given (λ (pair : Pair). pair.0) (stored_record r.store.now.prefix r.definition.value) c.index.result.now
          (subst (λ given. HasGiven (g.S.Snapshot.map_at c.args.db.now) (pair_course c.args.self.now.pairs) given (pair_course c.next_place.new.self) c.args.tx.now c.next_place.new.tx) (pair_there c.next_place.new.self c.in_ok-place.field-0 c.in-Some.place c.index.result.now c.in-Some.is c.in_ok-place.ensures.there c.index.ensures) c.in_ok-place.ensures.given)
          told.0 told.1;
      tells = refl;
      rows = told.2;
    }

pub returns-in-None-clause-packed : goal.returns-in-None-clause-packed
returns-in-None-clause-packed g c =
    let r = c.args.self.now.records.now in record {
      found = None;
      gave = each_none (λ pairs (pair : Pair). found_or pair.0 (stored_record r.store.now.prefix r.definition.value pair))
          (subst (λ place. HasGiven (g.S.Snapshot.map_at c.args.db.now) (pair_course c.args.self.now.pairs) (pair_at c.next_place.new.self place) (pair_course c.next_place.new.self) c.args.tx.now c.next_place.new.tx) c.in-None.is c.in_ok-place.ensures.given);
      tells = refl;
      rows = refl;
    }
