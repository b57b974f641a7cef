use Rattle.std.proofs.Common.{None, refl, subst}
use Rattle.txn.proofs.Exits.{exit_with}
use Rattle.plan_exec.specs.Course.{record_course}
use Rattle.plan_exec.specs.Sources.{source_left}
use Rattle.plan_exec.specs.Streams.{HasGiven}
use Rattle.plan_exec.proofs.Packed.{packed_after}
use Rattle.plan_exec.proofs.Streaming.{each_none, each_not, each_stopped}
use Rattle.plan_exec.proofs.fetch_streams.FetchStream.next_packed.Goals as goal

pub returns-in_err-entry-clause-stopped : goal.returns-in_err-entry-clause-stopped
returns-in_err-entry-clause-stopped g c =
    let r = c.args.self.now.records.now in
    exit_with c.from_residual.result c.in_err-entry.field-0.0 _ c.from_residual.ensures
    (each_not (λ pairs. record_course r.store.now.prefix pairs r.definition.value) c.in_err-entry.field-0.0 c.in_err-entry.ensures.stopped)

pub returns-in_err-fetch_packed-in-Some-clause-stopped : goal.returns-in_err-fetch_packed-in-Some-clause-stopped
returns-in_err-fetch_packed-in-Some-clause-stopped g c =
    let r = c.args.self.now.records.now in
    exit_with c.from_residual-in_err-fetch_packed-in-Some.result c.in_err-fetch_packed-in-Some.field-0.0 _ c.from_residual-in_err-fetch_packed-in-Some.ensures
    (each_stopped (λ pairs. record_course r.store.now.prefix pairs r.definition.value) c.in-Some.entry
    (subst (λ o. HasGiven (g.S.Snapshot.map_at c.args.db.now) (source_left c.args.self.now.entries) o (source_left c.next.new.self) c.args.tx.now c.next.new.tx) c.in-Some.is c.in_ok-entry.ensures.given)
    c.in_err-fetch_packed-in-Some.field-0.0 c.in_err-fetch_packed-in-Some.ensures.stopped)

pub returns-in_ok-fetch_packed-in-Some-clause-packed : goal.returns-in_ok-fetch_packed-in-Some-clause-packed
returns-in_ok-fetch_packed-in-Some-clause-packed g c =
    let r = c.args.self.now.records.now in
    let told = c.in_ok-fetch_packed-in-Some.ensures.packed in
    packed_after (λ pairs. record_course r.store.now.prefix pairs r.definition.value) c.in-Some.entry
    (subst (λ o. HasGiven (g.S.Snapshot.map_at c.args.db.now) (source_left c.args.self.now.entries) o (source_left c.next.new.self) c.args.tx.now c.next.new.tx) c.in-Some.is c.in_ok-entry.ensures.given)
    told

pub returns-in-None-clause-packed : goal.returns-in-None-clause-packed
returns-in-None-clause-packed g c =
    let r = c.args.self.now.records.now in record {
      found = None;
      gave = each_none (λ pairs. record_course r.store.now.prefix pairs r.definition.value)
          (subst (λ o. HasGiven (g.S.Snapshot.map_at c.args.db.now) (source_left c.args.self.now.entries) o (source_left c.next.new.self) c.args.tx.now c.next.new.tx) c.in-None.is c.in_ok-entry.ensures.given);
      tells = refl;
      rows = refl;
    }
